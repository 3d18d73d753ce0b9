use Rattle.std.proofs.Common.{◌∙◌}
use Rattle.setl_code_events.proofs.Names.{name_in_global, name_in_none, name_in_own}
use Rattle.setl_code_events.proofs.events.name_of.Goals as goal

pub returns-in-Global : goal.returns-in-Global
returns-in-Global c = c.global_name.ensures ∙ name_in_global c.args.code.now c.args.body c.in-Global.k c.args.slot c.in-Global.is

pub returns-in-None : goal.returns-in-None
returns-in-None c = name_in_none c.args.code.now c.args.body c.in-Own.k c.args.slot c.in-Own.is c.in-None.ensures.none

pub returns-in-Some : goal.returns-in-Some
returns-in-Some c = c.own_name.ensures ∙ name_in_own c.args.code.now c.args.body c.in-Own.k c.args.slot c.in-Some.body.now c.in-Own.is c.in-Some.ensures.some
