use Rattle.setl_names.specs.Breaks as names
use Rattle.setl_modes_declarations.specs.Declares as declarations
use Rattle.setl_top_rules.proofs.Breaking.{first_found}
use Rattle.setl_top_rules.proofs.rules.sound.Goals as goal

pub returns : goal.returns
returns c =
    first_found (names.breaks c.args.tree.now) (declarations.breaks c.args.tree.now) c.in_ok-resolved.resolved.first c.in_ok-second.second c.earlier_of.result c.in-Some.found
    c.in_ok-resolved.ensures.first c.in_ok-second.ensures.first c.earlier_of.ensures c.in-Some.is
