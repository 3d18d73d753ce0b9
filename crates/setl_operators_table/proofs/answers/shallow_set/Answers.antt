use Rattle.std.proofs.Common.{subst, sym}
use Rattle.setl_value.specs.code.Body.{Members}
use Rattle.setl_value.specs.Datum.{set_of}
use Rattle.setl_operators_table.specs.code.Answers.{Tells}
use Rattle.setl_operators_table.specs.OutcomeLaws.{shallow}
use Rattle.setl_operators_table.proofs.answers.shallow_set.Goals as goal

pub returns : goal.returns
returns c = subst (Tells c.set.result) (sym (shallow (set_of (Members c.args.s)) c.learn.ensures.1)) c.set.ensures
