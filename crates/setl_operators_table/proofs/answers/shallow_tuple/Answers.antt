use Rattle.std.proofs.Common.{subst, sym}
use Rattle.setl_value.specs.Datum.{tuple_of}
use Rattle.setl_operators_table.specs.code.Answers.{Tells}
use Rattle.setl_operators_table.specs.OutcomeLaws.{shallow}
use Rattle.setl_operators_table.proofs.answers.shallow_tuple.Goals as goal

pub returns : goal.returns
returns c = subst (Tells c.tuple.result) (sym (shallow (tuple_of (c.args.t)) c.learn.ensures.1)) c.tuple.ensures
