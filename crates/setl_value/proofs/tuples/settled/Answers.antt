use Rattle.std.proofs.Common.{ap, arith}
use Rattle.setl_value.proofs.Fronts.{deep_of, drop_less}
use Rattle.setl_value.proofs.tuples.settled.Goals as goal

pub returns-clause-shallow : goal.returns-clause-shallow
returns-clause-shallow c = omega (arith, ap deep_of c.in_ok-drop_front.ensures.dropped, drop_less c.args.start c.args.parts.now.value.items)
