use Rattle.std.proofs.Common.{arith, ◌∙◌}
use Rattle.setl_operators_enumerations.proofs.Binomials.{next_is}
use Rattle.setl_operators_enumerations.proofs.counts.next_count.Goals as goal

pub returns-then-next-from : goal.returns-then-next-from
returns-then-next-from c = let e = next_is c.args.m c.args.i c.from.result (c.from.ensures ∙ c.requires.0) in (e, omega (arith, e))

pub returns-else-next-from : goal.returns-else-next-from
returns-else-next-from c = omega (arith, next_is c.args.m c.args.i c.from.result (c.from.ensures ∙ c.requires.0))
