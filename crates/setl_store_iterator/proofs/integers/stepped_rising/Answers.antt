use Rattle.std.proofs.Common.{sym, ◌∙◌, arith, ◌<ℤ◌}
use Rattle.std.specs.Int.{w128}
use Rattle.std.proofs.lemmas.Int.{ints, to_z-of_z}
use Rattle.setl_operators_table.specs.Ranges.{step_from}
use Rattle.setl_store_iterator.proofs.IntegerSteps.{rising_steps}
use Rattle.setl_store_iterator.proofs.integers.stepped_rising.Goals as goal

pub returns-then-a-b : goal.returns-then-a-b
returns-then-a-b c =
    let a = c.args.a in
    let b = c.args.b in
    let z = c.args.c in
    let p = to_z-of_z w128 a c.ranges.a in
    let q = to_z-of_z w128 b c.ranges.b in
    let up : a <ℤ b = omega (arith, ints, c.if-a-b.true, p, q) in
    c.stepped.ensures ∙ (λ i. step_from (p i) (q i) (to_z-of_z w128 z c.ranges.c i)) ∙ sym (rising_steps a b z up)
