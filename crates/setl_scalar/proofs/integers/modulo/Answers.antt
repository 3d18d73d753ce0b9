use Rattle.std.proofs.Common.{◌≡◌, ◌<◌, sym, arith, subst, FitsSigned, rules}
use Rattle.std.specs.Int.{w128, cast_unsigned}
use Rattle.std.specs.Prelude.{unsigned_abs, ℤ, pos, negsuc}
use Rattle.std.proofs.lemmas.Int.{to_z-of_z}
use Rattle.setl_scalar.specs.Integers.{IsRemainder}
use Rattle.setl_scalar.proofs.Remainders.{remainder}
use Rattle.setl_scalar.proofs.integers.modulo.Goals as goal

not_zero : (b : ℤ) → (cast_unsigned w128 b ≡ 0 → ⊥) → 0 < unsigned_abs b
not_zero (pos n) h = omega arith
not_zero (negsuc n) h = omega arith

pub returns-clause-remainder : goal.returns-clause-remainder
returns-clause-remainder c =
    let a : FitsSigned w128 c.args.a = c.ranges.a in
    let b : FitsSigned w128 c.args.b = c.ranges.b in
    let r : FitsSigned w128 c.wrapping_rem_euclid.result = search rules in
    let h = simp to_z-of_z at c.wrapping_rem_euclid.ensures in
    simp to_z-of_z (subst (IsRemainder c.args.a c.args.b) (sym h) (remainder c.args.a c.args.b (not_zero c.args.b c.if-b-eq0.false)))
