-- A checked operation of std gives the number where it fits.
use Rattle.std.proofs.Common.{sym, ap, ◌∙◌, arith}
use Rattle.std.proofs.lemmas.Bool.Decides.{nat_tests}
use Rattle.std.specs.Prelude.{◌≡◌, ℤ, pos, negsuc, ◌<◌, ◌^◌, Bool, true, false, Option, Some, None, Ok, Err, FitsSigned, cond, refl}
use Rattle.std.specs.Option.{SomeIff, ok_or}
use Rattle.std.specs.Int.{w128}
use Rattle.setl_scalar.specs.declared.ScalarFault.TheVariants.{Wide}
use Rattle.setl_scalar.specs.Integers.{narrow, fits}

pub fits_from_signed : (z : ℤ) → FitsSigned w128 z → fits z ≡ true
fits_from_signed (pos n) h = let k : n < 2 ^ 127 = h.sfits in grind (arith, nat_tests)
fits_from_signed (negsuc n) h = let k : n < 2 ^ 127 = h.sfits in grind (arith, nat_tests)

pub signed_from_fits : (z : ℤ) → fits z ≡ true → FitsSigned w128 z
signed_from_fits (pos n) h = let k : n < 2 ^ 127 = grind (arith, nat_tests) in record { sfits = k }
signed_from_fits (negsuc n) h = let k : n < 2 ^ 127 = grind (arith, nat_tests) in record { sfits = k }

narrow_fit : (z : ℤ) → fits z ≡ true → Ok z ≡ narrow z
narrow_fit z h = sym (ap (λ b. cond b (Ok z) (Err Wide)) h)

narrow_unfit : (z : ℤ) → (fits z ≡ true → ⊥) → Err Wide ≡ narrow z
narrow_unfit z h = go (fits z) h
  where
    go : (b : Bool) → (b ≡ true → ⊥) → Err Wide ≡ cond b (Ok z) (Err Wide)
    go true h = absurd (h refl)
    go false h = refl

pub narrow_from_checked : (o : Option ℤ) (z : ℤ) → SomeIff o (FitsSigned w128 z) z → ok_or o Wide ≡ narrow z
narrow_from_checked None z h = narrow_unfit z (λ k. h (signed_from_fits z k))
narrow_from_checked (Some x) z h = ap Ok h.1 ∙ narrow_fit z (fits_from_signed z h.0)
