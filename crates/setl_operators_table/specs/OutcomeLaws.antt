-- What a depth decides of a value, and a charge of what is made for it.
use Rattle.std.specs.Prelude.{◌≡◌, ℕ, ◌<◌, ◌≤◌, true, false, nat_le}
use Rattle.std.specs.Bool.{if◌then◌else◌}
use Rattle.std.proofs.Common.{ap, arith}
use Rattle.std.proofs.lemmas.Bool.Decides.{nat_tests}
use Rattle.setl_value.specs.Datum.{Datum, depth}
use Rattle.setl_operators_table.specs.Outcome.{Outcome, Fails, Overspends, DeepFault, value, adding, charging, within_depth}

pub shallow : (d : Datum) → depth d ≤ 500 → within_depth d ≡ value d
shallow d h = let t : nat_le (depth d) 500 ≡ true = grind (arith, nat_tests) in ap (λ b. if b then value d else Fails DeepFault) t

pub too_deep : (d : Datum) → 500 < depth d → within_depth d ≡ Fails DeepFault
too_deep d h = let t : nat_le (depth d) 500 ≡ false = grind (arith, nat_tests) in ap (λ b. if b then value d else Fails DeepFault) t

pub paid : (n left : ℕ) (o : Outcome) → n ≤ left → charging n left o ≡ adding n o
paid n left o h = let t : nat_le n left ≡ true = grind (arith, nat_tests) in ap (λ b. if b then adding n o else Overspends) t

pub spent : (n left : ℕ) (o : Outcome) → left < n → charging n left o ≡ Overspends
spent n left o h = let t : nat_le n left ≡ false = grind (arith, nat_tests) in ap (λ b. if b then adding n o else Overspends) t
