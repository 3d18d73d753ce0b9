-- What two values that are combined charge is at most the turns that are left.
use Rattle.std.proofs.Common.{◌≡◌, subst, refl, ℕ, ◌≤◌, Bool, true, false, Option, arith}
use Rattle.std.specs.Prelude.{ℤ, pos, negsuc, Result, Ok, Err, nat_le, if◌then◌else◌}
use Rattle.std.proofs.lemmas.Bool.Decides.{nat_tests}
use Rattle.setl_scalar.specs.declared.ScalarFault.{ScalarFault}
use Rattle.setl_scalar.specs.declared.ScalarFault.TheVariants.{Wide, Zero, Range, NoMemory}
use Rattle.setl_scalar.specs.Integers.{add_of, mul_of}
use Rattle.setl_value.specs.Datum.{Datum, bool, int, text, tuple, set}
use Rattle.setl_operators_table.specs.Outcome.{Outcome, Gives, Fails, Overspends, adding, charging, value}
use Rattle.setl_operators_table.specs.Numbers.{whole, plus, times, replicated, greater, lesser}
use Rattle.setl_operators_table.specs.Truths.{both, either}
use Rattle.setl_operators.specs.declared.folds.Combination.{Combination}
use Rattle.setl_operators.specs.declared.folds.Combination.TheVariants.{Sum, Product, Greatest, Least, All, Any}
use Rattle.setl_operators.specs.Combinations.{combination}

-- the charge of an outcome, and 0 where it gives nothing
abbrev pub charge : Outcome → ℕ
charge (Gives v n) = n
charge (Fails f) = 0
charge Overspends = 0

free_whole : (r : Result ℤ ScalarFault) → charge (whole r) ≡ 0
free_whole (Ok z) = refl
free_whole (Err Wide) = refl
free_whole (Err Zero) = refl
free_whole (Err Range) = refl
free_whole (Err NoMemory) = refl

free_plus : (a b : Datum) → charge (plus a b) ≡ 0
free_plus (int a) (int b) = free_whole (add_of a b)
free_plus (set a) (set b) = refl
free_plus (tuple a) (tuple b) = refl
free_plus (text a) (text b) = refl
free_plus a b = refl

free_greater : (a b : Datum) → charge (greater a b) ≡ 0
free_greater (int a) (int b) = refl
free_greater a b = refl

free_lesser : (a b : Datum) → charge (lesser a b) ≡ 0
free_lesser (int a) (int b) = refl
free_lesser a b = refl

free_both : (a b : Datum) → charge (both a b) ≡ 0
free_both (bool a) (bool b) = refl
free_both a b = refl

free_either : (a b : Datum) → charge (either a b) ≡ 0
free_either (bool a) (bool b) = refl
free_either a b = refl

charged_within : (n left : ℕ) (d : Datum) (b : Bool) → nat_le n left ≡ b → charge (if b then adding n (value d) else Overspends) ≤ left
charged_within n left d true h = let fits : n ≤ left = grind (arith, nat_tests) in omega arith
charged_within n left d false h = omega arith

within_charging : (n left : ℕ) (d : Datum) → charge (charging n left (value d)) ≤ left
within_charging n left d = charged_within n left d (nat_le n left) refl

nothing : (left : ℕ) (o : Outcome) → charge o ≡ 0 → charge o ≤ left
nothing left o h = omega arith

within_replicated : (left : ℕ) (n : ℤ) (d : Datum) → charge (replicated left n d) ≤ left
within_replicated left (pos n) (tuple ps) = within_charging n left _
within_replicated left (pos n) (text t) = within_charging n left _
within_replicated left (negsuc n) (tuple ps) = omega arith
within_replicated left (negsuc n) (text t) = omega arith
within_replicated left n d = omega arith

within_times : (left : ℕ) (a b : Datum) → charge (times left a b) ≤ left
within_times left (int a) (int b) = nothing left (whole (mul_of a b)) (free_whole (mul_of a b))
within_times left (set a) (set b) = omega arith
within_times left (int n) d = within_replicated left n d
within_times left d (int n) = within_replicated left n d
within_times left a b = omega arith

within : (by : Combination) (left : ℕ) (a b : Datum) → charge (combination by left a b) ≤ left
within Sum left a b = nothing left (plus a b) (free_plus a b)
within Product left a b = within_times left a b
within Greatest left a b = nothing left (greater a b) (free_greater a b)
within Least left a b = nothing left (lesser a b) (free_lesser a b)
within All left a b = nothing left (both a b) (free_both a b)
within Any left a b = nothing left (either a b) (free_either a b)

-- so is what a combination that gives something charges
pub within_left : (by : Combination) (left : ℕ) (a b : Datum) (v : Option Datum) (n : ℕ) → combination by left a b ≡ Gives v n → n ≤ left
within_left by left a b v n h = subst (λ o. charge o ≤ left) h (within by left a b)
