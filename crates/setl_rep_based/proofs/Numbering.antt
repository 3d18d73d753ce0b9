-- The numbers of a set as a list, and the set of the members at a list of numbers.
use Rattle.std.proofs.Common.{◌≡◌, ℕ, ◌≤◌, Bool, true, List, [], ◌∷◌, ⊎_elim, refl, ap, arith}
use Rattle.std.specs.Ordering.{nat_cmp, eq_by_cmp, is_eq}
use Rattle.std.proofs.lemmas.Bool.{false≢true, or_left, or_right, or_cases}
use Rattle.std.proofs.lemmas.Bool.Decides.{nat_tests, same_from_decides}
use Rattle.setl_value.specs.Datum.{Datum, depth, set_of, elements_of, elements_depth}
use Rattle.setl_value.specs.Order.{datum_cmp}
use Rattle.setl_value.specs.OrderLaws.{same_if_eq, eq_iff_same}
use Rattle.setl_set.specs.Sets.{has_datum, set_from}
use Rattle.setl_set.specs.Laws.{TestsMembership, Gathers}

agree : (a b : Bool) → (a ≡ true → b ≡ true) → (b ≡ true → a ≡ true) → a ≡ b
agree a b f g = same_from_decides a b (f, g) (λ p. p, λ p. p)

same_number : (n k : ℕ) → eq_by_cmp nat_cmp n k ≡ true → n ≡ k
same_number n k h = grind (arith, nat_tests)

number_itself : (n : ℕ) → eq_by_cmp nat_cmp n n ≡ true
number_itself n = grind (arith, nat_tests)

-- ---- depth

deep_member : (xs : List Datum) (d : Datum) → has_datum d xs ≡ true → depth d ≤ elements_depth (elements_of xs)
deep_member [] d h = absurd (false≢true h)
deep_member (x ∷ xs) d h =
    ⊎_elim (λ e. omega (arith, ap depth (same_if_eq d x e))) (λ r. omega (arith, deep_member xs d r)) (or_cases (is_eq (datum_cmp d x)) (has_datum d xs) h)

-- the members of the first are members of the second
pub within_depth : (ds xs : List Datum) → ((d : Datum) → has_datum d ds ≡ true → has_datum d xs ≡ true) → elements_depth (elements_of ds) ≤ elements_depth (elements_of xs)
within_depth [] xs h = omega arith
within_depth (d ∷ ds) xs h =
    omega (
      arith,
      deep_member xs d (h d (or_left (is_eq (datum_cmp d d)) (has_datum d ds) ((eq_iff_same d d).1 refl))),
      within_depth ds xs (λ e r. h e (or_right (is_eq (datum_cmp e d)) (has_datum e ds) r)),
    )

pub gathered_depth : TestsMembership → Gathers → (ds : List Datum) → depth (set_of ds) ≤ depth (set_of (set_from ds))
gathered_depth tests gathers ds =
    omega (arith, within_depth ds (set_from ds) (λ d h. (tests d (set_from ds)).1 (((gathers ds).members d).1 ((tests d ds).0 h))))
