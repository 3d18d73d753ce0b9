-- The membership laws of the operations.
use Rattle.std.specs.Prelude.{◌≡◌, ◌⊎◌, Bool, true, not, ◌&&◌, ◌||◌, List, [], ◌∷◌, ◌++◌, refl}
use Rattle.std.specs.Bool.{Decides}
use Rattle.std.specs.List.{Contains}
use Rattle.std.specs.Ordering.{is_eq}
use Rattle.std.proofs.Common.{sym, ◌∙◌, subst, inl, inr}
use Rattle.std.proofs.lemmas.Bool.Decides.{Decides-and, Decides-or, Decides-not, Decides-like, same_from_decides}
use Rattle.std.proofs.lemmas.Bool.{false≢true, and_parts, and_from, or_cases, or_left, or_right}
use Rattle.setl_value.specs.Datum.{Datum}
use Rattle.setl_value.specs.Order.{datum_cmp, IsRising}
use Rattle.setl_set.specs.Sets.{has_datum, is_subset, insert_datum, remove_datum, set_from, union_of, minus_of, meet_of, symm_of}
use Rattle.setl_set.specs.Laws.{IsSetOf, RisingListsAgree, TestsMembership, TestsSubset, Inserts, Removes, Gathers, Unites, Subtracts, Intersects, Differs}
use Rattle.setl_set.proofs.Members.{has_decides, eq_decides, itself, rising_unique}
use Rattle.setl_set.proofs.Results.{has_insert, rising_insert, has_set_from, rising_set_from, has_union, has_remove, has_minus, has_meet, has_symm, rising_filter}

-- a rising list whose test of membership decides P
pub set_from_test : (P : Datum → Type 0) (ds : List Datum) (test : Datum → Bool) → IsRising ds → ((d : Datum) → has_datum d ds ≡ test d) → ((d : Datum) → Decides (test d) (P d)) → IsSetOf P ds
set_from_test P ds test r h t = record {
  rising = r;
  members = λ d. (
    λ c. (t d).0 (sym (h d) ∙ (has_decides d ds).1 c),
    λ p. (has_decides d ds).0 (h d ∙ (t d).1 p),
  );
}

pub rising_lists_agree : RisingListsAgree
rising_lists_agree xs ys r s h =
    rising_unique xs ys r s (λ d. same_from_decides (has_datum d xs) (has_datum d ys) (has_decides d xs) (Decides-like (has_datum d ys) (h d).1 (h d).0 (has_decides d ys)))

pub tests_membership : TestsMembership
tests_membership d ds = has_decides d ds

each_has : (xs ys : List Datum) → is_subset xs ys ≡ true → (d : Datum) → has_datum d xs ≡ true → has_datum d ys ≡ true
each_has [] ys h d p = absurd (false≢true p)
each_has (x ∷ xs) ys h d p =
    let parts = and_parts (has_datum x ys) (is_subset xs ys) h in
    elim (or_cases (is_eq (datum_cmp d x)) (has_datum d xs) p) [
      | inl e ↦ subst (λ z. has_datum z ys ≡ true) (sym ((eq_decides d x).0 e)) parts.0
      | inr q ↦ each_has xs ys parts.1 d q
    ]

has_each : (xs ys : List Datum) → ((d : Datum) → has_datum d xs ≡ true → has_datum d ys ≡ true) → is_subset xs ys ≡ true
has_each [] ys h = refl
has_each (x ∷ xs) ys h =
    and_from (has_datum x ys) (is_subset xs ys) (h x (or_left (is_eq (datum_cmp x x)) (has_datum x xs) (itself x)))
    (has_each xs ys (λ d p. h d (or_right (is_eq (datum_cmp d x)) (has_datum d xs) p)))

pub tests_subset : TestsSubset
tests_subset xs ys = (
  λ h d c. (has_decides d ys).0 (each_has xs ys h d ((has_decides d xs).1 c)),
  λ w. has_each xs ys (λ d p. (has_decides d ys).1 (w d ((has_decides d xs).0 p))),
)

pub inserts : Inserts
inserts d ds r = set_from_test (λ e. (e ≡ d) ⊎ Contains ds e) (insert_datum d ds) (λ e. is_eq (datum_cmp e d) || has_datum e ds) (rising_insert d ds r) (λ e. has_insert e d ds) (λ e. Decides-or (is_eq (datum_cmp e d)) (has_datum e ds) (eq_decides e d) (has_decides e ds))

both_swapped : {P Q : Type 0} (x y : Bool) → Decides x P → Decides y Q → Decides (y && x) (P × Q)
both_swapped x y p q = Decides-like (y && x) (λ b. (b.1, b.0)) (λ b. (b.1, b.0)) (Decides-and y x q p)

pub removes : Removes
removes d ds r =
    set_from_test (λ e. Contains ds e × (e ≡ d → ⊥)) (remove_datum d ds) (λ e. not (is_eq (datum_cmp d e)) && has_datum e ds)
    (rising_filter (λ e. not (is_eq (datum_cmp d e))) ds r)
    (λ e. has_remove e d ds)
    (λ e. both_swapped (has_datum e ds) (not (is_eq (datum_cmp d e))) (has_decides e ds) (Decides-not (is_eq (datum_cmp d e)) (Decides-like (is_eq (datum_cmp d e)) sym sym (eq_decides d e))))

pub gathers : Gathers
gathers ds = set_from_test (λ d. Contains ds d) (set_from ds) (λ d. has_datum d ds) (rising_set_from ds) (λ d. has_set_from d ds) (λ d. has_decides d ds)

pub unites : Unites
unites xs ys =
    set_from_test (λ d. Contains xs d ⊎ Contains ys d) (union_of xs ys) (λ d. has_datum d xs || has_datum d ys) (rising_set_from (xs ++ ys)) (λ d. has_union d xs ys)
    (λ d. Decides-or (has_datum d xs) (has_datum d ys) (has_decides d xs) (has_decides d ys))

left_only : (d : Datum) (xs ys : List Datum) → Decides (not (has_datum d ys) && has_datum d xs) (Contains xs d × (Contains ys d → ⊥))
left_only d xs ys = both_swapped (has_datum d xs) (not (has_datum d ys)) (has_decides d xs) (Decides-not (has_datum d ys) (has_decides d ys))

pub subtracts : Subtracts
subtracts xs ys r =
    set_from_test (λ d. Contains xs d × (Contains ys d → ⊥)) (minus_of xs ys) (λ d. not (has_datum d ys) && has_datum d xs) (rising_filter (λ e. not (has_datum e ys)) xs r) (λ d. has_minus d xs ys)
    (λ d. left_only d xs ys)

pub intersects : Intersects
intersects xs ys r =
    set_from_test (λ d. Contains xs d × Contains ys d) (meet_of xs ys) (λ d. has_datum d ys && has_datum d xs) (rising_filter (λ e. has_datum e ys) xs r) (λ d. has_meet d xs ys)
    (λ d. both_swapped (has_datum d xs) (has_datum d ys) (has_decides d xs) (has_decides d ys))

pub differs : Differs
differs xs ys =
    set_from_test (λ d. (Contains xs d × (Contains ys d → ⊥)) ⊎ (Contains ys d × (Contains xs d → ⊥))) (symm_of xs ys)
    (λ d. (not (has_datum d ys) && has_datum d xs) || (not (has_datum d xs) && has_datum d ys))
    (rising_set_from (minus_of xs ys ++ minus_of ys xs))
    (λ d. has_symm d xs ys)
    (λ d. Decides-or (not (has_datum d ys) && has_datum d xs) (not (has_datum d xs) && has_datum d ys) (left_only d xs ys) (left_only d ys xs))
