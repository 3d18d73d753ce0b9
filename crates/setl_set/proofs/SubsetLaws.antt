-- The laws of the sets of all subsets, and of all subsets with n members.
use Rattle.std.specs.Prelude.{◌≡◌, ◌==◌, ℕ, Bool, true, false, ◌&&◌, ◌||◌, List, [], ◌∷◌, length, map, refl}
use Rattle.std.specs.List.{AllByRecursion, list_any}
use Rattle.std.specs.List.Sorted.{IsStrictlySortedBy}
use Rattle.std.specs.declared.cmp.Ordering.{Ordering}
use Rattle.std.specs.declared.cmp.Ordering.TheVariants.{Less, Equal, Greater}
use Rattle.std.specs.Ordering.{is_eq}
use Rattle.std.proofs.Common.{ap, sym, ◌∙◌, subst, inl, inr}
use Rattle.std.proofs.lemmas.Bool.{true≢false, false≢true, or_left, or_right, or_cases, and_parts, and_from, eqb-true, eq-eqb}
use Rattle.std.proofs.lemmas.List.Folds.{list_any-append}
use Rattle.setl_value.specs.Datum.{Datum, set_of}
use Rattle.setl_value.specs.Order.{datum_cmp, IsRising}
use Rattle.setl_value.specs.OrderLaws.{same_datum, same_if_eq}
use Rattle.setl_set.specs.Laws.{IsSubset, IsSubsetOf, IsSubsetOfSize, HasAllSubsets, HasAllSubsetsOfSize}
use Rattle.setl_set.specs.Sets.{has_datum}
use Rattle.setl_set.specs.Subsets.{subsets, subsets_of_size, set_of_sets, pow_of, npow_of}
use Rattle.setl_set.proofs.Lists.{any_map, any_filter}
use Rattle.setl_set.proofs.Members.{IsBelow, has_decides, eq_decides, itself, turned, turned_back, below_cons, none_above}
use Rattle.setl_set.proofs.Results.{has_set_from, rising_set_from}

-- each member of xs is a member of ds
abbrev IsWithin : List Datum → List Datum → Type 0
IsWithin xs ds = (e : Datum) → has_datum e xs ≡ true → has_datum e ds ≡ true

-- a subset of ds that passes a test
record Passing (p : List Datum → Bool) (ds : List Datum) : Type 0 where
  chosen : List Datum
  passes : p chosen ≡ true
  rising : IsRising chosen
  within : IsWithin chosen ds

all_has : (P : Datum → Type 0) (ds : List Datum) (e : Datum) → AllByRecursion P ds → has_datum e ds ≡ true → P e
all_has P [] e a h = absurd (false≢true h)
all_has P (d ∷ ds) e a h = elim (or_cases (is_eq (datum_cmp e d)) (has_datum e ds) h) [
  | inl t ↦ subst P (sym (same_if_eq e d t)) a.0
  | inr t ↦ all_has P ds e a.1 t
]

below_within : (d : Datum) (xs ds : List Datum) → IsBelow d ds → IsWithin xs ds → IsBelow d xs
below_within d [] ds b w = tt
below_within d (x ∷ xs) ds b w = (
  all_has (λ y. datum_cmp d y ≡ Less) ds x b (w x (or_left (is_eq (datum_cmp x x)) (has_datum x xs) (itself x))),
  below_within d xs ds b (λ e h. w e (or_right (is_eq (datum_cmp e x)) (has_datum e xs) h)),
)

within_more : (d : Datum) (xs ds : List Datum) → IsWithin xs ds → IsWithin (d ∷ xs) (d ∷ ds)
within_more d xs ds w e h = elim (or_cases (is_eq (datum_cmp e d)) (has_datum e xs) h) [
  | inl t ↦ or_left (is_eq (datum_cmp e d)) (has_datum e ds) t
  | inr t ↦ or_right (is_eq (datum_cmp e d)) (has_datum e ds) (w e t)
]

true_first : (b : Bool) → (b || false) ≡ true → b ≡ true
true_first true h = refl
true_first false h = h

-- ---- each of `subsets` is a subset

passing : (p : List Datum → Bool) (ds : List Datum) → IsRising ds → list_any p (subsets ds) ≡ true → Passing p ds
unfolding IsStrictlySortedBy
passing p [] r h = record { chosen = []; passes = true_first (p []) h; rising = tt; within = λ e t. t }
passing p (d ∷ ds) r h =
    let q : List Datum → Bool = λ xs. p (d ∷ xs) in
    let either = sym (list_any-append p (map (λ xs. d ∷ xs) (subsets ds)) (subsets ds) ∙ ap (λ b. b || list_any p (subsets ds)) (any_map p (λ xs. d ∷ xs) (subsets ds))) ∙ h in
    elim (or_cases (list_any q (subsets ds)) (list_any p (subsets ds)) either) [
      | inl t ↦ first (passing q ds r.1 t)
      | inr t ↦ other (passing p ds r.1 t)
    ]
  where
    first : Passing (λ xs. p (d ∷ xs)) ds → Passing p (d ∷ ds)
    first f = record {
      chosen = d ∷ f.chosen;
      passes = f.passes;
      rising = (below_within d f.chosen ds r.0 f.within, f.rising);
      within = within_more d f.chosen ds f.within;
    }

    other : Passing p ds → Passing p (d ∷ ds)
    other f = record {
      chosen = f.chosen;
      passes = f.passes;
      rising = f.rising;
      within = λ e t. or_right (is_eq (datum_cmp e d)) (has_datum e ds) (f.within e t);
    }

-- ---- each subset is one of `subsets`

above_only : (d : Datum) (xs ds : List Datum) → IsBelow d xs → IsWithin xs (d ∷ ds) → IsWithin xs ds
above_only d xs ds b w e h =
    let apart : is_eq (datum_cmp e d) ≡ false = ap is_eq (turned_back d e (all_has (λ y. datum_cmp d y ≡ Less) xs e b h)) in
    subst (λ t. (t || has_datum e ds) ≡ true) apart (w e h)

listed_by : (o : Ordering) (p : List Datum → Bool) (d x : Datum) (ds xs : List Datum) → datum_cmp x d ≡ o → IsRising (d ∷ ds) → IsRising (x ∷ xs) → IsWithin (x ∷ xs) (d ∷ ds) → p (x ∷ xs) ≡ true
    → (IsWithin xs ds → p (d ∷ xs) ≡ true → list_any (λ ys. p (d ∷ ys)) (subsets ds) ≡ true)
    → (IsWithin (x ∷ xs) ds → list_any p (subsets ds) ≡ true)
    → (list_any (λ ys. p (d ∷ ys)) (subsets ds) || list_any p (subsets ds)) ≡ true
unfolding IsStrictlySortedBy
listed_by Less p d x ds xs o r s w h first other =
    absurd (true≢false (sym (w x (or_left (is_eq (datum_cmp x x)) (has_datum x xs) (itself x))) ∙ none_above x (d ∷ ds) (below_cons x d ds o r)))
listed_by Equal p d x ds xs o r s w h first other =
    let same : x ≡ d = same_datum x d o in
    let rest : IsWithin xs (d ∷ ds) = λ e t. w e (or_right (is_eq (datum_cmp e x)) (has_datum e xs) t) in
    or_left (list_any (λ ys. p (d ∷ ys)) (subsets ds)) (list_any p (subsets ds))
    (first (above_only d xs ds (subst (λ z. IsBelow z xs) same s.0) rest) (subst (λ z. p (z ∷ xs) ≡ true) same h))
listed_by Greater p d x ds xs o r s w h first other =
    or_right (list_any (λ ys. p (d ∷ ys)) (subsets ds)) (list_any p (subsets ds)) (other (above_only d (x ∷ xs) ds (below_cons d x xs (turned x d o) s) w))

split : (p : List Datum → Bool) (d : Datum) (ds : List Datum) → list_any p (subsets (d ∷ ds)) ≡ (list_any (λ ys. p (d ∷ ys)) (subsets ds) || list_any p (subsets ds))
split p d ds = list_any-append p (map (λ xs. d ∷ xs) (subsets ds)) (subsets ds) ∙ ap (λ b. b || list_any p (subsets ds)) (any_map p (λ xs. d ∷ xs) (subsets ds))

listed : (p : List Datum → Bool) (ds xs : List Datum) → IsRising ds → IsRising xs → IsWithin xs ds → p xs ≡ true → list_any p (subsets ds) ≡ true
unfolding IsStrictlySortedBy
listed p [] [] r s w h = or_left (p []) false h
listed p [] (x ∷ xs) r s w h = absurd (false≢true (w x (or_left (is_eq (datum_cmp x x)) (has_datum x xs) (itself x))))
listed p (d ∷ ds) [] r s w h =
    split p d ds ∙ or_right (list_any (λ ys. p (d ∷ ys)) (subsets ds)) (list_any p (subsets ds)) (listed p ds [] r.1 tt (λ e t. absurd (false≢true t)) h)
listed p (d ∷ ds) (x ∷ xs) r s w h =
    split p d ds
    ∙ listed_by (datum_cmp x d) p d x ds xs refl r s w h
    (λ v t. listed (λ ys. p (d ∷ ys)) ds xs r.1 s.1 v t)
    (λ v. listed p ds (x ∷ xs) r.1 s v h)

-- ---- the laws

-- whether d is the set of these members
abbrev is_set : Datum → List Datum → Bool
is_set d xs = is_eq (datum_cmp d (set_of xs))

has_sets : (d : Datum) (xss : List (List Datum)) → has_datum d (set_of_sets xss) ≡ list_any (is_set d) xss
has_sets d xss = has_set_from d (map set_of xss) ∙ any_map (λ e. is_eq (datum_cmp d e)) set_of xss

contained : (xs ds : List Datum) → IsWithin xs ds → IsSubset xs ds
contained xs ds w e c = (has_decides e ds).0 (w e ((has_decides e xs).1 c))

tested : (xs ds : List Datum) → IsSubset xs ds → IsWithin xs ds
tested xs ds w e h = (has_decides e ds).1 (w e ((has_decides e xs).0 h))

subset_from : (d : Datum) (ds : List Datum) → Passing (is_set d) ds → IsSubsetOf ds d
subset_from d ds f = record {
  chosen = f.chosen;
  is = (eq_decides d (set_of f.chosen)).0 f.passes;
  rising = f.rising;
  within = contained f.chosen ds f.within;
}

pub has_all_subsets : HasAllSubsets
has_all_subsets ds r = record {
  rising = rising_set_from (map set_of (subsets ds));
  members = λ d. (
    λ c. subset_from d ds (passing (is_set d) ds r (sym (has_sets d (subsets ds)) ∙ (has_decides d (pow_of ds)).1 c)),
    λ s. (has_decides d (pow_of ds)).0 (has_sets d (subsets ds) ∙ listed (is_set d) ds s.chosen r s.rising (tested s.chosen ds s.within) ((eq_decides d (set_of s.chosen)).1 s.is)),
  );
}

-- whether d is the set of these n members
abbrev is_sized : ℕ → Datum → List Datum → Bool
is_sized n d xs = (length xs == n) && is_set d xs

has_sized : (n : ℕ) (d : Datum) (ds : List Datum) → has_datum d (npow_of n ds) ≡ list_any (is_sized n d) (subsets ds)
has_sized n d ds = has_sets d (subsets_of_size n ds) ∙ any_filter (is_set d) (λ xs. length xs == n) (subsets ds)

sized_from : (n : ℕ) (d : Datum) (ds : List Datum) → Passing (is_sized n d) ds → IsSubsetOfSize n ds d
unfolding subset_from
sized_from n d ds f =
    let both = and_parts (length f.chosen == n) (is_set d f.chosen) f.passes in
    record {
      subset = subset_from d ds (record { chosen = f.chosen; passes = both.1; rising = f.rising; within = f.within });
      size = eqb-true (length f.chosen) n both.0;
    }

pub has_all_subsets_of_size : HasAllSubsetsOfSize
has_all_subsets_of_size n ds r = record {
  rising = rising_set_from (map set_of (subsets_of_size n ds));
  members = λ d. (
    λ c. sized_from n d ds (passing (is_sized n d) ds r (sym (has_sized n d ds) ∙ (has_decides d (npow_of n ds)).1 c)),
    λ s. (has_decides d (npow_of n ds)).0
        (has_sized n d ds
        ∙ listed (is_sized n d) ds s.subset.chosen r s.subset.rising (tested s.subset.chosen ds s.subset.within)
        (and_from (length s.subset.chosen == n) (is_set d s.subset.chosen) (eq-eqb (length s.subset.chosen) n s.size) ((eq_decides d (set_of s.subset.chosen)).1 s.subset.is))),
  );
}
