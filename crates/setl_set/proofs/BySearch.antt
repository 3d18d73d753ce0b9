-- Operations by searches.
use Rattle.std.proofs.Common.{◌≡◌, ℕ, ◌≤◌, Bool, true, false, not, ◌&&◌, ◌||◌, cond, List, [], ◌∷◌, ◌++◌, Some, length, slice_get, arith, refl, sym, ap, ◌∙◌}
use Rattle.std.specs.List.{filter, AllByRecursion}
use Rattle.std.specs.declared.cmp.Ordering.{Ordering}
use Rattle.std.specs.declared.cmp.Ordering.TheVariants.{Less, Equal, Greater}
use Rattle.std.specs.Ordering.{is_eq, ordering_reverse}
use Rattle.setl_value.specs.Datum.{Datum, depth, elements_depth, elements_of}
use Rattle.setl_value.specs.Order.{datum_cmp, IsRising}
use Rattle.setl_value.specs.OrderLaws.{datum_cmp_total}
use Rattle.setl_set.specs.Sets.{has_datum, insert_datum, remove_datum, union_of, minus_of, meet_of}
use Rattle.setl_set.proofs.Members.{rising_unique}
use Rattle.setl_set.proofs.Places.{depths_in, depths_out, some_same}
use Rattle.setl_set.proofs.Results.{has_insert, has_union, has_meet, rising_filter, rising_insert, rising_set_from}

or_moved : (p q r : Bool) → ((p || q) || r) ≡ (q || (p || r))
or_moved true true r = refl
or_moved true false r = refl
or_moved false q r = refl

or_turned : (p q : Bool) → (p || q) ≡ (q || p)
or_turned true true = refl
or_turned true false = refl
or_turned false true = refl
or_turned false false = refl

or_none : (p : Bool) → (p || false) ≡ p
or_none true = refl
or_none false = refl

-- a member that is put in first, or is still to come
pub union_more : (d : Datum) (xs ds : List Datum) → union_of (insert_datum d xs) ds ≡ union_of xs (d ∷ ds)
union_more d xs ds =
    rising_unique (union_of (insert_datum d xs) ds) (union_of xs (d ∷ ds)) (rising_set_from (insert_datum d xs ++ ds)) (rising_set_from (xs ++ d ∷ ds))
    (λ e.
    has_union e (insert_datum d xs) ds
    ∙ ap (λ (b : Bool). b || has_datum e ds) (has_insert e d xs)
    ∙ or_moved (is_eq (datum_cmp e d)) (has_datum e xs) (has_datum e ds)
    ∙ sym (has_union e xs (d ∷ ds)))

pub union_none : (xs : List Datum) → IsRising xs → union_of xs [] ≡ xs
union_none xs rising = rising_unique (union_of xs []) xs (rising_set_from (xs ++ [])) rising (λ e. has_union e xs [] ∙ or_none (has_datum e xs))

pub union_turned : (xs ys : List Datum) → union_of xs ys ≡ union_of ys xs
union_turned xs ys =
    rising_unique (union_of xs ys) (union_of ys xs) (rising_set_from (xs ++ ys)) (rising_set_from (ys ++ xs))
    (λ e. has_union e xs ys ∙ or_turned (has_datum e xs) (has_datum e ys) ∙ sym (has_union e ys xs))

kept_one : (P : Datum → Type 0) (b : Bool) (d : Datum) (ds : List Datum) → P d → AllByRecursion P ds → AllByRecursion P (cond b (d ∷ ds) ds)
kept_one P true d ds h all = (h, all)
kept_one P false d ds h all = all

all_kept : (P : Datum → Type 0) (p : Datum → Bool) (ds : List Datum) → AllByRecursion P ds → AllByRecursion P (filter p ds)
all_kept P p [] all = tt
all_kept P p (d ∷ ds) all = kept_one P (p d) d (filter p ds) all.0 (all_kept P p ds all.1)

-- some of the members aren't deeper than all
pub depth_kept : (n : ℕ) (p : Datum → Bool) (ds : List Datum) → elements_depth (elements_of ds) ≤ n → elements_depth (elements_of (filter p ds)) ≤ n
depth_kept n p ds h = depths_out n (filter p ds) (all_kept (λ d. depth d ≤ n) p ds (depths_in n ds h))

equal_reversed : (o : Ordering) → is_eq (ordering_reverse o) ≡ is_eq o
equal_reversed Less = refl
equal_reversed Equal = refl
equal_reversed Greater = refl

equal_turned : (d e : Datum) → is_eq (datum_cmp d e) ≡ is_eq (datum_cmp e d)
equal_turned d e = ap is_eq (datum_cmp_total.antisymm d e) ∙ equal_reversed (datum_cmp e d)

twice_by : (p : Datum → Bool) (b c : Bool) (x : Datum) (xs ys : List Datum) → (b && p x) ≡ c → filter p xs ≡ ys → filter p (cond b (x ∷ xs) xs) ≡ cond c (x ∷ ys) ys
twice_by p true c x xs ys e h = ap (λ k. cond k (x ∷ filter p xs) (filter p xs)) e ∙ ap (λ l. cond c (x ∷ l) l) h
twice_by p false c x xs ys e h = h ∙ ap (λ k. cond k (x ∷ ys) ys) e

-- what passes two tests, one after the other
filter_twice : (p q r : Datum → Bool) → ((x : Datum) → (q x && p x) ≡ r x) → (xs : List Datum) → filter p (filter q xs) ≡ filter r xs
filter_twice p q r h [] = refl
filter_twice p q r h (x ∷ xs) = twice_by p (q x) (r x) x (filter q xs) (filter r xs) (h x) (filter_twice p q r h xs)

neither : (e h : Bool) → (not e && not h) ≡ not (e || h)
neither true h = refl
neither false h = refl

-- a member that is taken out first, or is still to be
pub minus_more : (d : Datum) (xs ds : List Datum) → minus_of (remove_datum d xs) ds ≡ minus_of xs (d ∷ ds)
minus_more d xs ds =
    filter_twice (λ x. not (has_datum x ds)) (λ x. not (is_eq (datum_cmp d x))) (λ x. not (has_datum x (d ∷ ds)))
    (λ x. ap (λ (b : Bool). not b && not (has_datum x ds)) (equal_turned d x) ∙ neither (is_eq (datum_cmp x d)) (has_datum x ds)) xs

pub minus_none : (xs : List Datum) → minus_of xs [] ≡ xs
minus_none [] = refl
minus_none (x ∷ xs) = ap (λ l. x ∷ l) (minus_none xs)

and_turned : (p q : Bool) → (p && q) ≡ (q && p)
and_turned true true = refl
and_turned true false = refl
and_turned false true = refl
and_turned false false = refl

pub meet_turned : (xs ys : List Datum) → IsRising xs → IsRising ys → meet_of xs ys ≡ meet_of ys xs
meet_turned xs ys r s =
    rising_unique (meet_of xs ys) (meet_of ys xs) (rising_filter (λ x. has_datum x ys) xs r) (rising_filter (λ y. has_datum y xs) ys s)
    (λ e. has_meet e xs ys ∙ and_turned (has_datum e ys) (has_datum e xs) ∙ sym (has_meet e ys xs))

-- ---- one member alone

pub alone : (ds : List Datum) (d : Datum) → length ds ≡ 1 → slice_get ds 0 ≡ Some d → ds ≡ d ∷ []
alone [] d n h = absurd (omega (arith, n))
alone (e ∷ []) d n h = ap (λ x. x ∷ []) (some_same e d h)
alone (e ∷ f ∷ ds) d n h = absurd (omega (arith, n))

pub union_one : (d : Datum) (xs : List Datum) → IsRising xs → insert_datum d xs ≡ union_of xs (d ∷ [])
union_one d xs r = sym (union_none (insert_datum d xs) (rising_insert d xs r)) ∙ union_more d xs []

pub minus_one : (d : Datum) (xs : List Datum) → remove_datum d xs ≡ minus_of xs (d ∷ [])
minus_one d xs = sym (minus_none (remove_datum d xs)) ∙ minus_more d xs []
