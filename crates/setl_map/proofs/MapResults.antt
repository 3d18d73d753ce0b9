-- What the calls on maps make of the pairs between two bounds.
use Rattle.std.specs.Prelude.{◌≡◌, ℕ, zero, suc, ◌+◌, ◌-◌, ◌<◌, ◌≤◌, Bool, true, false, not, ◌||◌, cond, List, [], ◌∷◌, ◌++◌, Option, Some, None, map, max, length, take, drop, slice_range, nat_le, nat_lt, refl}
use Rattle.std.specs.List.{AllByRecursion, filter_map, cons_option, list_any}
use Rattle.std.specs.List.Sorted.{IsStrictlySortedBy}
use Rattle.std.specs.declared.cmp.Ordering.{Ordering}
use Rattle.std.specs.declared.cmp.Ordering.TheVariants.{Less, Equal, Greater}
use Rattle.std.specs.Ordering.{is_eq, ordering_then, ordering_reverse}
use Rattle.std.proofs.Common.{ap, sym, ◌∙◌, subst, arith}
use Rattle.std.proofs.lemmas.Bool.{false≢true, ltb-false}
use Rattle.std.proofs.lemmas.Bool.Decides.{nat_tests}
use Rattle.std.proofs.lemmas.List.Folds.{list_any-append}
use Rattle.std.proofs.lemmas.List.Kept.{IsStrictlySortedBy-filter}
use Rattle.setl_value.specs.Datum.{Datum, tuple, no_part, part_then, depth, part_depth, elements_depth, elements_of, set_of}
use Rattle.setl_value.specs.Order.{datum_cmp, IsRising}
use Rattle.setl_value.specs.OrderLaws.{datum_cmp_total, same_if_eq, equal_iff_same}
use Rattle.setl_value.specs.Pairs.{pair, pair_parts, second_of, pairs_at, images}
use Rattle.setl_set.specs.Sets.{has_datum, insert_datum, insert_by, set_from}
use Rattle.setl_set.specs.Laws.{RisingListsAgree, TestsMembership, Gathers, Inserts}
use Rattle.setl_map.specs.Maps.{without_point, put_image, put_images}
use Rattle.setl_map.specs.code.Points.{is_at, is_before, comes_before, IsBound, part_at, pair_depth}
use Rattle.setl_map.proofs.PairFacts.{pair_of, IsPair}
use Rattle.setl_map.proofs.Spans.{IsSplit}
use Rattle.setl_map.specs.DepthLaws.{depth_insert, depth_set_from}
use Rattle.setl_map.proofs.Gathering.{is_set_from}

-- ---- depth

second_depth : (d : Datum) → part_depth (second_of (pair_parts d)) ≤ depth d
second_depth (tuple (part_then x (part_then y no_part))) = omega arith
second_depth d = omega arith

first_depth : (d : Datum) → part_depth (part_at true d) ≤ depth d
first_depth (tuple (part_then x (part_then y no_part))) = omega arith
first_depth d = omega arith

part_shallow : (first : Bool) (d : Datum) → part_depth (part_at first d) ≤ depth d
part_shallow true d = first_depth d
part_shallow false d = second_depth d

option_depth : (o : Option Datum) (ds : List Datum) → elements_depth (elements_of (cons_option o ds)) ≡ max (part_depth o) (elements_depth (elements_of ds))
option_depth None ds = omega arith
option_depth (Some d) ds = refl

pub depth_parts : (first : Bool) (ds : List Datum) → elements_depth (elements_of (filter_map (part_at first) ds)) ≤ elements_depth (elements_of ds)
depth_parts first [] = omega arith
depth_parts first (d ∷ ds) = omega (arith, option_depth (part_at first d) (filter_map (part_at first) ds), part_shallow first d, depth_parts first ds)

depth_append : (xs ys : List Datum) → elements_depth (elements_of (xs ++ ys)) ≡ max (elements_depth (elements_of xs)) (elements_depth (elements_of ys))
depth_append [] ys = omega arith
depth_append (x ∷ xs) ys = omega (arith, depth_append xs ys)

pub depth_take : (n : ℕ) (ds : List Datum) → elements_depth (elements_of (take n ds)) ≤ elements_depth (elements_of ds)
depth_take zero ds = omega arith
depth_take (suc n) [] = omega arith
depth_take (suc n) (d ∷ ds) = omega (arith, depth_take n ds)

depth_drop : (n : ℕ) (ds : List Datum) → elements_depth (elements_of (drop n ds)) ≤ elements_depth (elements_of ds)
depth_drop zero ds = omega arith
depth_drop (suc n) [] = omega arith
depth_drop (suc n) (d ∷ ds) = omega (arith, depth_drop n ds)

pub depth_range : (ds : List Datum) (i j : ℕ) → elements_depth (elements_of (slice_range ds i j)) ≤ elements_depth (elements_of ds)
depth_range ds i j = omega (arith, depth_take (j - i) (drop i ds), depth_drop i ds)

depth_cond : (b : Bool) (d : Datum) (ds : List Datum) → elements_depth (elements_of (cond b (d ∷ ds) ds)) ≤ max (depth d) (elements_depth (elements_of ds))
depth_cond true d ds = omega arith
depth_cond false d ds = omega arith

pub depth_without : (x : Datum) (ds : List Datum) → elements_depth (elements_of (without_point x ds)) ≤ elements_depth (elements_of ds)
depth_without x [] = omega arith
depth_without x (d ∷ ds) = omega (arith, depth_cond (not (is_at x d)) d (without_point x ds), depth_without x ds)

-- ---- images

itself : (d : Datum) → datum_cmp d d ≡ Equal
itself d = (equal_iff_same d d).1 refl

-- pairs of x
abbrev pub OfPoint : Datum → Datum → Type 0
OfPoint x d = (y : Datum) × (d ≡ pair x y)

pub of_point : (x d : Datum) → IsPair d → is_at x d ≡ true → OfPoint x d
of_point x d p h =
    let u = pair_of d p in
    let same : x ≡ u.0 = same_if_eq x u.0 (ap (is_at x) (sym u.2) ∙ h) in
    (u.1, u.2 ∙ ap (λ z. pair z u.1) (sym same))

of_point_by : (x d : Datum) (ds : List Datum) (b : Bool) → (b ≡ true → OfPoint x d) → AllByRecursion (OfPoint x) ds → AllByRecursion (OfPoint x) (cond b (d ∷ ds) ds)
of_point_by x d ds true h a = (h refl, a)
of_point_by x d ds false h a = a

all_of_point : (x : Datum) (ds : List Datum) → AllByRecursion IsPair ds → AllByRecursion (OfPoint x) (pairs_at x ds)
all_of_point x [] p = tt
all_of_point x (d ∷ ds) p = of_point_by x d (pairs_at x ds) (is_at x d) (of_point x d p.0) (all_of_point x ds p.1)

then_equal : (o : Ordering) → ordering_then o Equal ≡ Less → o ≡ Less
then_equal Less h = refl
then_equal Equal h = h
then_equal Greater h = cc

second_less : (x y z : Datum) → datum_cmp (pair x y) (pair x z) ≡ Less → datum_cmp y z ≡ Less
second_less x y z h = then_equal (datum_cmp y z) (sym (ap (λ o. ordering_then o (ordering_then (datum_cmp y z) Equal)) (itself x)) ∙ h)

abbrev pub seconds : List Datum → List Datum
seconds ds = filter_map (λ d. second_of (pair_parts d)) ds

seconds_cons : (x d : Datum) (ds : List Datum) (p : OfPoint x d) → seconds (d ∷ ds) ≡ p.0 ∷ seconds ds
seconds_cons x d ds p = ap (λ z. cons_option (second_of (pair_parts z)) (seconds ds)) p.1

seconds_below : (x y : Datum) (ds : List Datum) → AllByRecursion (OfPoint x) ds → AllByRecursion (λ e. datum_cmp (pair x y) e ≡ Less) ds → AllByRecursion (λ z. datum_cmp y z ≡ Less) (seconds ds)
seconds_below x y [] p a = tt
seconds_below x y (d ∷ ds) p a =
    subst (AllByRecursion (λ z. datum_cmp y z ≡ Less)) (sym (seconds_cons x d ds p.0))
    (second_less x y p.0.0 (subst (λ z. datum_cmp (pair x y) z ≡ Less) p.0.1 a.0), seconds_below x y ds p.1 a.1)

rising_seconds : (x : Datum) (ds : List Datum) → AllByRecursion (OfPoint x) ds → IsRising ds → IsRising (seconds ds)
unfolding IsStrictlySortedBy
rising_seconds x [] p r = tt
rising_seconds x (d ∷ ds) p r =
    subst IsRising (sym (seconds_cons x d ds p.0)) (seconds_below x p.0.0 ds p.1 (subst (λ z. AllByRecursion (λ e. datum_cmp z e ≡ Less) ds) p.0.1 r.0), rising_seconds x ds p.1 r.1)

pub rising_images : (x : Datum) (ds : List Datum) → AllByRecursion IsPair ds → IsRising ds → IsRising (images x ds)
rising_images x ds p r = rising_seconds x (pairs_at x ds) (all_of_point x ds p) (IsStrictlySortedBy-filter datum_cmp (is_at x) ds r)

pub images_between : (x : Datum) (ds : List Datum) (i j : ℕ) → IsSplit x ds i j → images x ds ≡ filter_map (part_at false) (slice_range ds i j)
images_between x ds i j s = ap seconds s.at

-- ---- changes

pub rising_without : (x : Datum) (ds : List Datum) → IsRising ds → IsRising (without_point x ds)
rising_without x ds r = IsStrictlySortedBy-filter datum_cmp (λ d. not (is_at x d)) ds r

pub whole : (ds : List Datum) (i : ℕ) → take i ds ++ drop i ds ≡ ds
whole ds zero = refl
whole [] (suc i) = refl
whole (d ∷ ds) (suc i) = ap (λ l. d ∷ l) (whole ds i)

turned : (d e : Datum) (o : Ordering) → datum_cmp d e ≡ o → datum_cmp e d ≡ ordering_reverse o
turned d e o p = datum_cmp_total.antisymm e d ∙ ap ordering_reverse p

-- a pair of x is above those that come before x, and below those that come after
first_less : (o : Ordering) → is_before false o ≡ true → o ≡ Less
first_less Less h = refl
first_less Equal h = absurd (false≢true h)
first_less Greater h = absurd (false≢true h)

first_greater : (o : Ordering) → is_before true o ≡ false → o ≡ Greater
first_greater Less h = cc
first_greater Equal h = cc
first_greater Greater h = refl

pub below_pair : (x y d : Datum) → IsPair d → comes_before false x d ≡ true → datum_cmp d (pair x y) ≡ Less
below_pair x y d p h =
    let u = pair_of d p in
    let l : datum_cmp u.0 x ≡ Less = first_less (datum_cmp u.0 x) (sym (ap (comes_before false x) u.2) ∙ h) in
    ap (λ z. datum_cmp z (pair x y)) u.2 ∙ ap (λ o. ordering_then o (ordering_then (datum_cmp u.1 y) Equal)) l

pub above_pair : (x y d : Datum) → IsPair d → comes_before true x d ≡ false → datum_cmp (pair x y) d ≡ Less
above_pair x y d p h =
    let u = pair_of d p in
    let l : datum_cmp x u.0 ≡ Less = turned u.0 x Greater (first_greater (datum_cmp u.0 x) (sym (ap (comes_before true x) u.2) ∙ h)) in
    ap (λ z. datum_cmp (pair x y) z) u.2 ∙ ap (λ o. ordering_then o (ordering_then (datum_cmp y u.1) Equal)) l

insert_between : (p : Datum) (xs ys : List Datum) → AllByRecursion (λ e. datum_cmp e p ≡ Less) xs → AllByRecursion (λ e. datum_cmp p e ≡ Less) ys → insert_datum p (xs ++ ys) ≡ (xs ++ p ∷ []) ++ ys
insert_between p [] [] a b = refl
insert_between p [] (y ∷ ys) a b = ap (λ o. insert_by o p y ys (insert_datum p ys)) b.0
insert_between p (x ∷ xs) ys a b = ap (λ o. insert_by o p x (xs ++ ys) (insert_datum p (xs ++ ys))) (turned x p Less a.0) ∙ ap (λ l. x ∷ l) (insert_between p xs ys a.1 b)

both_all : {X : Type 0} (P Q R : X → Type 0) → ((x : X) → P x → Q x → R x) → (xs : List X) → AllByRecursion P xs → AllByRecursion Q xs → AllByRecursion R xs
both_all P Q R f [] a b = tt
both_all P Q R f (x ∷ xs) a b = (f x a.0 b.0, both_all P Q R f xs a.1 b.1)

all_take : {X : Type 0} (P : X → Type 0) (i : ℕ) (xs : List X) → AllByRecursion P xs → AllByRecursion P (take i xs)
all_take P zero xs a = tt
all_take P (suc i) [] a = tt
all_take P (suc i) (x ∷ xs) a = (a.0, all_take P i xs a.1)

pub all_drop : {X : Type 0} (P : X → Type 0) (i : ℕ) (xs : List X) → AllByRecursion P xs → AllByRecursion P (drop i xs)
all_drop P zero xs a = a
all_drop P (suc i) [] a = tt
all_drop P (suc i) (x ∷ xs) a = all_drop P i xs a.1

below_all : (x y : Datum) (ds : List Datum) (i : ℕ) → AllByRecursion IsPair ds → IsBound false x ds i → AllByRecursion (λ e. datum_cmp e (pair x y) ≡ Less) (take i ds)
below_all x y ds i p b = both_all IsPair (λ d. comes_before false x d ≡ true) (λ e. datum_cmp e (pair x y) ≡ Less) (below_pair x y) (take i ds) (all_take IsPair i ds p) b.before

above_all : (x y : Datum) (ds : List Datum) (j : ℕ) → AllByRecursion IsPair ds → IsBound true x ds j → AllByRecursion (λ e. datum_cmp (pair x y) e ≡ Less) (drop j ds)
above_all x y ds j p b = both_all IsPair (λ d. comes_before true x d ≡ false) (λ e. datum_cmp (pair x y) e ≡ Less) (above_pair x y) (drop j ds) (all_drop IsPair j ds p) b.after

pub put_between : (x y : Datum) (ds : List Datum) (i j : ℕ) → AllByRecursion IsPair ds → IsBound false x ds i → IsBound true x ds j → IsSplit x ds i j
    → (take i ds ++ pair x y ∷ []) ++ drop j ds ≡ put_image x (Some y) ds
put_between x y ds i j p b e s =
    sym (ap (insert_datum (pair x y)) s.others ∙ insert_between (pair x y) (take i ds) (drop j ds) (below_all x y ds i p b) (above_all x y ds j p e))

pub rising_put : Inserts → (x y : Datum) (ds : List Datum) → IsRising ds → IsRising (put_image x (Some y) ds)
rising_put inserts x y ds r = (inserts (pair x y) (without_point x ds) (rising_without x ds r)).rising

pub depth_put : (x y : Datum) (ds : List Datum) → depth (set_of (put_image x (Some y) ds)) ≡ 1 + max (1 + max (depth x) (depth y)) (elements_depth (elements_of (without_point x ds)))
depth_put x y ds = omega (arith, depth_insert (pair x y) (without_point x ds))

-- ---- several images

abbrev pub point_pairs : Datum → List Datum → List Datum
point_pairs x ys = map (λ y. pair x y) ys

pairs_below : (x y : Datum) (ys : List Datum) → AllByRecursion (λ z. datum_cmp y z ≡ Less) ys → AllByRecursion (λ e. datum_cmp (pair x y) e ≡ Less) (point_pairs x ys)
pairs_below x y [] a = tt
pairs_below x y (z ∷ ys) a = (
  ap (λ o. ordering_then o (ordering_then (datum_cmp y z) Equal)) (itself x) ∙ ap (λ o. ordering_then o Equal) a.0,
  pairs_below x y ys a.1,
)

rising_pairs : (x : Datum) (ys : List Datum) → IsRising ys → IsRising (point_pairs x ys)
unfolding IsStrictlySortedBy
rising_pairs x [] r = tt
rising_pairs x (y ∷ ys) r = (pairs_below x y ys r.0, rising_pairs x ys r.1)

all_append : {X : Type 0} (P : X → Type 0) (xs ys : List X) → AllByRecursion P xs → AllByRecursion P ys → AllByRecursion P (xs ++ ys)
all_append P [] ys a b = b
all_append P (x ∷ xs) ys a b = (a.0, all_append P xs ys a.1 b)

all_left : {X : Type 0} (P : X → Type 0) (xs ys : List X) → AllByRecursion P (xs ++ ys) → AllByRecursion P xs
all_left P [] ys a = tt
all_left P (x ∷ xs) ys a = (a.0, all_left P xs ys a.1)

all_right : {X : Type 0} (P : X → Type 0) (xs ys : List X) → AllByRecursion P (xs ++ ys) → AllByRecursion P ys
all_right P [] ys a = a
all_right P (x ∷ xs) ys a = all_right P xs ys a.1

-- each of the first is below all of the second
abbrev AllBelow : List Datum → List Datum → Type 0
AllBelow xs ys = AllByRecursion (λ x. AllByRecursion (λ y. datum_cmp x y ≡ Less) ys) xs

rising_append : (xs ys : List Datum) → IsRising xs → IsRising ys → AllBelow xs ys → IsRising (xs ++ ys)
unfolding IsStrictlySortedBy
rising_append [] ys r s a = s
rising_append (x ∷ xs) ys r s a = (all_append (λ y. datum_cmp x y ≡ Less) xs ys r.0 a.0, rising_append xs ys r.1 s a.1)

rising_between : (xs zs ys : List Datum) → IsRising (xs ++ ys) → IsRising zs → AllBelow xs zs → AllBelow zs ys → IsRising ys → IsRising ((xs ++ zs) ++ ys)
unfolding IsStrictlySortedBy
rising_between [] zs ys r s a b t = rising_append zs ys s t b
rising_between (x ∷ xs) zs ys r s a b t = (
  all_append (λ y. datum_cmp x y ≡ Less) (xs ++ zs) ys (all_append (λ y. datum_cmp x y ≡ Less) xs zs (all_left (λ y. datum_cmp x y ≡ Less) xs ys r.0) a.0) (all_right (λ y. datum_cmp x y ≡ Less) xs ys r.0),
  rising_between xs zs ys r.1 s a.1 b t,
)

rising_right : (xs ys : List Datum) → IsRising (xs ++ ys) → IsRising ys
unfolding IsStrictlySortedBy
rising_right [] ys r = r
rising_right (x ∷ xs) ys r = rising_right xs ys r.1

below_pairs : (x d : Datum) (ys : List Datum) → ((y : Datum) → datum_cmp d (pair x y) ≡ Less) → AllByRecursion (λ e. datum_cmp d e ≡ Less) (point_pairs x ys)
below_pairs x d [] h = tt
below_pairs x d (y ∷ ys) h = (h y, below_pairs x d ys h)

before_pairs : (x : Datum) (ds ys : List Datum) → AllByRecursion IsPair ds → AllByRecursion (λ d. comes_before false x d ≡ true) ds → AllBelow ds (point_pairs x ys)
before_pairs x [] ys p a = tt
before_pairs x (d ∷ ds) ys p a = (below_pairs x d ys (λ y. below_pair x y d p.0 a.0), before_pairs x ds ys p.1 a.1)

after_pairs : (x : Datum) (ys ds : List Datum) → ((y : Datum) → AllByRecursion (λ e. datum_cmp (pair x y) e ≡ Less) ds) → AllBelow (point_pairs x ys) ds
after_pairs x [] ds h = tt
after_pairs x (y ∷ ys) ds h = (h y, after_pairs x ys ds h)

pub rising_put_all : (x : Datum) (ys ds : List Datum) (i j : ℕ) → AllByRecursion IsPair ds → IsRising ds → IsRising ys → IsBound false x ds i → IsBound true x ds j → IsSplit x ds i j
    → IsRising ((take i ds ++ point_pairs x ys) ++ drop j ds)
rising_put_all x ys ds i j p r t b e s =
    let w : IsRising (take i ds ++ drop j ds) = subst IsRising s.others (rising_without x ds r) in
    rising_between (take i ds) (point_pairs x ys) (drop j ds) w (rising_pairs x ys t) (before_pairs x (take i ds) ys (all_take IsPair i ds p) b.before) (after_pairs x ys (drop j ds) (λ y. above_all x y ds j p e)) (rising_right (take i ds) (drop j ds) w)

swap_or : (a b c : Bool) → ((a || c) || b) ≡ ((a || b) || c)
swap_or true b c = refl
swap_or false true true = refl
swap_or false true false = refl
swap_or false false true = refl
swap_or false false false = refl

has_swapped : (d : Datum) (xs zs ys : List Datum) → has_datum d ((xs ++ zs) ++ ys) ≡ has_datum d ((xs ++ ys) ++ zs)
has_swapped d xs zs ys =
    let t = λ (e : Datum). is_eq (datum_cmp d e) in
    list_any-append t (xs ++ zs) ys ∙ ap (λ b. b || list_any t ys) (list_any-append t xs zs) ∙ swap_or (list_any t xs) (list_any t ys) (list_any t zs)
    ∙ sym (list_any-append t (xs ++ ys) zs ∙ ap (λ b. b || list_any t zs) (list_any-append t xs ys))

pub put_all_between : RisingListsAgree → TestsMembership → Gathers → (x : Datum) (ys ds : List Datum) (i j : ℕ) → IsSplit x ds i j → IsRising ((take i ds ++ point_pairs x ys) ++ drop j ds)
    → (take i ds ++ point_pairs x ys) ++ drop j ds ≡ put_images x ys ds
put_all_between agree tests gathers x ys ds i j s r =
    is_set_from agree tests gathers ((take i ds ++ point_pairs x ys) ++ drop j ds) ((take i ds ++ drop j ds) ++ point_pairs x ys) r (λ d. has_swapped d (take i ds) (point_pairs x ys) (drop j ds))
    ∙ ap (λ l. set_from (l ++ point_pairs x ys)) (sym s.others)

pub depth_pairs : (x : Datum) (ys : List Datum) → elements_depth (elements_of (point_pairs x ys)) ≤ 1 + max (depth x) (elements_depth (elements_of ys))
depth_pairs x [] = omega arith
depth_pairs x (y ∷ ys) = omega (arith, depth_pairs x ys)

-- where there is a pair, it is deeper than its parts
depth_some_pairs : (x y : Datum) (ys : List Datum) → elements_depth (elements_of (point_pairs x (y ∷ ys))) ≡ 1 + max (depth x) (elements_depth (elements_of (y ∷ ys)))
depth_some_pairs x y [] = omega arith
depth_some_pairs x y (z ∷ ys) = omega (arith, depth_some_pairs x z ys)

pub depth_put_all : (x : Datum) (ys ds : List Datum) → depth (set_of (put_images x ys ds)) ≡ 1 + max (elements_depth (elements_of (without_point x ds))) (elements_depth (elements_of (point_pairs x ys)))
depth_put_all x ys ds = omega (arith, depth_set_from (without_point x ds ++ point_pairs x ys), depth_append (without_point x ds) (point_pairs x ys))

pub depth_no_pairs : (x : Datum) (ys : List Datum) → length ys ≡ 0 → elements_depth (elements_of (point_pairs x ys)) ≡ 0
depth_no_pairs x [] h = refl
depth_no_pairs x (y ∷ ys) h = absurd (omega arith)

pub depth_all_pairs : (x : Datum) (ys : List Datum) → (length ys ≡ 0 → ⊥) → elements_depth (elements_of (point_pairs x ys)) ≡ 1 + max (depth x) (elements_depth (elements_of ys))
depth_all_pairs x [] h = absurd (h refl)
depth_all_pairs x (y ∷ ys) h = depth_some_pairs x y ys

-- ---- which changes are too deep

pub deep_put : (x : Datum) (y : Option Datum) (ds : List Datum) → depth (set_of ds) ≤ 500 → nat_le 500 (pair_depth x y) ≡ nat_lt 500 (depth (set_of (put_image x y ds)))
deep_put x None ds h = let w = depth_without x ds in grind (arith, nat_tests)
deep_put x (Some y) ds h = let w = depth_without x ds in let d = depth_put x y ds in grind (arith, nat_tests)

pub deep_put_all : (x : Datum) (ys ds : List Datum) → depth (set_of ds) ≤ 500 → nat_lt 500 (depth (set_of (point_pairs x ys))) ≡ nat_lt 500 (depth (set_of (put_images x ys ds)))
deep_put_all x ys ds h = let w = depth_without x ds in let d = depth_put_all x ys ds in grind (arith, nat_tests)

-- the parts of the first n members from the i-th on
pub span_is : (h : Datum → Option Datum) (ds : List Datum) (i n : ℕ) (rest : List Datum) → rest ≡ drop i ds → filter_map h (take n rest) ≡ filter_map h (slice_range ds i (i + n))
span_is h ds i n rest e = ap (λ l. filter_map h (take n l)) e ∙ ap (λ k. filter_map h (take k (drop i ds))) {x = n} {y = i + n - i} (omega arith)

-- each of some pairs that are shallow has shallow parts
abbrev pub PartsShallow : Datum → List Datum → Type 0
PartsShallow x ys = AllByRecursion (λ y. (depth x < 500) × (depth y < 500)) ys

pairs_shallow : (x : Datum) (ys : List Datum) → elements_depth (elements_of (point_pairs x ys)) ≤ 499 → PartsShallow x ys
pairs_shallow x [] h = tt
pairs_shallow x (y ∷ ys) h = ((omega arith, omega arith), pairs_shallow x ys (omega arith))

pub parts_shallow : (x : Datum) (ys : List Datum) → nat_lt 500 (depth (set_of (point_pairs x ys))) ≡ false → PartsShallow x ys
parts_shallow x ys h = pairs_shallow x ys (omega (arith, ltb-false 500 _ h))

pub take_whole : (ds : List Datum) → take (length ds) ds ≡ ds
take_whole [] = refl
take_whole (d ∷ ds) = ap (λ l. d ∷ l) (take_whole ds)
