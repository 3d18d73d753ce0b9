-- Maps whose points and images are values.
use Rattle.std.specs.Prelude.{◌≡◌, Bool, true, false, not, List, [], ◌∷◌, ◌++◌, map, cond, Option, Some, None, refl}
use Rattle.std.specs.List.{AllByRecursion, filter_map, cons_option}
use Rattle.std.specs.List.Sorted.{IsStrictlySortedBy}
use Rattle.std.specs.Ordering.{ordering_then}
use Rattle.std.specs.declared.cmp.Ordering.{Ordering}
use Rattle.std.specs.declared.cmp.Ordering.TheVariants.{Less, Equal, Greater}
use Rattle.std.proofs.Common.{ap, sym, ◌∙◌, subst, arith}
use Rattle.std.proofs.lemmas.Bool.{false≢true}
use Rattle.setl_value.specs.Datum.{Datum, tuple, no_part, part_then, set_of}
use Rattle.setl_value.specs.Order.{datum_cmp, IsRising}
use Rattle.setl_value.specs.OrderLaws.{same_if_eq, equal_iff_same}
use Rattle.setl_value.specs.Pairs.{pair, pair_parts, first_of, second_of, is_datum, pairs_at, images}
use Rattle.setl_value.specs.WellFormed.{IsWellFormed, IsValue}
use Rattle.setl_set.specs.Laws.{Inserts, Gathers}
use Rattle.setl_set.specs.Sets.{insert_datum}
use Rattle.setl_map.specs.Maps.{only, image, domain_of, range_of, without_point, put_image, put_images}
use Rattle.setl_operators_laws.specs.ValueLaws.{IsValueOrOm}
use Rattle.setl_operators_laws.specs.Lists.{all_append, all_weaker, all_map, all_filter, OfSome, all_filter_map}
use Rattle.setl_operators_laws.specs.SetValues.{Stands, set_stands, higher, all_insert, all_set_from, rising_filter}

first_stands : (d : Datum) → Stands 499 d → OfSome (Stands 499) (first_of (pair_parts d))
first_stands (tuple (part_then x (part_then y no_part))) h = (h.0.0.0, omega (arith, h.1))
first_stands d h = tt

second_stands : (d : Datum) → Stands 499 d → OfSome (Stands 499) (second_of (pair_parts d))
second_stands (tuple (part_then x (part_then y no_part))) h = (h.0.0.1.0, omega (arith, h.1))
second_stands d h = tt

pub domain_stands : (f : List Datum) → AllByRecursion (Stands 499) f → AllByRecursion (Stands 499) (domain_of f)
domain_stands f a = all_set_from (Stands 499) (filter_map (λ d. first_of (pair_parts d)) f) (all_filter_map (Stands 499) (Stands 499) (λ d. first_of (pair_parts d)) f first_stands a)

pub range_stands : (f : List Datum) → AllByRecursion (Stands 499) f → AllByRecursion (Stands 499) (range_of f)
range_stands f a = all_set_from (Stands 499) (filter_map (λ d. second_of (pair_parts d)) f) (all_filter_map (Stands 499) (Stands 499) (λ d. second_of (pair_parts d)) f second_stands a)

pub without_stands : (P : Datum → Type 0) (x : Datum) (f : List Datum) → AllByRecursion P f → AllByRecursion P (without_point x f)
without_stands P x f a = all_filter P (λ d. not (is_datum x (first_of (pair_parts d)))) f a

pub rising_without : (x : Datum) (f : List Datum) → IsRising f → IsRising (without_point x f)
rising_without x f r = rising_filter (λ d. not (is_datum x (first_of (pair_parts d)))) f r

pub images_stand : (x : Datum) (f : List Datum) → AllByRecursion (Stands 499) f → AllByRecursion (Stands 499) (images x f)
images_stand x f a = all_filter_map (Stands 499) (Stands 499) (λ d. second_of (pair_parts d)) (pairs_at x f) second_stands (all_filter (Stands 499) (λ d. is_datum x (first_of (pair_parts d))) f a)

only_stands : (ys : List Datum) → AllByRecursion (Stands 499) ys → IsValueOrOm (only ys)
only_stands [] a = tt
only_stands (y ∷ []) a = higher y a.0
only_stands (y ∷ z ∷ ys) a = tt

pub image_stands : (x : Datum) (f : List Datum) → AllByRecursion (Stands 499) f → IsValueOrOm (image x f)
image_stands x f a = only_stands (images x f) (images_stand x f a)

-- ---- the images of a point rise

-- a pair of x
abbrev OfPoint : Datum → Datum → Type 0
OfPoint x d = (y : Datum) × (d ≡ pair x y)

of_point : (x d : Datum) → is_datum x (first_of (pair_parts d)) ≡ true → OfPoint x d
of_point x (tuple (part_then a (part_then y no_part))) h = (y, ap (λ z. pair z y) (sym (same_if_eq x a h)))
of_point x d h = absurd (false≢true h)

all_of_point : (x : Datum) (f : List Datum) → AllByRecursion (OfPoint x) (pairs_at x f)
all_of_point x [] = tt
all_of_point x (d ∷ f) = go (is_datum x (first_of (pair_parts d))) refl (all_of_point x f)
  where
    go : (b : Bool) → is_datum x (first_of (pair_parts d)) ≡ b → AllByRecursion (OfPoint x) (pairs_at x f) → AllByRecursion (OfPoint x) (cond b (d ∷ pairs_at x f) (pairs_at x f))
    go true e r = (of_point x d e, r)
    go false e r = r

then_equal : (o : Ordering) → ordering_then o Equal ≡ Less → o ≡ Less
then_equal Less h = refl
then_equal Equal h = h
then_equal Greater h = cc

itself : (d : Datum) → datum_cmp d d ≡ Equal
itself d = (equal_iff_same d d).1 refl

second_less : (x y z : Datum) → datum_cmp (pair x y) (pair x z) ≡ Less → datum_cmp y z ≡ Less
second_less x y z h = then_equal (datum_cmp y z) (sym (ap (λ o. ordering_then o (ordering_then (datum_cmp y z) Equal)) (itself x)) ∙ h)

abbrev seconds : List Datum → List Datum
seconds ds = filter_map (λ d. second_of (pair_parts d)) ds

seconds_cons : (x d : Datum) (ds : List Datum) (p : OfPoint x d) → seconds (d ∷ ds) ≡ p.0 ∷ seconds ds
seconds_cons x d ds p = ap (λ z. cons_option (second_of (pair_parts z)) (seconds ds)) p.1

seconds_below : (x y : Datum) (ds : List Datum) → AllByRecursion (OfPoint x) ds → AllByRecursion (λ e. datum_cmp (pair x y) e ≡ Less) ds → AllByRecursion (λ z. datum_cmp y z ≡ Less) (seconds ds)
seconds_below x y [] p a = tt
seconds_below x y (d ∷ ds) p a =
    subst (AllByRecursion (λ z. datum_cmp y z ≡ Less)) (sym (seconds_cons x d ds p.0))
    (second_less x y p.0.0 (subst (λ z. datum_cmp (pair x y) z ≡ Less) p.0.1 a.0), seconds_below x y ds p.1 a.1)

rising_seconds : (x : Datum) (ds : List Datum) → AllByRecursion (OfPoint x) ds → IsRising ds → IsRising (seconds ds)
unfolding IsStrictlySortedBy
rising_seconds x [] p r = tt
rising_seconds x (d ∷ ds) p r =
    subst IsRising (sym (seconds_cons x d ds p.0)) (seconds_below x p.0.0 ds p.1 (subst (λ z. AllByRecursion (λ e. datum_cmp z e ≡ Less) ds) p.0.1 r.0), rising_seconds x ds p.1 r.1)

pub rising_images : (x : Datum) (f : List Datum) → IsRising f → IsRising (images x f)
rising_images x f r = rising_seconds x (pairs_at x f) (all_of_point x f) (rising_filter (λ d. is_datum x (first_of (pair_parts d))) f r)

-- ---- after a put

-- the pair of two values
pair_stands : (x y : Datum) → IsValue x → IsValue y → Stands 502 (pair x y)
pair_stands x y h k = (((h.0, (k.0, tt)), tt), omega (arith, h.1, k.1))

much_higher : (ds : List Datum) → AllByRecursion (Stands 499) ds → AllByRecursion (Stands 502) ds
much_higher ds a = all_weaker (Stands 499) (Stands 502) ds (λ d h. (h.0, omega (arith, h.1))) a

pub put_image_stands : Inserts → (x : Datum) (y : Option Datum) (f : List Datum) → IsValue x → IsValueOrOm y → AllByRecursion (Stands 499) f → IsRising f → IsWellFormed (set_of (put_image x y f))
put_image_stands ins x None f h k a r = (set_stands 499 (without_point x f) (without_stands (Stands 499) x f a) (rising_without x f r)).0
put_image_stands ins x (Some y) f h k a r =
    let rest = without_point x f in
    (set_stands 502 (insert_datum (pair x y) rest) (all_insert (Stands 502) (pair x y) rest (pair_stands x y h k) (much_higher rest (without_stands (Stands 499) x f a))) (ins (pair x y) rest (rising_without x f r)).rising).0

pub put_images_stand : Gathers → (x : Datum) (ys f : List Datum) → IsValue x → AllByRecursion (Stands 500) ys → AllByRecursion (Stands 499) f → IsWellFormed (set_of (put_images x ys f))
put_images_stand g x ys f h b a =
    let rest = without_point x f in
    let pairs = map (λ y. pair x y) ys in
    (set_stands 502 (put_images x ys f)
    (all_set_from (Stands 502) (rest ++ pairs) (all_append (Stands 502) rest pairs (much_higher rest (without_stands (Stands 499) x f a)) (all_map (Stands 500) (Stands 502) (λ y. pair x y) ys (λ y k. pair_stands x y h k) b)))
    (g (rest ++ pairs)).rising).0
