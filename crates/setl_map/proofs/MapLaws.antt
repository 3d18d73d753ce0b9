-- Which data are images.
use Rattle.std.specs.Prelude.{◌≡◌, Bool, true, false, ◌||◌, cond, List, [], ◌∷◌, Option, Some, None, refl}
use Rattle.std.specs.List.{list_any, cons_option, filter_map}
use Rattle.std.specs.declared.cmp.Ordering.{Ordering}
use Rattle.std.specs.declared.cmp.Ordering.TheVariants.{Less, Equal, Greater}
use Rattle.std.specs.Ordering.{is_eq, ordering_then}
use Rattle.std.proofs.Common.{ap, sym, ◌∙◌}
use Rattle.setl_value.specs.Datum.{Datum, bool, int, text, atom, tuple, set, no_part, om_then, part_then}
use Rattle.setl_value.specs.Order.{datum_cmp}
use Rattle.setl_value.specs.Pairs.{pair, pair_parts, second_of, pairs_at, images}
use Rattle.setl_set.specs.Sets.{has_datum}
use Rattle.setl_set.specs.Laws.{TestsMembership}
use Rattle.setl_map.specs.Laws.{ImagesByPairs}
use Rattle.setl_map.specs.code.Points.{is_at}

never_greater : (o : Ordering) → is_eq (ordering_then o Greater) ≡ false
never_greater Less = refl
never_greater Equal = refl
never_greater Greater = refl

never_less : (o p : Ordering) → is_eq (ordering_then o (ordering_then p Less)) ≡ false
never_less Less p = refl
never_less Equal Less = refl
never_less Equal Equal = refl
never_less Equal Greater = refl
never_less Greater p = refl

-- what one member adds to the test for an image: the image of a pair of x, if it is y
added : (x y d : Datum) → Bool
added x y d = cond (is_at x d) (list_any (λ e. is_eq (datum_cmp y e)) (cons_option (second_of (pair_parts d)) [])) false

same_by : (o p : Ordering) (b : Bool) → b ≡ is_eq p → cond (is_eq o) (b || false) false ≡ is_eq (ordering_then o (ordering_then p Equal))
same_by Less p b e = refl
same_by Equal Less true e = cc
same_by Equal Less false e = refl
same_by Equal Equal true e = refl
same_by Equal Equal false e = cc
same_by Equal Greater true e = cc
same_by Equal Greater false e = refl
same_by Greater p b e = refl

by_member : (x y d : Datum) → added x y d ≡ is_eq (datum_cmp (pair x y) d)
unfolding added
by_member x y (bool b) = refl
by_member x y (int z) = refl
by_member x y (text t) = refl
by_member x y (atom n) = refl
by_member x y (set ms) = refl
by_member x y (tuple no_part) = refl
by_member x y (tuple (om_then ps)) = refl
by_member x y (tuple (part_then a no_part)) = sym (never_greater (datum_cmp x a))
by_member x y (tuple (part_then a (om_then ps))) = sym (never_greater (datum_cmp x a))
by_member x y (tuple (part_then a (part_then b no_part))) = same_by (datum_cmp x a) (datum_cmp y b) (is_eq (datum_cmp y b)) refl
by_member x y (tuple (part_then a (part_then b (om_then ps)))) = sym (never_less (datum_cmp x a) (datum_cmp y b))
by_member x y (tuple (part_then a (part_then b (part_then c ps)))) = sym (never_less (datum_cmp x a) (datum_cmp y b))

or_false : (b c : Bool) → (b || c) ≡ ((b || false) || c)
or_false true c = refl
or_false false c = refl

any_cons : (p : Datum → Bool) (o : Option Datum) (ds : List Datum) → list_any p (cons_option o ds) ≡ (list_any p (cons_option o []) || list_any p ds)
any_cons p None ds = refl
any_cons p (Some d) ds = or_false (p d) (list_any p ds)

any_step : (p : Datum → Bool) (b : Bool) (o : Option Datum) (ds kept : List Datum) → list_any p kept ≡ (list_any p (cons_option o []) || list_any p ds)
    → list_any p (cond b kept ds) ≡ (cond b (list_any p (cons_option o [])) false || list_any p ds)
any_step p true o ds kept h = h
any_step p false o ds kept h = refl

by_test : (x d : Datum) (f : List Datum) (b : Bool) → filter_map (λ c. second_of (pair_parts c)) (cond b (d ∷ pairs_at x f) (pairs_at x f)) ≡ cond b (cons_option (second_of (pair_parts d)) (images x f)) (images x f)
by_test x d f true = refl
by_test x d f false = refl

images_cons : (x d : Datum) (f : List Datum) (b : Bool) → b ≡ is_at x d → images x (d ∷ f) ≡ cond b (cons_option (second_of (pair_parts d)) (images x f)) (images x f)
images_cons x d f b e = ap (filter_map (λ c. second_of (pair_parts c))) (ap (λ t. cond t (d ∷ pairs_at x f) (pairs_at x f)) (sym e)) ∙ by_test x d f b

has_images : (x y : Datum) (f : List Datum) → has_datum y (images x f) ≡ has_datum (pair x y) f
unfolding added
has_images x y [] = refl
has_images x y (d ∷ f) =
    let p = λ (e : Datum). is_eq (datum_cmp y e) in
    let o = second_of (pair_parts d) in
    ap (list_any p) (images_cons x d f (is_at x d) refl) ∙ any_step p (is_at x d) o (images x f) (cons_option o (images x f)) (any_cons p o (images x f))
    ∙ ap (λ b. b || list_any p (images x f)) (by_member x y d) ∙ ap (λ b. is_eq (datum_cmp (pair x y) d) || b) (has_images x y f)

pub images_by_pairs : TestsMembership → ImagesByPairs
images_by_pairs tests x y f = (
  λ c. (tests (pair x y) f).0 (sym (has_images x y f) ∙ (tests y (images x f)).1 c),
  λ c. (tests y (images x f)).0 (has_images x y f ∙ (tests (pair x y) f).1 c),
)
