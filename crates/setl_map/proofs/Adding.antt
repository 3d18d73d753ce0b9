-- One image more is one pair more.
use Rattle.std.specs.Prelude.{◌≡◌, ◌≤◌, ◌+◌, Bool, true, false, ◌||◌, cond, not, List, [], ◌∷◌, ◌++◌, max, nat_le, nat_lt, refl}
use Rattle.std.specs.List.{AllByRecursion, list_any}
use Rattle.std.specs.declared.cmp.Ordering.{Ordering}
use Rattle.std.specs.declared.cmp.Ordering.TheVariants.{Less, Equal, Greater}
use Rattle.std.specs.Ordering.{is_eq}
use Rattle.std.proofs.Common.{ap, sym, ◌∙◌, arith}
use Rattle.std.proofs.lemmas.Bool.Decides.{nat_tests}
use Rattle.std.proofs.lemmas.List.Folds.{list_any-append}
use Rattle.setl_value.specs.Datum.{Datum, depth, elements_depth, elements_of, set_of}
use Rattle.setl_value.specs.Order.{datum_cmp, IsRising}
use Rattle.setl_value.specs.OrderLaws.{same_datum}
use Rattle.setl_value.specs.Pairs.{pair, pairs_at, images}
use Rattle.setl_set.specs.Sets.{has_datum, insert_datum, insert_by}
use Rattle.setl_set.specs.Laws.{RisingListsAgree, TestsMembership, Gathers, Inserts}
use Rattle.setl_map.specs.Laws.{ImagesAreShallower}
use Rattle.setl_map.specs.Maps.{without_point, put_images}
use Rattle.setl_map.specs.code.Points.{is_at}
use Rattle.setl_map.specs.DepthLaws.{depth_insert}
use Rattle.setl_map.proofs.Gathering.{is_set_from}
use Rattle.setl_map.proofs.MapResults.{OfPoint, of_point, point_pairs, seconds, depth_put_all}
use Rattle.setl_map.proofs.PairFacts.{IsPair}

-- ---- a test of the members of a list

or_swapped : (a b c : Bool) → (a || (b || c)) ≡ (b || (a || c))
or_swapped true true c = refl
or_swapped true false c = refl
or_swapped false b c = refl

or_grouped : (a b c : Bool) → ((a || b) || c) ≡ (a || (b || c))
or_grouped true b c = refl
or_grouped false b c = refl

or_twice : (a b c : Bool) → a ≡ b → (b || c) ≡ (a || (b || c))
or_twice true true c e = refl
or_twice false b c e = refl
or_twice true false c e = cc

any_insert_by : (p : Datum → Bool) (o : Ordering) (d e : Datum) (es more : List Datum) → datum_cmp d e ≡ o → list_any p more ≡ (p d || list_any p es)
    → list_any p (insert_by o d e es more) ≡ (p d || list_any p (e ∷ es))
any_insert_by p Less d e es more h k = refl
any_insert_by p Equal d e es more h k = or_twice (p d) (p e) (list_any p es) (ap p (same_datum d e h))
any_insert_by p Greater d e es more h k = ap (λ b. p e || b) k ∙ or_swapped (p e) (p d) (list_any p es)

any_insert : (p : Datum → Bool) (d : Datum) (ds : List Datum) → list_any p (insert_datum d ds) ≡ (p d || list_any p ds)
any_insert p d [] = refl
any_insert p d (e ∷ es) = any_insert_by p (datum_cmp d e) d e es (insert_datum d es) refl (any_insert p d es)

any_pairs : (p : Datum → Bool) (x : Datum) (ys : List Datum) → list_any p (point_pairs x ys) ≡ list_any (λ y. p (pair x y)) ys
any_pairs p x [] = refl
any_pairs p x (y ∷ ys) = ap (λ b. p (pair x y) || b) (any_pairs p x ys)

-- the pairs of x and the others are all pairs of a map
parted_at : (p : Datum → Bool) (x d : Datum) (ds : List Datum) (b : Bool) → (b ≡ true → OfPoint x d)
    → (list_any p (without_point x ds) || list_any (λ y. p (pair x y)) (images x ds)) ≡ list_any p ds
    → (list_any p (cond (not b) (d ∷ without_point x ds) (without_point x ds)) || list_any (λ y. p (pair x y)) (seconds (cond b (d ∷ pairs_at x ds) (pairs_at x ds)))) ≡ (p d || list_any p ds)
parted_at p x d ds true g h =
    let u = g refl in
    let rest = list_any p (without_point x ds) in
    let more = list_any (λ y. p (pair x y)) (images x ds) in
    ap (λ z. rest || list_any (λ y. p (pair x y)) (seconds (z ∷ pairs_at x ds))) u.1 ∙ or_swapped rest (p (pair x u.0)) more
    ∙ ap (λ b. p (pair x u.0) || b) h ∙ ap (λ z. p z || list_any p ds) (sym u.1)
parted_at p x d ds false g h =
    or_grouped (p d) (list_any p (without_point x ds)) (list_any (λ y. p (pair x y)) (images x ds)) ∙ ap (λ b. p d || b) h

parted : (p : Datum → Bool) (x : Datum) (ds : List Datum) → AllByRecursion IsPair ds → (list_any p (without_point x ds) || list_any (λ y. p (pair x y)) (images x ds)) ≡ list_any p ds
parted p x [] a = refl
parted p x (d ∷ ds) a = parted_at p x d ds (is_at x d) (of_point x d a.0) (parted p x ds a.1)

has_added : (d x y : Datum) (ds : List Datum) → AllByRecursion IsPair ds
    → has_datum d (insert_datum (pair x y) ds) ≡ has_datum d (without_point x ds ++ point_pairs x (insert_datum y (images x ds)))
has_added d x y ds a =
    let p = λ (e : Datum). is_eq (datum_cmp d e) in
    let q = λ (z : Datum). p (pair x z) in
    let rest = list_any p (without_point x ds) in
    any_insert p (pair x y) ds ∙ ap (λ b. p (pair x y) || b) (sym (parted p x ds a)) ∙ or_swapped (p (pair x y)) rest (list_any q (images x ds))
    ∙ ap (λ b. rest || b) (sym (any_insert q y (images x ds)))
    ∙ ap (λ b. rest || b) (sym (any_pairs p x (insert_datum y (images x ds))))
    ∙ sym (list_any-append p (without_point x ds) (point_pairs x (insert_datum y (images x ds))))

pub added_is : RisingListsAgree → TestsMembership → Gathers → Inserts → (x y : Datum) (ds : List Datum) → AllByRecursion IsPair ds → IsRising ds
    → insert_datum (pair x y) ds ≡ put_images x (insert_datum y (images x ds)) ds
added_is agree tests gathers inserts x y ds a r =
    is_set_from agree tests gathers (insert_datum (pair x y) ds) (without_point x ds ++ point_pairs x (insert_datum y (images x ds))) (inserts (pair x y) ds r).rising (λ d. has_added d x y ds a)

-- ---- depth

depth_added : (d : Datum) (ds : List Datum) → depth (set_of (insert_datum d ds)) ≡ 1 + max (depth d) (elements_depth (elements_of ds))
depth_added d ds = omega (arith, depth_insert d ds)

pub deep_added : (d : Datum) (ds more : List Datum) → depth (set_of ds) ≤ 500 → insert_datum d ds ≡ more → nat_le 500 (depth d) ≡ nat_lt 500 (depth (set_of more))
deep_added d ds more h e =
    let a = depth_added d ds in
    let t : nat_le 500 (depth d) ≡ nat_lt 500 (depth (set_of (insert_datum d ds))) = grind (arith, nat_tests) in
    t ∙ ap (λ l. nat_lt 500 (depth (set_of l))) e

images_depth : (x : Datum) (ys : List Datum) → elements_depth (elements_of ys) ≤ elements_depth (elements_of (point_pairs x ys))
images_depth x [] = omega arith
images_depth x (y ∷ ys) = omega (arith, images_depth x ys)

pub images_shallower : ImagesAreShallower
images_shallower x ys f = omega (arith, depth_put_all x ys f, images_depth x ys)
