-- Maps that fit their mode.
use Rattle.std.proofs.Common.{◌≡◌, ℕ, Bool, true, false, ◌&&◌, ◌||◌, List, [], ◌∷◌, length, Option, Some, None, refl, ap, sym, ◌∙◌, subst, arith, eqb-true, ⊎_elim}
use Rattle.std.specs.List.{flat_map, list_all, filter_map, cons_option}
use Rattle.std.specs.Option.{IsSome, is_some}
use Rattle.std.specs.Ordering.{is_eq}
use Rattle.std.proofs.lemmas.Bool.{false≢true, or_left, or_right, or_cases, and_parts}
use Rattle.setl_value.specs.Datum.{Datum, set_of, elements_of, element_list, element_list-elements_of}
use Rattle.setl_value.specs.Order.{datum_cmp, IsRising}
use Rattle.setl_value.specs.OrderLaws.{same_if_eq}
use Rattle.setl_value.specs.Pairs.{pair, pair_parts, first_of, is_map, images}
use Rattle.setl_set.specs.Sets.{has_datum, set_from}
use Rattle.setl_set.specs.Laws.{TestsMembership, Gathers}
use Rattle.setl_map.specs.Laws.{ImagesByPairs}
use Rattle.setl_map.specs.Maps.{image, only, domain_of}
use Rattle.setl_modes.specs.declared.mode.Form.{Form as Attribute}
use Rattle.setl_modes.specs.Modes.{Mode, General, Integers, Strings, Booleans, Atoms, Elements, Sets, Tuples, SingleMaps, MultiMaps}
use Rattle.setl_modes.specs.Fits.{datum_fits, single_fits, multi_fits}
use Rattle.setl_modes_places.specs.Places.{at_pair, at_point, elements_at, names}
use Rattle.setl_base.specs.Base.{find}
use Rattle.setl_rep_bases.specs.declared.BaseId.{BaseId}
use Rattle.setl_rep_bases.specs.Bases.{BasesState, base_at, IsThere}
use Rattle.setl_rep_forms.specs.Form.{Form, Layout}
use Rattle.setl_rep_forms.specs.Stands.{stands, IsOver, IsImages}
use Rattle.setl_rep_building.specs.Contents.{IsContentOf}
use Rattle.setl_rep_building.specs.HasForm.{HasForm, IsMapMode, table_of, base_of}
use Rattle.setl_rep_building.specs.Places.{HasBases, PlacesAreFound}
use Rattle.setl_rep_building.proofs.Facts.{not_both, has_append, has_first, given, pair_from}
use Rattle.setl_rep_building.proofs.Finding.{at_element, names_base, place_on}

-- ---- points

abbrev firsts : List Datum → List Datum
firsts ds = filter_map (λ d. first_of (pair_parts d)) ds

in_firsts : (x : Datum) (ds : List Datum) → has_datum x (firsts ds) ≡ true → (y : Datum) × (has_datum (pair x y) ds ≡ true)
in_firsts x [] h = absurd (false≢true h)
in_firsts x (d ∷ ds) h = by (pair_parts d) refl h (in_firsts x ds)
  where
    Later : Type 0
    Later = has_datum x (firsts ds) ≡ true → (y : Datum) × (has_datum (pair x y) ds ≡ true)

    later : (y : Datum) × (has_datum (pair x y) ds ≡ true) → (y : Datum) × (has_datum (pair x y) (d ∷ ds) ≡ true)
    later r = (r.0, or_right (is_eq (datum_cmp (pair x r.0) d)) (has_datum (pair x r.0) ds) r.1)

    by : (o : Option (Datum × Datum)) → pair_parts d ≡ o → has_datum x (cons_option (first_of o) (firsts ds)) ≡ true → (has_datum x (firsts ds) ≡ true → (y : Datum) × (has_datum (pair x y) ds ≡ true)) → (y : Datum) × (has_datum (pair x y) (d ∷ ds) ≡ true)
    by None e k rest = later (rest k)
    by (Some p) e k rest =
        ⊎_elim
        (λ s. (p.1, subst (λ q. has_datum (pair x p.1) (q ∷ ds) ≡ true) (ap (λ z. pair z p.1) (same_if_eq x p.0 s) ∙ sym (pair_from d p.0 p.1 e)) (has_first (pair x p.1) ds)))
        (λ r. later (rest r))
        (or_cases (is_eq (datum_cmp x p.0)) (has_datum x (firsts ds)) k)

to_firsts : (x y : Datum) (ds : List Datum) → has_datum (pair x y) ds ≡ true → has_datum x (firsts ds) ≡ true
to_firsts x y [] h = absurd (false≢true h)
to_firsts x y (d ∷ ds) h =
    ⊎_elim
    (λ s. subst (λ q. has_datum x (cons_option (first_of (pair_parts q)) (firsts ds)) ≡ true) (same_if_eq (pair x y) d s) (has_first x (firsts ds)))
    (λ r. put (first_of (pair_parts d)) (to_firsts x y ds r))
    (or_cases (is_eq (datum_cmp (pair x y) d)) (has_datum (pair x y) ds) h)
  where
    put : (o : Option Datum) → has_datum x (firsts ds) ≡ true → has_datum x (cons_option o (firsts ds)) ≡ true
    put None k = k
    put (Some a) k = or_right (is_eq (datum_cmp x a)) (has_datum x (firsts ds)) k

gathered : TestsMembership → Gathers → (x : Datum) (ds : List Datum) → (has_datum x (set_from ds) ≡ true → has_datum x ds ≡ true) × (has_datum x ds ≡ true → has_datum x (set_from ds) ≡ true)
gathered tests gathers x ds = (
  λ h. (tests x ds).1 (((gathers ds).members x).0 ((tests x (set_from ds)).0 h)),
  λ h. (tests x (set_from ds)).1 (((gathers ds).members x).1 ((tests x ds).0 h)),
)

-- a point has a pair, and the first part of a pair is a point
pub in_domain : TestsMembership → Gathers → (x : Datum) (ds : List Datum) → has_datum x (domain_of ds) ≡ true → (y : Datum) × (has_datum (pair x y) ds ≡ true)
in_domain tests gathers x ds h = in_firsts x ds ((gathered tests gathers x (firsts ds)).0 h)

pub to_domain : TestsMembership → Gathers → (x y : Datum) (ds : List Datum) → has_datum (pair x y) ds ≡ true → has_datum x (domain_of ds) ≡ true
to_domain tests gathers x y ds h = (gathered tests gathers x (firsts ds)).1 (to_firsts x y ds h)

-- ---- images

pub to_images : TestsMembership → ImagesByPairs → (x y : Datum) (ds : List Datum) → has_datum (pair x y) ds ≡ true → has_datum y (images x ds) ≡ true
to_images tests by_pairs x y ds h = (tests y (images x ds)).1 ((by_pairs x y ds).1 ((tests (pair x y) ds).0 h))

pub from_images : TestsMembership → ImagesByPairs → (x y : Datum) (ds : List Datum) → has_datum y (images x ds) ≡ true → has_datum (pair x y) ds ≡ true
from_images tests by_pairs x y ds h = (tests (pair x y) ds).1 ((by_pairs x y ds).0 ((tests y (images x ds)).0 h))

pub only_is : (ys : List Datum) (y : Datum) → only ys ≡ Some y → ys ≡ y ∷ []
only_is [] y h = absurd (not_both h)
only_is (z ∷ []) y h = cc
only_is (z ∷ w ∷ ws) y h = absurd (not_both h)

one_image : (ys : List Datum) → length ys ≡ 1 → IsSome (only ys)
one_image [] h = absurd (omega arith)
one_image (y ∷ []) h = refl
one_image (y ∷ z ∷ zs) h = absurd (omega arith)

-- ---- the tests

each : (q : Datum → Bool) (ds : List Datum) (d : Datum) → list_all q ds ≡ true → has_datum d ds ≡ true → q d ≡ true
each q [] d a h = absurd (false≢true h)
each q (e ∷ es) d a h =
    let parts = and_parts (q e) (list_all q es) a in
    ⊎_elim (λ s. ap q (same_if_eq d e s) ∙ parts.0) (λ r. each q es d parts.1 r) (or_cases (is_eq (datum_cmp d e)) (has_datum d es) h)

both : (x y : Bool) → x ≡ true → y ≡ true → (x && y) ≡ true
both true y h k = k
both false y h k = absurd (false≢true h)

more : (p q : Datum → Bool) (ds : List Datum) → ((d : Datum) → p d ≡ true → q d ≡ true) → list_all p ds ≡ true → list_all q ds ≡ true
more p q [] f h = refl
more p q (d ∷ ds) f h =
    let parts = and_parts (p d) (list_all p ds) h in
    both (q d) (list_all q ds) (f d parts.0) (more p q ds f parts.1)

whole : (ds : List Datum) → element_list (elements_of ds) ≡ ds
whole ds = element_list-elements_of ds

single_test : (a : Attribute) (d r : Mode) (ds : List Datum) → datum_fits (SingleMaps a d r) (set_of ds) ≡ true → list_all (λ p. single_fits (datum_fits d) (datum_fits r) ds (pair_parts p)) ds ≡ true
single_test a d r ds h = subst (λ l. list_all (λ p. single_fits (datum_fits d) (datum_fits r) l (pair_parts p)) l ≡ true) (whole ds) h

multi_test : (a : Attribute) (d s : Mode) (ds : List Datum) → datum_fits (MultiMaps a d s) (set_of ds) ≡ true → list_all (λ p. multi_fits (datum_fits d) (datum_fits s) ds (pair_parts p)) ds ≡ true
multi_test a d s ds h = subst (λ l. list_all (λ p. multi_fits (datum_fits d) (datum_fits s) l (pair_parts p)) l ≡ true) (whole ds) h

single_is_pair : (p q : Datum → Bool) (f : List Datum) (o : Option (Datum × Datum)) → single_fits p q f o ≡ true → is_some o ≡ true
single_is_pair p q f None h = h
single_is_pair p q f (Some x) h = refl

multi_is_pair : (p q : Datum → Bool) (f : List Datum) (o : Option (Datum × Datum)) → multi_fits p q f o ≡ true → is_some o ≡ true
multi_is_pair p q f None h = h
multi_is_pair p q f (Some x) h = refl

pub single_is_map : (a : Attribute) (d r : Mode) (ds : List Datum) → datum_fits (SingleMaps a d r) (set_of ds) ≡ true → is_map ds ≡ true
single_is_map a d r ds h =
    more (λ p. single_fits (datum_fits d) (datum_fits r) ds (pair_parts p)) (λ p. is_some (pair_parts p)) ds (λ p k. single_is_pair (datum_fits d) (datum_fits r) ds (pair_parts p) k) (single_test a d r ds h)

pub multi_is_map : (a : Attribute) (d s : Mode) (ds : List Datum) → datum_fits (MultiMaps a d s) (set_of ds) ≡ true → is_map ds ≡ true
multi_is_map a d s ds h =
    more (λ p. multi_fits (datum_fits d) (datum_fits s) ds (pair_parts p)) (λ p. is_some (pair_parts p)) ds (λ p k. multi_is_pair (datum_fits d) (datum_fits s) ds (pair_parts p) k) (multi_test a d s ds h)

-- ---- one image of each point

single_pair : (a : Attribute) (d r : Mode) (ds : List Datum) (x y : Datum) → datum_fits (SingleMaps a d r) (set_of ds) ≡ true → has_datum (pair x y) ds ≡ true → single_fits (datum_fits d) (datum_fits r) ds (Some (x, y)) ≡ true
single_pair a d r ds x y h p = each (λ q. single_fits (datum_fits d) (datum_fits r) ds (pair_parts q)) ds (pair x y) (single_test a d r ds h) p

pub has_image : (a : Attribute) (d r : Mode) (ds : List Datum) (x y : Datum) → datum_fits (SingleMaps a d r) (set_of ds) ≡ true → has_datum (pair x y) ds ≡ true → IsSome (image x ds)
has_image a d r ds x y h p = one_image (images x ds) (eqb-true (length (images x ds)) 1 (and_parts _ _ (and_parts _ _ (single_pair a d r ds x y h p)).0).1)

pub image_fits : (a : Attribute) (d r : Mode) (ds : List Datum) (x y : Datum) → datum_fits (SingleMaps a d r) (set_of ds) ≡ true → has_datum (pair x y) ds ≡ true → datum_fits r y ≡ true
image_fits a d r ds x y h p = (and_parts _ _ (single_pair a d r ds x y h p)).1

single_place : (c : ℕ) (a : Attribute) (d r : Mode) (ds : List Datum) (x y v : Datum) → has_datum (pair x y) ds ≡ true → (has_datum v (elements_at c d x) || has_datum v (elements_at c r y)) ≡ true → has_datum v (elements_at c (SingleMaps a d r) (set_of ds)) ≡ true
single_place c a d r ds x y v p g =
    let f = λ (q : Datum). at_pair (elements_at c d) (elements_at c r) (pair_parts q) in
    ap (λ l. has_datum v (flat_map f l)) (whole ds)
    ∙ given f ds (pair x y) v p (has_append v (elements_at c d x) (elements_at c r y) ∙ g)

pub image_found : (bs : BasesState) (name : ℕ → BaseId) (a : Attribute) (d r : Mode) (ds : List Datum) (x y : Datum) → PlacesAreFound bs name (SingleMaps a d r) (set_of ds) → has_datum (pair x y) ds ≡ true → PlacesAreFound bs name r y
image_found bs name a d r ds x y h p c v g = h c v (single_place c a d r ds x y v p (or_right (has_datum v (elements_at c d x)) _ g))

pub single_point_found : (bs : BasesState) (name : ℕ → BaseId) (a : Attribute) (d r : Mode) (b : ℕ) (ds : List Datum) (x y : Datum) → base_of d ≡ Some b → PlacesAreFound bs name (SingleMaps a d r) (set_of ds) → has_datum (pair x y) ds ≡ true → IsSome (find (base_at bs (name b)) x)
single_point_found bs name a d r b ds x y on h p = h b x (single_place b a d r ds x y x p (or_left _ (has_datum x (elements_at b r y)) (at_element d b x on)))

-- ---- a set of images of each point

multi_pair : (a : Attribute) (d s : Mode) (ds : List Datum) (x y : Datum) → datum_fits (MultiMaps a d s) (set_of ds) ≡ true → has_datum (pair x y) ds ≡ true → multi_fits (datum_fits d) (datum_fits s) ds (Some (x, y)) ≡ true
multi_pair a d s ds x y h p = each (λ q. multi_fits (datum_fits d) (datum_fits s) ds (pair_parts q)) ds (pair x y) (multi_test a d s ds h) p

pub images_fit : (a : Attribute) (d s : Mode) (ds : List Datum) (x y : Datum) → datum_fits (MultiMaps a d s) (set_of ds) ≡ true → has_datum (pair x y) ds ≡ true → datum_fits s (set_of (images x ds)) ≡ true
images_fit a d s ds x y h p = (and_parts _ _ (multi_pair a d s ds x y h p)).1

multi_place : (c : ℕ) (a : Attribute) (d s : Mode) (ds : List Datum) (x y v : Datum) → has_datum (pair x y) ds ≡ true → (has_datum v (elements_at c d x) || has_datum v (elements_at c s (set_of (images x ds)))) ≡ true → has_datum v (elements_at c (MultiMaps a d s) (set_of ds)) ≡ true
multi_place c a d s ds x y v p g =
    let f = λ (l : List Datum) (q : Datum). at_point (elements_at c d) (elements_at c s) l (pair_parts q) in
    ap (λ l. has_datum v (flat_map (f l) l)) (whole ds)
    ∙ given (f ds) ds (pair x y) v p (has_append v (elements_at c d x) (elements_at c s (set_of (images x ds))) ∙ g)

pub images_found : (bs : BasesState) (name : ℕ → BaseId) (a : Attribute) (d s : Mode) (ds : List Datum) (x y : Datum) → PlacesAreFound bs name (MultiMaps a d s) (set_of ds) → has_datum (pair x y) ds ≡ true → PlacesAreFound bs name s (set_of (images x ds))
images_found bs name a d s ds x y h p c v g = h c v (multi_place c a d s ds x y v p (or_right (has_datum v (elements_at c d x)) _ g))

pub multi_point_found : (bs : BasesState) (name : ℕ → BaseId) (a : Attribute) (d s : Mode) (b : ℕ) (ds : List Datum) (x y : Datum) → base_of d ≡ Some b → PlacesAreFound bs name (MultiMaps a d s) (set_of ds) → has_datum (pair x y) ds ≡ true → IsSome (find (base_at bs (name b)) x)
multi_point_found bs name a d s b ds x y on h p = h b x (multi_place b a d s ds x y x p (or_left _ (has_datum x (elements_at b s (set_of (images x ds)))) (at_element d b x on)))

-- ---- bases

pub second_bases : (bs : BasesState) (name : ℕ → BaseId) (d r m : Mode) → ((c : ℕ) → names c m ≡ (names c d || names c r)) → HasBases bs name m → HasBases bs name r
second_bases bs name d r m e h c p = h c (e c ∙ or_right (names c d) (names c r) p)

pub first_base : (bs : BasesState) (name : ℕ → BaseId) (d r m : Mode) (b : ℕ) → ((c : ℕ) → names c m ≡ (names c d || names c r)) → base_of d ≡ Some b → HasBases bs name m → IsThere bs (name b)
first_base bs name d r m b e on h = h b (e b ∙ or_left (names b d) (names b r) (names_base d b on))

-- ---- contents

pub single_content : (bs : BasesState) (name : ℕ → BaseId) (a : Attribute) (d r : Mode) (ds : List Datum) (x y : Datum) (f : Form) → image x ds ≡ Some y → stands bs f ≡ Some y → IsOver bs f → HasForm name r f → IsContentOf bs name (SingleMaps a d r) ds x f
single_content bs name a d r ds x y f i s o h = record { value = y; is = s; images = sym (only_is (images x ds) y i); content = tt; over = o; form = h }

are_images : (ys : List Datum) (y : Datum) → IsRising ys → has_datum y ys ≡ true → IsImages (set_of ys)
are_images [] y r h = absurd (false≢true h)
are_images (z ∷ zs) y r h = subst IsRising (sym (ap (λ l. z ∷ l) (whole zs))) r

pub multi_content : (bs : BasesState) (name : ℕ → BaseId) (a : Attribute) (d s : Mode) (ds : List Datum) (x y : Datum) (f : Form) → IsRising (images x ds) → has_datum y (images x ds) ≡ true → stands bs f ≡ Some (set_of (images x ds)) → IsOver bs f → HasForm name s f → IsContentOf bs name (MultiMaps a d s) ds x f
multi_content bs name a d s ds x y f r p st o h = record { value = set_of (images x ds); is = st; images = whole (images x ds); content = are_images (images x ds) y r p; over = o; form = h }

-- ---- maps of either kind

pub table_mode : (m : Mode) (p : Layout × ℕ) → table_of m ≡ Some p → IsMapMode m
table_mode (SingleMaps a d r) p h = tt
table_mode (MultiMaps a d s) p h = tt
table_mode General p h = absurd (not_both h)
table_mode Integers p h = absurd (not_both h)
table_mode Strings p h = absurd (not_both h)
table_mode Booleans p h = absurd (not_both h)
table_mode Atoms p h = absurd (not_both h)
table_mode (Elements c m) p h = absurd (not_both h)
table_mode (Sets a m) p h = absurd (not_both h)
table_mode (Tuples m) p h = absurd (not_both h)

pub fitting_is_map : (m : Mode) (ds : List Datum) → IsMapMode m → datum_fits m (set_of ds) ≡ true → is_map ds ≡ true
fitting_is_map (SingleMaps a d r) ds i h = single_is_map a d r ds h
fitting_is_map (MultiMaps a d s) ds i h = multi_is_map a d s ds h
fitting_is_map General ds i h = absurd i
fitting_is_map Integers ds i h = absurd i
fitting_is_map Strings ds i h = absurd i
fitting_is_map Booleans ds i h = absurd i
fitting_is_map Atoms ds i h = absurd i
fitting_is_map (Elements c m) ds i h = absurd i
fitting_is_map (Sets a m) ds i h = absurd i
fitting_is_map (Tuples m) ds i h = absurd i

-- the points are members of the base
pub point_found : (bs : BasesState) (name : ℕ → BaseId) (m : Mode) (l : Layout) (b : ℕ) (ds : List Datum) (x y : Datum) → table_of m ≡ Some (l, b) → PlacesAreFound bs name m (set_of ds) → has_datum (pair x y) ds ≡ true → IsSome (find (base_at bs (name b)) x)
point_found bs name (SingleMaps a d r) l b ds x y t h p = single_point_found bs name a d r b ds x y (place_on a d l b t) h p
point_found bs name (MultiMaps a d s) l b ds x y t h p = multi_point_found bs name a d s b ds x y (place_on a d l b t) h p
point_found bs name General l b ds x y t h p = absurd (not_both t)
point_found bs name Integers l b ds x y t h p = absurd (not_both t)
point_found bs name Strings l b ds x y t h p = absurd (not_both t)
point_found bs name Booleans l b ds x y t h p = absurd (not_both t)
point_found bs name Atoms l b ds x y t h p = absurd (not_both t)
point_found bs name (Elements c m) l b ds x y t h p = absurd (not_both t)
point_found bs name (Sets a m) l b ds x y t h p = absurd (not_both t)
point_found bs name (Tuples m) l b ds x y t h p = absurd (not_both t)

pub table_there : (bs : BasesState) (name : ℕ → BaseId) (m : Mode) (l : Layout) (b : ℕ) → table_of m ≡ Some (l, b) → HasBases bs name m → IsThere bs (name b)
table_there bs name (SingleMaps a d r) l b t h = first_base bs name d r (SingleMaps a d r) b (λ c. refl) (place_on a d l b t) h
table_there bs name (MultiMaps a d s) l b t h = first_base bs name d s (MultiMaps a d s) b (λ c. refl) (place_on a d l b t) h
table_there bs name General l b t h = absurd (not_both t)
table_there bs name Integers l b t h = absurd (not_both t)
table_there bs name Strings l b t h = absurd (not_both t)
table_there bs name Booleans l b t h = absurd (not_both t)
table_there bs name Atoms l b t h = absurd (not_both t)
table_there bs name (Elements c m) l b t h = absurd (not_both t)
table_there bs name (Sets a m) l b t h = absurd (not_both t)
table_there bs name (Tuples m) l b t h = absurd (not_both t)

-- an image makes a pair
pub image_pair : TestsMembership → ImagesByPairs → (x y : Datum) (ds : List Datum) → image x ds ≡ Some y → has_datum (pair x y) ds ≡ true
image_pair tests by_pairs x y ds h = from_images tests by_pairs x y ds (subst (λ l. has_datum y l ≡ true) (sym (only_is (images x ds) y h)) (has_first y []))
