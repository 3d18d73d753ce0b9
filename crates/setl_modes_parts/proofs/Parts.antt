-- The parts of wholes that fit.
use Rattle.std.specs.Prelude.{◌≡◌, ℕ, zero, suc, pos, Bool, true, false, cond, List, [], ◌∷◌, int_le, slice_get, Option, Some, None, Ok, Err, refl, if◌then◌else◌}
use Rattle.std.specs.List.{AllByRecursion}
use Rattle.std.specs.Option.{option_map, option_flatten}
use Rattle.std.proofs.Common.{ap, sym, ◌∙◌, subst, inl, inr}
use Rattle.std.proofs.lemmas.Bool.{false≢true, and_parts}
use Rattle.setl_value.specs.Datum.{Datum, int, text, tuple, set, Parts, no_part, om_then, part_then, Elements, no_element, element_then, set_of, element_list, elements_of, part_list, element_list-elements_of}
use Rattle.setl_value.specs.Order.{IsRising}
use Rattle.setl_value.specs.Pairs.{pair, pair_parts, is_map, images}
use Rattle.setl_value.specs.WellFormed.{IsTextByte, IsWellFormed, PartsAreWellFormed, ElementsAreWellFormed, PartIsWellFormed}
use Rattle.setl_map.specs.Maps.{only, image}
use Rattle.setl_tuple.specs.Tuples.{index_of}
use Rattle.setl_modes.specs.Modes.{Mode, General, Integers, Strings, Booleans, Atoms, Elements as ElementsOf, Sets, Tuples, SingleMaps, MultiMaps}
use Rattle.setl_modes.specs.Fits.{part_fits, single_fits, multi_fits, datum_fits, fits}
use Rattle.setl_operators_table.specs.Outcome.{Outcome, Gives, Fails, KindFault, RangeFault}
use Rattle.setl_operators_table.specs.Collections.{on_map}
use Rattle.setl_operators_table.specs.Selections.{get, images_of, component}
use Rattle.setl_tuple.specs.declared.TupleFault.TheVariants.{Range}
use Rattle.setl_modes_parts.specs.Parts.{member_mode, takes_sets, value_mode, images_mode}
use Rattle.setl_modes_parts.specs.Laws.{ValuesFit, ImagesFit}
use Rattle.setl_modes_parts.proofs.Lists.{Among, all_of}
use Rattle.setl_modes_parts.proofs.Images.{images_to_pairs, pairs_to_images, rising_images}
use Rattle.setl_modes_parts.proofs.Subsets.{some_same, list_fits, of_set, any_fits, single_second, members_fit, empty_fits}

-- ---- what is given

abbrev pub given : Outcome → Option Datum → Option Datum
given (Gives v n) w = v
given o w = w

pub gives_same : (v w : Option Datum) (n m : ℕ) → Gives v n ≡ Gives w m → v ≡ w
gives_same v w n m h = ap (λ o. given o w) h

pub map_gives : (make : List Datum → Outcome) (f : List Datum) (v : Option Datum) (n : ℕ) → on_map make f ≡ Gives v n → make f ≡ Gives v n
map_gives make f v n h = go (is_map f) h
  where
    go : (b : Bool) → (if b then make f else Fails KindFault) ≡ Gives v n → make f ≡ Gives v n
    go true e = e
    go false e = absurd (cc)

-- what a condition lets through
pub let_through : {X : Type 0} (b : Bool) (o : Option X) (y : X) → cond b o None ≡ Some y → (b ≡ true) × (o ≡ Some y)
let_through true o y h = (refl, h)
let_through false o y h = absurd (cc)

-- ---- well-formed parts

pub element_formed : (ms : Elements) → ElementsAreWellFormed ms → (d : Datum) → Among d (element_list ms) → IsWellFormed d
element_formed no_element h d m = absurd m
element_formed (element_then e ms) h d (inl p) = subst IsWellFormed (sym p) h.0
element_formed (element_then e ms) h d (inr m) = element_formed ms h.1 d m

component_formed : (ps : Parts) → PartsAreWellFormed ps → (q : Option Datum) → Among q (part_list ps) → PartIsWellFormed q
component_formed no_part h q m = absurd m
component_formed (om_then ps) h q (inl p) = subst PartIsWellFormed (sym p) tt
component_formed (om_then ps) h q (inr m) = component_formed ps h q m
component_formed (part_then d ps) h q (inl p) = subst PartIsWellFormed (sym p) h.0
component_formed (part_then d ps) h q (inr m) = component_formed ps h.1 q m

all_formed : (ds : List Datum) → ((d : Datum) → Among d ds → IsWellFormed d) → ElementsAreWellFormed (elements_of ds)
all_formed [] h = tt
all_formed (d ∷ ds) h = (h d (inl refl), all_formed ds (λ e m. h e (inr m)))

-- a component of a list, or `om` past its end
pub at_place : (P : Option Datum → Type 0) (ps : List (Option Datum)) (i : ℕ) → P None → ((q : Option Datum) → Among q ps → P q) → P (option_flatten (slice_get ps i))
at_place P [] zero n h = n
at_place P [] (suc i) n h = n
at_place P (p ∷ ps) zero n h = h p (inl refl)
at_place P (p ∷ ps) (suc i) n h = at_place P ps i n (λ q m. h q (inr m))

byte_formed : (t : List ℕ) (i : ℕ) → AllByRecursion IsTextByte t → PartIsWellFormed (option_map (λ b. text (b ∷ [])) (slice_get t i))
byte_formed [] zero h = tt
byte_formed [] (suc i) h = tt
byte_formed (b ∷ t) zero h = (h.0, tt)
byte_formed (b ∷ t) (suc i) h = byte_formed t i h.1

only_among : (ys : List Datum) (y : Datum) → only ys ≡ Some y → Among y ys
only_among [] y h = absurd (cc)
only_among (z ∷ []) y h = inl (sym (some_same z y h))
only_among (z ∷ w ∷ ys) y h = absurd (cc)

-- the image of a point, where it has one
pub one_image : (P : Option Datum → Type 0) (x : Datum) (f : List Datum) → P None → ((y : Datum) → Among (pair x y) f → P (Some y)) → P (image x f)
one_image P x f n h = go (image x f) refl
  where
    go : (o : Option Datum) → image x f ≡ o → P o
    go None e = n
    go (Some y) e = h y (images_to_pairs x f y (only_among (images x f) y e))

get_formed : (d x : Datum) (v : Option Datum) (n : ℕ) → IsWellFormed d → get d x ≡ Gives v n → PartIsWellFormed v
get_formed (set ms) x v n h g =
    let e = gives_same (image x (element_list ms)) v 0 n (map_gives (λ f. Gives (image x f) 0) (element_list ms) v n g) in
    subst PartIsWellFormed e (one_image PartIsWellFormed x (element_list ms) tt (λ y m. (element_formed ms h.0 (pair x y) m).0.1.0))
get_formed (tuple ps) (int i) v n h g = go (int_le (pos 1) i) g
  where
    go : (b : Bool) → component (if b then Ok (option_flatten (slice_get (part_list ps) (index_of i))) else Err Range) ≡ Gives v n → PartIsWellFormed v
    go true e = subst PartIsWellFormed (gives_same (option_flatten (slice_get (part_list ps) (index_of i))) v 0 n e) (at_place PartIsWellFormed (part_list ps) (index_of i) tt (component_formed ps h.0))
    go false e = absurd (cc)
get_formed (text t) (int i) v n h g = go (int_le (pos 1) i) g
  where
    go : (b : Bool) → (if b then Gives (option_map (λ c. text (c ∷ [])) (slice_get t (index_of i))) 0 else Fails RangeFault) ≡ Gives v n → PartIsWellFormed v
    go true e = subst PartIsWellFormed (gives_same (option_map (λ c. text (c ∷ [])) (slice_get t (index_of i))) v 0 n e) (byte_formed t (index_of i) h)
    go false e = absurd (cc)
get_formed d x v n h g = absurd (cc)

images_formed : (d x : Datum) (v : Option Datum) (n : ℕ) → IsWellFormed d → images_of d x ≡ Gives v n → PartIsWellFormed v
images_formed (set ms) x v n h g =
    let e = gives_same (Some (set_of (images x (element_list ms)))) v 0 n (map_gives (λ f. Gives (Some (set_of (images x f))) 0) (element_list ms) v n g) in
    let r = subst IsRising (sym (element_list-elements_of (images x (element_list ms)))) (rising_images x (element_list ms) h.1) in
    subst PartIsWellFormed e (all_formed (images x (element_list ms)) (λ y m. (element_formed ms h.0 (pair x y) (images_to_pairs x (element_list ms) y m)).0.1.0), r)
images_formed d x v n h g = absurd (cc)

-- ---- parts that fit

get_fits : (m n : Mode) (d x : Datum) (v : Option Datum) (c : ℕ) → value_mode m (Some x) ≡ Some n → datum_fits m d ≡ true → get d x ≡ Gives v c → fits n v ≡ true
get_fits General n d x v c e h g = ap (λ k. fits k v) (sym (some_same General n e)) ∙ any_fits v
get_fits (ElementsOf base m) n d x v c e h g = get_fits m n d x v c e h g
get_fits (Tuples m) n (tuple ps) (int i) v c e h g = go (int_le (pos 1) i) g
  where
    same : m ≡ n
    same = some_same m n e

    go : (b : Bool) → component (if b then Ok (option_flatten (slice_get (part_list ps) (index_of i))) else Err Range) ≡ Gives v c → fits n v ≡ true
    go true f =
        subst (λ w. fits n w ≡ true) (gives_same (option_flatten (slice_get (part_list ps) (index_of i))) v 0 c f)
        (subst (λ k. fits k (option_flatten (slice_get (part_list ps) (index_of i))) ≡ true) same
        (at_place (λ q. fits m q ≡ true) (part_list ps) (index_of i) refl (all_of (part_fits (datum_fits m)) (part_list ps) h)))
    go false f = absurd (cc)
get_fits (Tuples m) n (tuple ps) x v c e h g = absurd (cc)
get_fits (Tuples m) n d x v c e h g = absurd (false≢true h)
get_fits (SingleMaps form k r) n (set ms) x v c e h g =
    let f = element_list ms in
    let same = some_same r n (let_through (fits k (Some x)) (Some r) n e).1 in
    let test : Datum → Bool = λ p. single_fits (datum_fits k) (datum_fits r) f (pair_parts p) in
    subst (λ w. fits n w ≡ true) (gives_same (image x f) v 0 c (map_gives (λ l. Gives (image x l) 0) f v c g))
    (one_image (λ o. fits n o ≡ true) x f refl (λ y m. ap (λ j. datum_fits j y) (sym same) ∙ single_second (datum_fits k) (datum_fits r) f x y (all_of test f h (pair x y) m)))
get_fits (SingleMaps form k r) n d x v c e h g = absurd (false≢true h)
get_fits (MultiMaps form k s) n (set ms) x v c e h g =
    let f = element_list ms in
    let is = (let_through (fits k (Some x)) (member_mode s) n e).1 in
    let test : Datum → Bool = λ p. multi_fits (datum_fits k) (datum_fits s) f (pair_parts p) in
    subst (λ w. fits n w ≡ true) (gives_same (image x f) v 0 c (map_gives (λ l. Gives (image x l) 0) f v c g))
    (one_image (λ o. fits n o ≡ true) x f refl
    (λ y m. members_fit s n (images x f) is (sym (of_set s (images x f)) ∙ (and_parts (datum_fits k x) (datum_fits s (set_of (images x f))) (all_of test f h (pair x y) m)).1) y (pairs_to_images x f y m)))
get_fits (MultiMaps form k s) n d x v c e h g = absurd (false≢true h)
get_fits Integers n d x v c e h g = absurd (cc)
get_fits Strings n d x v c e h g = absurd (cc)
get_fits Booleans n d x v c e h g = absurd (cc)
get_fits Atoms n d x v c e h g = absurd (cc)
get_fits (Sets form m) n d x v c e h g = absurd (cc)

pub values_fit : ValuesFit
values_fit m n None None v left c e h g = absurd (cc)
values_fit m n None (Some d) v left c e h g = absurd (cc)
values_fit m n (Some x) None v left c e h g = absurd (cc)
values_fit m n (Some x) (Some d) v left c e h g = (get_formed d x v c h.0 g, get_fits m n d x v c e h.1 g)

images_given : (s : Mode) (x : Datum) (f : List Datum) → takes_sets s ≡ true → ((y : Datum) → Among (pair x y) f → datum_fits s (set_of (images x f)) ≡ true) → (l : List Datum) → images x f ≡ l → datum_fits s (set_of (images x f)) ≡ true
images_given s x f t h [] e = of_set s (images x f) ∙ ap (list_fits s) e ∙ empty_fits s t
images_given s x f t h (y ∷ l) e = h y (images_to_pairs x f y (subst (Among y) (sym e) (inl refl)))

images_fit_by : (m n : Mode) (d x : Datum) (v : Option Datum) (c : ℕ) → images_mode m (Some x) ≡ Some n → datum_fits m d ≡ true → images_of d x ≡ Gives v c → fits n v ≡ true
images_fit_by General n d x v c e h g = ap (λ k. fits k v) (sym (some_same General n e)) ∙ any_fits v
images_fit_by (ElementsOf base m) n d x v c e h g = images_fit_by m n d x v c e h g
images_fit_by (MultiMaps form k s) n (set ms) x v c e h g =
    let f = element_list ms in
    let a = let_through (takes_sets s) (cond (fits k (Some x)) (Some s) None) n e in
    let same = some_same s n (let_through (fits k (Some x)) (Some s) n a.1).1 in
    let test : Datum → Bool = λ p. multi_fits (datum_fits k) (datum_fits s) f (pair_parts p) in
    subst (λ w. fits n w ≡ true) (gives_same (Some (set_of (images x f))) v 0 c (map_gives (λ l. Gives (Some (set_of (images x l))) 0) f v c g))
    (ap (λ j. datum_fits j (set_of (images x f))) (sym same)
    ∙ images_given s x f a.0 (λ y m. (and_parts (datum_fits k x) (datum_fits s (set_of (images x f))) (all_of test f h (pair x y) m)).1) (images x f) refl)
images_fit_by (MultiMaps form k s) n d x v c e h g = absurd (false≢true h)
images_fit_by Integers n d x v c e h g = absurd (cc)
images_fit_by Strings n d x v c e h g = absurd (cc)
images_fit_by Booleans n d x v c e h g = absurd (cc)
images_fit_by Atoms n d x v c e h g = absurd (cc)
images_fit_by (Sets form m) n d x v c e h g = absurd (cc)
images_fit_by (Tuples m) n d x v c e h g = absurd (cc)
images_fit_by (SingleMaps form k r) n d x v c e h g = absurd (cc)

pub images_fit : ImagesFit
images_fit m n None None v left c e h g = absurd (cc)
images_fit m n None (Some d) v left c e h g = absurd (cc)
images_fit m n (Some x) None v left c e h g = absurd (cc)
images_fit m n (Some x) (Some d) v left c e h g = (images_formed d x v c h.0 g, images_fit_by m n d x v c e h.1 g)
