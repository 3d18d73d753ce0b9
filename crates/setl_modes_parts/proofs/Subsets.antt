-- A part of a set that fits a mode fits it too.
use Rattle.std.specs.Prelude.{◌≡◌, Bool, true, false, ◌&&◌, ◌==◌, List, [], length, Option, Some, None, refl}
use Rattle.std.specs.List.{list_all}
use Rattle.std.proofs.Common.{ap, sym, ◌∙◌}
use Rattle.std.proofs.lemmas.Bool.{false≢true, and_parts, and_from}
use Rattle.setl_value.specs.Datum.{Datum, tuple, part_then, no_part, set, set_of, Elements, elements_of, element_list, element_list-elements_of}
use Rattle.setl_value.specs.Order.{IsRising}
use Rattle.setl_value.specs.Pairs.{pair, pair_parts, images}
use Rattle.setl_modes.specs.Modes.{Mode, General, Integers, Strings, Booleans, Atoms, Elements as ElementsOf, Sets, Tuples, SingleMaps, MultiMaps}
use Rattle.setl_modes.specs.Fits.{single_fits, multi_fits, datum_fits, fits}
use Rattle.setl_modes_parts.specs.Parts.{member_mode, takes_sets}
use Rattle.setl_modes_parts.proofs.Lists.{Among, Within, all_of, all_from, one_left}
use Rattle.setl_modes_parts.proofs.Images.{images_to_pairs, pairs_to_images, rising_images}

pub some_same : {X : Type 0} (x y : X) → Some x ≡ Some y → x ≡ y
some_same x y h = cc

-- ---- the test of a set by the list of its members

abbrev pub list_fits : Mode → List Datum → Bool
list_fits General ds = true
list_fits (ElementsOf base m) ds = list_fits m ds
list_fits (Sets form m) ds = list_all (datum_fits m) ds
list_fits (SingleMaps form d r) ds = list_all (λ p. single_fits (datum_fits d) (datum_fits r) ds (pair_parts p)) ds
list_fits (MultiMaps form d s) ds = list_all (λ p. multi_fits (datum_fits d) (datum_fits s) ds (pair_parts p)) ds
list_fits m ds = false

pub of_list : (m : Mode) (ms : Elements) → datum_fits m (set ms) ≡ list_fits m (element_list ms)
of_list General ms = refl
of_list (ElementsOf base m) ms = of_list m ms
of_list (Sets form m) ms = refl
of_list (SingleMaps form d r) ms = refl
of_list (MultiMaps form d s) ms = refl
of_list Integers ms = refl
of_list Strings ms = refl
of_list Booleans ms = refl
of_list Atoms ms = refl
of_list (Tuples m) ms = refl

pub of_set : (m : Mode) (ds : List Datum) → datum_fits m (set_of ds) ≡ list_fits m ds
of_set m ds = of_list m (elements_of ds) ∙ ap (list_fits m) (element_list-elements_of ds)

pub any_fits : (v : Option Datum) → fits General v ≡ true
any_fits None = refl
any_fits (Some d) = refl

-- ---- what a pair of a map that fits says

pub single_first : (domain range : Datum → Bool) (f : List Datum) (x y : Datum) → single_fits domain range f (pair_parts (pair x y)) ≡ true → domain x ≡ true
single_first domain range f x y h =
    (and_parts (domain x) (length (images x f) == 1) (and_parts (domain x && length (images x f) == 1) (range y) h).0).0

pub single_once : (domain range : Datum → Bool) (f : List Datum) (x y : Datum) → single_fits domain range f (pair_parts (pair x y)) ≡ true → (length (images x f) == 1) ≡ true
single_once domain range f x y h =
    (and_parts (domain x) (length (images x f) == 1) (and_parts (domain x && length (images x f) == 1) (range y) h).0).1

pub single_second : (domain range : Datum → Bool) (f : List Datum) (x y : Datum) → single_fits domain range f (pair_parts (pair x y)) ≡ true → range y ≡ true
single_second domain range f x y h = (and_parts (domain x && length (images x f) == 1) (range y) h).1

pub single_from : (domain range : Datum → Bool) (f : List Datum) (x y : Datum) → domain x ≡ true → (length (images x f) == 1) ≡ true → range y ≡ true → single_fits domain range f (pair_parts (pair x y)) ≡ true
single_from domain range f x y p q r = and_from (domain x && length (images x f) == 1) (range y) (and_from (domain x) (length (images x f) == 1) p q) r

-- ---- parts of sets

single_within : (domain range : Datum → Bool) (ds es : List Datum) → IsRising es → Within es ds → (e : Datum) → Among e es
    → single_fits domain range ds (pair_parts e) ≡ true → single_fits domain range es (pair_parts e) ≡ true
single_within domain range ds es r w (tuple (part_then x (part_then y no_part))) m h =
    single_from domain range es x y (single_first domain range ds x y h)
    (one_left (images x es) (images x ds) y (rising_images x es r) (pairs_to_images x es y m)
    (λ z n. pairs_to_images x ds z (w (pair x z) (images_to_pairs x es z n))) (single_once domain range ds x y h))
    (single_second domain range ds x y h)
single_within domain range ds es r w e m h = absurd (false≢true h)

abbrev pub Shrinks : Mode → Type 0
Shrinks m = (ds es : List Datum) → IsRising es → Within es ds → list_fits m ds ≡ true → list_fits m es ≡ true

multi_within : (domain : Datum → Bool) (s : Mode) → Shrinks s → (ds es : List Datum) → IsRising es → Within es ds → (e : Datum) → Among e es
    → multi_fits domain (datum_fits s) ds (pair_parts e) ≡ true → multi_fits domain (datum_fits s) es (pair_parts e) ≡ true
multi_within domain s shrinks ds es r w (tuple (part_then x (part_then y no_part))) m h =
    let p = and_parts (domain x) (datum_fits s (set_of (images x ds))) h in
    and_from (domain x) (datum_fits s (set_of (images x es))) p.0
    (of_set s (images x es)
    ∙ shrinks (images x ds) (images x es) (rising_images x es r) (λ z n. pairs_to_images x ds z (w (pair x z) (images_to_pairs x es z n))) (sym (of_set s (images x ds)) ∙ p.1))
multi_within domain s shrinks ds es r w e m h = absurd (false≢true h)

pub shrinks : (m : Mode) → Shrinks m
shrinks General ds es r w h = refl
shrinks (ElementsOf base m) ds es r w h = shrinks m ds es r w h
shrinks (Sets form m) ds es r w h = all_from (datum_fits m) es (λ e n. all_of (datum_fits m) ds h e (w e n))
shrinks (SingleMaps form d t) ds es r w h =
    all_from (λ p. single_fits (datum_fits d) (datum_fits t) es (pair_parts p)) es
    (λ e n. single_within (datum_fits d) (datum_fits t) ds es r w e n (all_of (λ p. single_fits (datum_fits d) (datum_fits t) ds (pair_parts p)) ds h e (w e n)))
shrinks (MultiMaps form d s) ds es r w h =
    all_from (λ p. multi_fits (datum_fits d) (datum_fits s) es (pair_parts p)) es
    (λ e n. multi_within (datum_fits d) s (shrinks s) ds es r w e n (all_of (λ p. multi_fits (datum_fits d) (datum_fits s) ds (pair_parts p)) ds h e (w e n)))
shrinks Integers ds es r w h = absurd (false≢true h)
shrinks Strings ds es r w h = absurd (false≢true h)
shrinks Booleans ds es r w h = absurd (false≢true h)
shrinks Atoms ds es r w h = absurd (false≢true h)
shrinks (Tuples m) ds es r w h = absurd (false≢true h)

-- a part of a set, by the sets
pub part_of_set : (m : Mode) (ds es : List Datum) → IsRising es → Within es ds → datum_fits m (set_of ds) ≡ true → datum_fits m (set_of es) ≡ true
part_of_set m ds es r w h = of_set m es ∙ shrinks m ds es r w (sym (of_set m ds) ∙ h)

-- ---- sets whose members are tested one by one

pub members_fit : (m n : Mode) (ds : List Datum) → member_mode m ≡ Some n → list_fits m ds ≡ true → (d : Datum) → Among d ds → datum_fits n d ≡ true
members_fit General n ds e h d m = let same = some_same General n e in ap (λ k. datum_fits k d) (sym same)
members_fit (ElementsOf base k) n ds e h d m = members_fit k n ds e h d m
members_fit (Sets form k) n ds e h d m = let same = some_same k n e in ap (λ j. datum_fits j d) (sym same) ∙ all_of (datum_fits k) ds h d m
members_fit Integers n ds e h d m = absurd (false≢true h)
members_fit Strings n ds e h d m = absurd (false≢true h)
members_fit Booleans n ds e h d m = absurd (false≢true h)
members_fit Atoms n ds e h d m = absurd (false≢true h)
members_fit (Tuples k) n ds e h d m = absurd (false≢true h)
members_fit (SingleMaps form j k) n ds e h d m = absurd (cc)
members_fit (MultiMaps form j k) n ds e h d m = absurd (cc)

pub fit_by_members : (m n : Mode) (ds : List Datum) → member_mode m ≡ Some n → ((d : Datum) → Among d ds → datum_fits n d ≡ true) → list_fits m ds ≡ true
fit_by_members General n ds e h = refl
fit_by_members (ElementsOf base k) n ds e h = fit_by_members k n ds e h
fit_by_members (Sets form k) n ds e h = let same = some_same k n e in all_from (datum_fits k) ds (λ d m. ap (λ j. datum_fits j d) same ∙ h d m)
fit_by_members Integers n ds e h = absurd (cc)
fit_by_members Strings n ds e h = absurd (cc)
fit_by_members Booleans n ds e h = absurd (cc)
fit_by_members Atoms n ds e h = absurd (cc)
fit_by_members (Tuples k) n ds e h = absurd (cc)
fit_by_members (SingleMaps form j k) n ds e h = absurd (cc)
fit_by_members (MultiMaps form j k) n ds e h = absurd (cc)

pub empty_fits : (m : Mode) → takes_sets m ≡ true → list_fits m [] ≡ true
empty_fits General h = refl
empty_fits (ElementsOf base m) h = empty_fits m h
empty_fits (Sets form m) h = refl
empty_fits (SingleMaps form d r) h = refl
empty_fits (MultiMaps form d s) h = refl
empty_fits Integers h = h
empty_fits Strings h = h
empty_fits Booleans h = h
empty_fits Atoms h = h
empty_fits (Tuples m) h = h
