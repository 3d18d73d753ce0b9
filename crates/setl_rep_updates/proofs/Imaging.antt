-- An image comes to a point of a map.
use Rattle.std.proofs.Common.{◌≡◌, ◌∙◌, ℕ, ◌≤◌, ◌<◌, ◌==◌, Bool, true, false, not, ◌&&◌, ◌||◌, ◌⊎◌, inl, inr, cond, List, [], ◌∷◌, ◌++◌, length, Option, None, Some, IsSome, Ok, refl, sym, ap, subst, arith, eq-eqb}
use Rattle.std.specs.Bool.{nat_lt, if◌then◌else◌}
use Rattle.std.specs.List.{filter, filter_map, flat_map, list_all}
use Rattle.std.specs.Option.{is_some}
use Rattle.std.specs.declared.cmp.Ordering.{Ordering}
use Rattle.std.specs.declared.cmp.Ordering.TheVariants.{Less, Equal, Greater}
use Rattle.std.specs.Ordering.{is_eq}
use Rattle.std.proofs.lemmas.Bool.{false≢true, or_left, or_right, and_parts, and_from, or_cases, ltb-true}
use Rattle.setl_value.specs.Datum.{Datum, depth, elements_depth, set_of, elements_of, element_list-elements_of}
use Rattle.setl_value.specs.WellFormed.{ElementsAreWellFormed, IsValue}
use Rattle.setl_value.specs.Order.{datum_cmp}
use Rattle.setl_value.specs.OrderLaws.{same_datum}
use Rattle.setl_value.specs.Pairs.{pair, pair_parts, first_of, second_of, is_datum, is_map, images}
use Rattle.setl_set.specs.Sets.{has_datum, insert_datum, insert_by}
use Rattle.setl_set.specs.Laws.{Gathers}
use Rattle.setl_map.specs.Maps.{without_point, put_image}
use Rattle.setl_map.specs.DepthLaws.{depth_insert}
use Rattle.setl_modes.specs.declared.mode.Form.{Form as Attribute}
use Rattle.setl_modes.specs.Modes.{Mode, General, Integers, Strings, Booleans, Atoms, Elements, Sets, Tuples, SingleMaps, MultiMaps}
use Rattle.setl_modes.specs.Fits.{datum_fits, single_fits}
use Rattle.setl_modes_places.specs.Places.{elements_at, at_pair}
use Rattle.setl_modes_parts.specs.Laws.{PutsFit}
use Rattle.setl_operators_table.specs.declared.Operator.TheVariants.{Put}
use Rattle.setl_operators_table.specs.Outcome.{Gives, Fails, KindFault, within_depth}
use Rattle.setl_operators_table.specs.OutcomeLaws.{shallow}
use Rattle.setl_operators_table.specs.Collections.{on_map}
use Rattle.setl_operators_table.specs.Operators.{op_of}
use Rattle.setl_base.specs.Base.{find}
use Rattle.setl_rep_bases.specs.declared.BaseId.{BaseId}
use Rattle.setl_rep_bases.specs.Bases.{BasesState, base_at, named}
use Rattle.setl_rep_forms.specs.Form.{Form, Layout, Entries, om, plain, element, numbers, table, handles}
use Rattle.setl_rep_forms.specs.Stands.{stands, pairs_in, IsOver, IsContent}
use Rattle.setl_rep_forms.specs.Laws.{FormsStay}
use Rattle.setl_rep_tables.specs.Tables.{table_pairs}
use Rattle.setl_rep_building.specs.HasForm.{layout_of, placed, place_of, HaveForms, IsMapForm, HasForm, HasFormOrOm}
use Rattle.setl_rep_maps.specs.Contents.{table_of, MayHave}
use Rattle.setl_rep_maps.specs.Laws.{PutsAreImages, SinglePutsAreImages}
use Rattle.setl_rep_entering.specs.Entering.{AreLengthened, BasesAreThere}
use Rattle.setl_rep_entering.specs.Laws.{NamesStay, PlacesAreFound, PlacesAreMembers, PartsLengthenAlike, BlocksAreKept, MembersLengthenNothing}
use Rattle.setl_rep_updates.specs.InForm.{ArePlacesFound, IsInForm, FormsOfModesStay}
use Rattle.setl_rep_updates.specs.Updates.{is_part, puts, IsUpdate}
use Rattle.setl_rep_updates.specs.code.Imaged.{IsImagePut}
use Rattle.setl_rep_updates.proofs.Including.{itself, formed_inserted, value_of_set}
use Rattle.setl_rep_updates.proofs.Contents.{form_put}

-- ---- members of lists

has_append : (z : Datum) (xs ys : List Datum) → has_datum z (xs ++ ys) ≡ (has_datum z xs || has_datum z ys)
has_append z [] ys = refl
has_append z (d ∷ xs) ys = ap (λ t. is_eq (datum_cmp z d) || t) (has_append z xs ys) ∙ by (is_eq (datum_cmp z d)) (has_datum z xs) (has_datum z ys)
  where
    by : (a b c : Bool) → (a || (b || c)) ≡ ((a || b) || c)
    by true b c = refl
    by false b c = refl

pub of_both : (z : Datum) (xs ys : List Datum) → has_datum z (xs ++ ys) ≡ true → (has_datum z xs ≡ true) ⊎ (has_datum z ys ≡ true)
of_both z xs ys h = or_cases (has_datum z xs) (has_datum z ys) (sym (has_append z xs ys) ∙ h)

pub in_first : (z : Datum) (xs ys : List Datum) → has_datum z xs ≡ true → has_datum z (xs ++ ys) ≡ true
in_first z xs ys h = has_append z xs ys ∙ or_left (has_datum z xs) (has_datum z ys) h

pub in_second : (z : Datum) (xs ys : List Datum) → has_datum z ys ≡ true → has_datum z (xs ++ ys) ≡ true
in_second z xs ys h = has_append z xs ys ∙ or_right (has_datum z xs) (has_datum z ys) h

-- what each member of a list gives, with one member more, and of some members
pub of_inserted : (z : Datum) (g : Datum → List Datum) (p : Datum) (ds : List Datum) → has_datum z (flat_map g (insert_datum p ds)) ≡ true → (has_datum z (g p) ≡ true) ⊎ (has_datum z (flat_map g ds) ≡ true)
of_inserted z g p [] h = of_both z (g p) [] h
of_inserted z g p (e ∷ es) h = by (datum_cmp p e) h (of_inserted z g p es)
  where
    by : (o : Ordering) → has_datum z (flat_map g (insert_by o p e es (insert_datum p es))) ≡ true → (has_datum z (flat_map g (insert_datum p es)) ≡ true → (has_datum z (g p) ≡ true) ⊎ (has_datum z (flat_map g es) ≡ true))
        → (has_datum z (g p) ≡ true) ⊎ (has_datum z (flat_map g (e ∷ es)) ≡ true)
    by Less h r = of_both z (g p) (flat_map g (e ∷ es)) h
    by Equal h r = inr h
    by Greater h r = elim (of_both z (g e) (flat_map g (insert_datum p es)) h) [
      | inl q ↦ inr (in_first z (g e) (flat_map g es) q)
      | inr q ↦ elim (r q) [ inl s ↦ inl s | inr s ↦ inr (in_second z (g e) (flat_map g es) s) ]
    ]

pub in_inserted : (z : Datum) (g : Datum → List Datum) (p : Datum) (ds : List Datum) → has_datum z (g p) ≡ true → has_datum z (flat_map g (insert_datum p ds)) ≡ true
in_inserted z g p [] h = in_first z (g p) [] h
in_inserted z g p (e ∷ es) h = by (datum_cmp p e) refl (in_inserted z g p es h)
  where
    by : (o : Ordering) → datum_cmp p e ≡ o → has_datum z (flat_map g (insert_datum p es)) ≡ true → has_datum z (flat_map g (insert_by o p e es (insert_datum p es))) ≡ true
    by Less q r = in_first z (g p) (flat_map g (e ∷ es)) h
    by Equal q r = in_first z (g e) (flat_map g es) (ap (λ d. has_datum z (g d)) (sym (same_datum p e q)) ∙ h)
    by Greater q r = in_second z (g e) (flat_map g (insert_datum p es)) r

pub of_kept : (z : Datum) (g : Datum → List Datum) (keep : Datum → Bool) (ds : List Datum) → has_datum z (flat_map g (filter keep ds)) ≡ true → has_datum z (flat_map g ds) ≡ true
of_kept z g keep [] h = h
of_kept z g keep (d ∷ ds) h = by (keep d) h (of_kept z g keep ds)
  where
    by : (t : Bool) → has_datum z (flat_map g (if t then d ∷ filter keep ds else filter keep ds)) ≡ true → (has_datum z (flat_map g (filter keep ds)) ≡ true → has_datum z (flat_map g ds) ≡ true) → has_datum z (flat_map g (d ∷ ds)) ≡ true
    by true h r = elim (of_both z (g d) (flat_map g (filter keep ds)) h) [
      | inl q ↦ in_first z (g d) (flat_map g ds) q
      | inr q ↦ in_second z (g d) (flat_map g ds) (r q)
    ]
    by false h r = in_second z (g d) (flat_map g ds) (r h)

-- ---- values

pub depth_kept : (keep : Datum → Bool) (ds : List Datum) → elements_depth (elements_of (filter keep ds)) ≤ elements_depth (elements_of ds)
depth_kept keep [] = omega (arith)
depth_kept keep (d ∷ ds) = by (keep d) (depth_kept keep ds)
  where
    by : (t : Bool) → elements_depth (elements_of (filter keep ds)) ≤ elements_depth (elements_of ds) → elements_depth (elements_of (if t then d ∷ filter keep ds else filter keep ds)) ≤ elements_depth (elements_of (d ∷ ds))
    by true h = omega (arith, h)
    by false h = omega (arith, h)

pub formed_kept : (keep : Datum → Bool) (ds : List Datum) → ElementsAreWellFormed (elements_of ds) → ElementsAreWellFormed (elements_of (filter keep ds))
formed_kept keep [] w = w
formed_kept keep (d ∷ ds) w = by (keep d) (formed_kept keep ds w.1)
  where
    by : (t : Bool) → ElementsAreWellFormed (elements_of (filter keep ds)) → ElementsAreWellFormed (elements_of (if t then d ∷ filter keep ds else filter keep ds))
    by true r = (w.0, r)
    by false r = r

abbrev pub other : Datum → Datum → Bool
other x d = not (is_datum x (first_of (pair_parts d)))

depth_put : (x y : Datum) (f : List Datum) → depth x < 499 → depth y < 499 → depth (set_of f) ≤ 500 → depth (set_of (insert_datum (pair x y) (without_point x f))) ≤ 500
depth_put x y f hx hy h = omega (arith, depth_insert (pair x y) (without_point x f), depth_kept (other x) f, hx, hy, h)

-- ---- the tests

pub part_tests : (m : Mode) (d : Datum) → is_part m d ≡ true → (depth d < 499) × (datum_fits m d ≡ true)
part_tests m d h = let q = and_parts (nat_lt (depth d) 499) (datum_fits m d) h in (ltb-true (depth d) 499 q.0, q.1)

pub put_tests : (m : Mode) (a : Attribute) (d r : Mode) (f : Form) (x y : Datum) → m ≡ SingleMaps a d r → puts m f x y ≡ true → (is_part d x ≡ true) × (is_part r y ≡ true)
put_tests m a d r f x y e h = and_parts (is_part d x) (is_part r y) (and_parts (is_some (table_of f)) (is_part d x && is_part r y) (sym (ap (λ z. puts z f x y) e) ∙ h)).1

one_image : (x y : Datum) → length (images x (pair x y ∷ [])) ≡ 1
one_image x y = ap (λ t. length (filter_map (λ d. second_of (pair_parts d)) (if t then pair x y ∷ [] else []))) (itself x)

pub pair_fits : (m : Mode) (a : Attribute) (d r : Mode) (x y : Datum) → m ≡ SingleMaps a d r → datum_fits d x ≡ true → datum_fits r y ≡ true → datum_fits m (set_of (pair x y ∷ [])) ≡ true
pair_fits m a d r x y e fx fy = ap (λ z. datum_fits z (set_of (pair x y ∷ []))) e ∙ (λ i. (fx i && one_image x y i == 1 && fy i) && true)

-- a set is a map where a test of pairs holds of each member
pub all_pairs : (g : Option (Datum × Datum) → Bool) → g None ≡ false → (ds : List Datum) → list_all (λ d. g (pair_parts d)) ds ≡ true → is_map ds ≡ true
all_pairs g none [] h = refl
all_pairs g none (d ∷ ds) h = let t = and_parts (g (pair_parts d)) (list_all (λ e. g (pair_parts e)) ds) h in and_from (is_some (pair_parts d)) (is_map ds) (by (pair_parts d) t.0) (all_pairs g none ds t.1)
  where
    by : (o : Option (Datum × Datum)) → g o ≡ true → is_some o ≡ true
    by None e = absurd (false≢true (sym none ∙ e))
    by (Some o) e = refl

-- ---- the form of a map

is_single : (name : ℕ → BaseId) (o : Option (Layout × ℕ)) (P : Form → Type 0) (k : Layout) (b : BaseId) (many : Bool) (es : Entries) → IsMapForm name o false P (table k b many es) → many ≡ false
is_single name None P k b many es h = absurd h
is_single name (Some p) P k b many es h = h.2

pub other_table : (name : ℕ → BaseId) (o : Option (Layout × ℕ)) (sets : Bool) (P : Form → Type 0) (k l : Layout) (b e : BaseId) (many some : Bool) (es fs : Entries) → l ≡ k → e ≡ b → some ≡ many → (HaveForms P es → HaveForms P fs)
    → IsMapForm name o sets P (table k b many es) → IsMapForm name o sets P (table l e some fs)
other_table name None sets P k l b e many some es fs lk eb sm go h = absurd h
other_table name (Some p) sets P k l b e many some es fs lk eb sm go h = (lk ∙ h.0, eb ∙ h.1, sm ∙ h.2, go h.3)

-- the points of a table are elements of its base
abbrev pub HasPointsOn : (name : ℕ → BaseId) → Mode → BaseId → Type 0
HasPointsOn name d b = (c : ℕ) × (m : Mode) × (d ≡ Elements c m) × (b ≡ name c)

pub points_on : (name : ℕ → BaseId) (o : Option Layout) (d : Mode) (sets : Bool) (P : Form → Type 0) (k : Layout) (b : BaseId) (many : Bool) (es : Entries) → IsMapForm name (placed o d) sets P (table k b many es) → HasPointsOn name d b
points_on name None d sets P k b many es h = absurd h
points_on name (Some l) (Elements c m) sets P k b many es h = (c, m, refl, h.1)
points_on name (Some l) General sets P k b many es h = absurd h
points_on name (Some l) Integers sets P k b many es h = absurd h
points_on name (Some l) Strings sets P k b many es h = absurd h
points_on name (Some l) Booleans sets P k b many es h = absurd h
points_on name (Some l) Atoms sets P k b many es h = absurd h
points_on name (Some l) (Sets a m) sets P k b many es h = absurd h
points_on name (Some l) (Tuples m) sets P k b many es h = absurd h
points_on name (Some l) (SingleMaps a m r) sets P k b many es h = absurd h
points_on name (Some l) (MultiMaps a m s) sets P k b many es h = absurd h

pub base_of_points : (name : ℕ → BaseId) (m : Mode) (a : Attribute) (d r : Mode) (f : Form) (b : BaseId) (many : Bool) → m ≡ SingleMaps a d r → table_of f ≡ Some (b, many) → HasFormOrOm name m f → HasPointsOn name d b
base_of_points name m a d r f b many e t h = by f t (subst (λ z. HasFormOrOm name z f) e h)
  where
    by : (f : Form) → table_of f ≡ Some (b, many) → HasFormOrOm name (SingleMaps a d r) f → HasPointsOn name d b
    by (table k c s es) t h =
        let same : ◌≡◌ {A = BaseId × Bool} (c, s) (b, many) = cc in
        let q = points_on name (layout_of a) d false (HasForm name r) k c s es h in
        (q.0, q.1, q.2, sym (ap (λ o. o.0) same) ∙ q.3)
    by om t h = let no : ⊥ = cc in absurd no
    by (plain v) t h = let no : ⊥ = cc in absurd no
    by (element c v) t h = let no : ⊥ = cc in absurd no
    by (numbers k c ns) t h = let no : ⊥ = cc in absurd no
    by (handles c es) t h = let no : ⊥ = cc in absurd no

-- ---- the places of a pair

-- those of the parts of a pair
abbrev pub at : (d r : Mode) → ℕ → Datum → List Datum
at d r i p = at_pair (elements_at i d) (elements_at i r) (pair_parts p)

module _ (a : Attribute) (d r : Mode) (x y : Datum) where
  at_point : (i : ℕ) (z : Datum) → has_datum z (elements_at i d x) ≡ true → has_datum z (elements_at i (SingleMaps a d r) (set_of (pair x y ∷ []))) ≡ true
  at_point i z h = in_first z (at d r i (pair x y)) [] (in_first z (elements_at i d x) (elements_at i r y) h)

  at_image : (i : ℕ) (z : Datum) → has_datum z (elements_at i r y) ≡ true → has_datum z (elements_at i (SingleMaps a d r) (set_of (pair x y ∷ []))) ≡ true
  at_image i z h = in_first z (at d r i (pair x y)) [] (in_second z (elements_at i d x) (elements_at i r y) h)

abbrev pair_set : Datum → Datum → Datum
pair_set x y = set_of (pair x y ∷ [])

pub point_is_found : NamesStay → PlacesAreMembers → (m : Mode) (a : Attribute) (d r : Mode) (x y : Datum) (n : ℕ) (bs cs : BasesState) (b : BaseId) → m ≡ SingleMaps a d r → HasPointsOn (named bs n) d b → BasesAreThere bs n m → AreLengthened m (pair_set x y) n bs cs
    → IsSome (find (base_at cs b) x)
point_is_found names members m a d r x y n bs cs b e on there l =
    subst (λ i. IsSome (find (base_at cs i) x)) (names m (pair_set x y) n bs cs l n on.0 ∙ sym on.3)
    ((members m (pair_set x y) n bs cs there l).1 on.0 x (ap (λ z. has_datum x (elements_at on.0 z (pair_set x y))) e ∙ at_point a d r x y on.0 x (ap (λ z. has_datum x (elements_at on.0 z x)) on.2 ∙ own_place on.0)))
  where
    own_place : (c : ℕ) → has_datum x (elements_at c (Elements c on.1) x) ≡ true
    own_place c = ap (λ t. has_datum x (cond t (x ∷ []) [])) (eq-eqb c c refl) ∙ or_left _ _ (itself x)

pub image_is_found : PlacesAreMembers → (m : Mode) (a : Attribute) (d r : Mode) (x y : Datum) (n : ℕ) (bs cs : BasesState) → m ≡ SingleMaps a d r → BasesAreThere bs n m → AreLengthened m (pair_set x y) n bs cs
    → (b : ℕ) (z : Datum) → has_datum z (elements_at b r y) ≡ true → IsSome (find (base_at cs (named cs n b)) z)
image_is_found members m a d r x y n bs cs e there l b z h = (members m (pair_set x y) n bs cs there l).1 b z (ap (λ k. has_datum z (elements_at b k (pair_set x y))) e ∙ at_image a d r x y b z h)

-- ---- a pair whose values at places are members

pub pair_is_entered : MembersLengthenNothing → (m : Mode) (a : Attribute) (d r : Mode) (n : ℕ) (bs : BasesState) (x y : Datum) → m ≡ SingleMaps a d r → PlacesAreFound bs n d x → PlacesAreFound bs n r y → AreLengthened m (pair_set x y) n bs bs
pair_is_entered already m a d r n bs x y e fx fy = already m (pair_set x y) n bs (λ b z h. elim (of_both z (at d r b (pair x y)) [] (sym (ap (λ k. has_datum z (elements_at b k (pair_set x y))) e) ∙ h)) [
  | inl q ↦ elim (of_both z (elements_at b d x) (elements_at b r y) q) [ inl s ↦ fx b z s | inr s ↦ fy b z s ]
  | inr q ↦ absurd (false≢true q)
])

-- ---- the update

module _ (gathers : Gathers) (puts_fit : PutsFit) (forms_stay : FormsStay) (put_images : PutsAreImages) (put_image_of : SinglePutsAreImages) (kept : BlocksAreKept) (members : PlacesAreMembers) (alike : PartsLengthenAlike) (stay : FormsOfModesStay)
    (a : Attribute) (d r : Mode) (n : ℕ) (x y : Datum) (vx : IsValue x) (vy : IsValue y) (px : is_part d x ≡ true) (py : is_part r y ≡ true) (bs cs : BasesState) where
  abbrev map_mode : Mode
  map_mode = SingleMaps a d r

  abbrev part : Datum
  part = pair_set x y

  -- the same with the tables before and after
  module _ (k l : Layout) (b e : BaseId) (many some : Bool) (es fs : Entries) (h : IsInForm bs n map_mode (table k b many es)) (long : AreLengthened map_mode part n bs cs)
      (p : IsImagePut cs n r x y (table k b many es) (table l e some fs)) where
    abbrev old : List Datum
    old = table_pairs cs (base_at cs b) many es

    abbrev new : List Datum
    new = table_pairs cs (base_at cs e) some fs

    then_in_form : IsInForm cs n map_mode (table k b many es)
    then_in_form = stay map_mode map_mode part n n bs cs (table k b many es) long h

    same_value : Some (set_of old) ≡ stands bs (table k b many es)
    same_value = (forms_stay bs cs (table k b many es) (kept map_mode part n bs cs long) h.over).1

    single : many ≡ false
    single = is_single (named cs n) (place_of a d) (HasForm (named cs n) r) k b many es then_in_form.form

    may : MayHave cs (table k b many es) (Some p.content)
    may = (p.over, subst (λ t. IsContent t (stands cs p.content)) (sym single) (subst (λ v. IsContent false v) (sym p.stands) tt))

    with_it : new ≡ insert_datum (pair x y) (without_point x old)
    with_it = put_image_of cs (table k b many es) (table l e some fs) b p.number (Some p.content) x (ap (λ t. Some (b, t)) single) then_in_form.over p.keyed p.keyed_then p.base p.point may p.put ∙ ap (λ v. put_image x v old) p.stands

    over_then : IsOver cs (table l e some fs)
    over_then = (put_images cs (table k b many es) (table l e some fs) p.number (Some p.content) x then_in_form.over p.keyed p.keyed_then p.base p.point may p.put).0

    old_value : IsValue (set_of old)
    old_value = then_in_form.value

    shallow_then : depth (set_of new) ≤ 500
    shallow_then = subst (λ ds. depth (set_of ds) ≤ 500) (sym with_it) (depth_put x y old (part_tests d x px).0 (part_tests r y py).0 old_value.1)

    formed_then : ElementsAreWellFormed (elements_of new)
    formed_then = subst (λ ds. ElementsAreWellFormed (elements_of ds)) (sym with_it) (formed_inserted (pair x y) (without_point x old) ((vx.0, (vy.0, tt)), tt) (formed_kept (other x) old old_value.0.0))

    is_a_map : is_map old ≡ true
    is_a_map = all_pairs (single_fits (datum_fits d) (datum_fits r) old) refl old (sym (ap (λ ms. list_all (λ q. single_fits (datum_fits d) (datum_fits r) ms (pair_parts q)) ms) (element_list-elements_of old)) ∙ then_in_form.fits)

    gives : (left : ℕ) → op_of Put (Some (set_of old) ∷ Some x ∷ Some y ∷ []) left ≡ Gives (Some (set_of new)) 0
    gives left =
        ap (on_map (λ f. within_depth (set_of (put_image x (Some y) f)))) (element_list-elements_of old)
        ∙ ap (λ t. if t then within_depth (set_of (put_image x (Some y) old)) else Fails KindFault) is_a_map
        ∙ ap (λ ds. within_depth (set_of ds)) (sym with_it)
        ∙ shallow (set_of new) shallow_then

    fits_then : datum_fits map_mode (set_of new) ≡ true
    fits_then = puts_fit map_mode r (Some x) (Some (set_of old)) (Some y) (Some (set_of new)) 0 0 (ap (λ t. cond t (Some r) None) (part_tests d x px).1) (old_value.0, then_in_form.fits) (part_tests r y py).1 (gives 0)

    has_at : (i : ℕ) (z : Datum) (ds : List Datum) → has_datum z (elements_at i map_mode (set_of ds)) ≡ has_datum z (flat_map (at d r i) ds)
    has_at i z ds = ap (λ l. has_datum z (flat_map (at d r i) l)) (element_list-elements_of ds)

    new_places : (i : ℕ) (z : Datum) → has_datum z (elements_at i map_mode (set_of new)) ≡ true → (has_datum z (elements_at i map_mode part) ≡ true) ⊎ (has_datum z (elements_at i map_mode (set_of old)) ≡ true)
    new_places i z q =
        elim (of_inserted z (at d r i) (pair x y) (without_point x old) (sym (ap (λ l. has_datum z (flat_map (at d r i) l)) with_it) ∙ sym (has_at i z new) ∙ q)) [
          | inl s ↦ inl (in_first z (at d r i (pair x y)) [] s)
          | inr s ↦ inr (has_at i z old ∙ of_kept z (at d r i) (other x) old s)
        ]

    part_places : (i : ℕ) (z : Datum) → has_datum z (elements_at i map_mode part) ≡ true → has_datum z (elements_at i map_mode (set_of new)) ≡ true
    part_places i z q =
        has_at i z new
        ∙ ap (λ l. has_datum z (flat_map (at d r i) l)) with_it
        ∙ in_inserted z (at d r i) (pair x y) (without_point x old) (elim (of_both z (at d r i (pair x y)) [] q) [ inl s ↦ s | inr s ↦ absurd (false≢true s) ])

    found_before : PlacesAreFound bs n map_mode (set_of old)
    found_before = subst (λ v. ArePlacesFound bs n map_mode v) (sym same_value) h.found

    found_then : PlacesAreFound cs n map_mode (set_of new)
    found_then i z q = elim (new_places i z q) [ inl s ↦ (members map_mode part n bs cs h.there long).1 i z s | inr s ↦ then_in_form.found i z s ]

    lengthened_alike : AreLengthened map_mode (set_of new) n bs cs
    lengthened_alike = alike map_mode map_mode (set_of new) part n bs cs part_places (λ i z q. elim (new_places i z q) [ inl s ↦ inl s | inr s ↦ inr (found_before i z s) ]) long

    form_then : HasFormOrOm (named cs n) map_mode (table l e some fs)
    form_then =
        other_table (named cs n) (place_of a d) false (HasForm (named cs n) r) k l b e many some es fs p.put.0 p.put.1 p.put.2
        (form_put (HasForm (named cs n) r) p.number (Some p.content) es fs p.keyed_then (λ c w. let same : p.content ≡ c = cc in subst (HasForm (named cs n) r) same p.form) p.put.3) then_in_form.form

    tables_update : IsUpdate map_mode n (op_of Put (stands bs (table k b many es) ∷ Some x ∷ Some y ∷ [])) bs cs (table k b many es) (table l e some fs) (Ok true)
    tables_update = record {
      held = record {
        there = then_in_form.there;
        over = over_then;
        form = form_then;
        fits = fits_then;
        value = value_of_set new formed_then (gathers (pairs_in cs (base_at cs e) some fs)).rising shallow_then;
        found = found_then;
      };
      value = λ t left. ap (λ v. op_of Put (v ∷ Some x ∷ Some y ∷ []) left) (sym same_value) ∙ gives left;
      lengthened = λ t. (set_of new, refl, lengthened_alike);
      nothing = λ t. absurd (false≢true (sym t));
      refused = tt;
    }

  image_update : (f g : Form) → is_some (table_of f) ≡ true → IsInForm bs n map_mode f → AreLengthened map_mode part n bs cs → IsImagePut cs n r x y f g → IsUpdate map_mode n (op_of Put (stands bs f ∷ Some x ∷ Some y ∷ [])) bs cs f g (Ok true)
  image_update (table k b many es) (table l e some fs) t h long p = tables_update k l b e many some es fs h long p
  image_update (table k b many es) om t h long p = absurd p.put
  image_update (table k b many es) (plain v) t h long p = absurd p.put
  image_update (table k b many es) (element c v) t h long p = absurd p.put
  image_update (table k b many es) (numbers l c ns) t h long p = absurd p.put
  image_update (table k b many es) (handles c hs) t h long p = absurd p.put
  image_update om g t h long p = absurd (false≢true t)
  image_update (plain v) g t h long p = absurd (false≢true t)
  image_update (element c v) g t h long p = absurd (false≢true t)
  image_update (numbers l c ns) g t h long p = absurd (false≢true t)
  image_update (handles c hs) g t h long p = absurd (false≢true t)

  pub update_of_images : (m : Mode) (f g : Form) → m ≡ map_mode → is_some (table_of f) ≡ true → IsInForm bs n m f → AreLengthened m part n bs cs → IsImagePut cs n r x y f g → IsUpdate m n (op_of Put (stands bs f ∷ Some x ∷ Some y ∷ [])) bs cs f g (Ok true)
  update_of_images m f g e t h long p =
      subst (λ z. IsUpdate z n (op_of Put (stands bs f ∷ Some x ∷ Some y ∷ [])) bs cs f g (Ok true)) (sym e) (image_update f g t (subst (λ z. IsInForm bs n z f) e h) (subst (λ z. AreLengthened z part n bs cs) e long) p)
