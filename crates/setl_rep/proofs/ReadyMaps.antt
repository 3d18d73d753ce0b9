-- Maps that are held in the form of a mode already.
use Rattle.std.proofs.Common.{◌≡◌, ◌∙◌, ℕ, zero, suc, ◌+◌, ◌≤◌, drop, arith, Bool, true, false, ◌&&◌, ◌||◌, ◌==◌, nat_eq, is_some, inl, inr, cond, List, [], ◌∷◌, ◌++◌, length, Option, None, Some, IsSome, refl, sym, ap, subst, eqb-true, eq-eqb}
use Rattle.std.specs.FinSet as set
use Rattle.std.specs.FinSet.{contains-from_list_nat}
use Rattle.std.specs.List.{flat_map, list_all, list_any, AllByRecursion}
use Rattle.std.specs.List.Sorted.{IsStrictlySortedBy}
use Rattle.std.specs.Option.{option_and_then, option_map}
use Rattle.std.specs.Ordering.{is_eq}
use Rattle.std.proofs.lemmas.Bool.{false≢true, and_from, or_cases, or_left, or_right}
use Rattle.std.proofs.lemmas.List.Folds.{list_any-append}
use Rattle.setl_value.specs.Datum.{Datum, bool, int, text, atom, tuple, set, set_of, element_then, element_list-elements_of, elements_of-element_list}
use Rattle.setl_value.specs.Order.{datum_cmp, IsRising}
use Rattle.setl_value.specs.OrderLaws.{same_if_eq, eq_iff_same}
use Rattle.setl_value.specs.Pairs.{pair, pair_parts, images}
use Rattle.setl_set.specs.Sets.{has_datum}
use Rattle.setl_set.specs.Laws.{TestsMembership}
use Rattle.setl_modes.specs.declared.mode.Form.{Form as Attribute}
use Rattle.setl_modes.specs.Fits.{datum_fits, part_fits, single_fits, multi_fits}
use Rattle.setl_modes.specs.Modes.{Mode, Elements, SingleMaps, MultiMaps}
use Rattle.setl_modes_places.specs.Places.{elements_at, at_pair, at_point}
use Rattle.setl_base.specs.Base.{BaseState, Member, IsBase, find, handle, member_at, value_in, value_of}
use Rattle.setl_rep_bases.specs.declared.BaseId.{BaseId}
use Rattle.setl_rep_bases.specs.Bases.{BasesState, base_at, named}
use Rattle.setl_rep_forms.specs.Form.{Form, Layout, Entries, no_entry, entry_then, om, plain, element, numbers, table, handles}
use Rattle.setl_rep_forms.specs.Stands.{value_at, stands, AreOver, IsContent, IsOver}
use Rattle.setl_rep_maps.specs.Contents.{content_of, IsDomain, IsKeyedForm}
use Rattle.setl_rep_tables.specs.Tables.{content_in, images_of, table_pairs, IsKeyed, MembersOfTables, AllImagesOfTables}
use Rattle.setl_rep_building.specs.HasForm.{layout_of, placed, HasForm, HaveForms, IsMapForm}
use Rattle.setl_rep_entering.specs.Laws.{PlacesAreFound}
use Rattle.setl_rep.specs.OwnForm.{map_mode, HasNumbers, IsContentReady, IsEntryReady, IsReady, IsTableAt}

-- ---- lists

itself : (d : Datum) → is_eq (datum_cmp d d) ≡ true
itself d = (eq_iff_same d d).1 refl

each : (t : Datum → Bool) (ds : List Datum) → ((p : Datum) → has_datum p ds ≡ true → t p ≡ true) → list_all t ds ≡ true
each t [] h = refl
each t (d ∷ ds) h =
    and_from (t d) (list_all t ds) (h d (or_left (is_eq (datum_cmp d d)) (has_datum d ds) (itself d))) (each t ds (λ p q. h p (or_right (is_eq (datum_cmp p d)) (has_datum p ds) q)))

has_append : (x : Datum) (xs ys : List Datum) → has_datum x (xs ++ ys) ≡ (has_datum x xs || has_datum x ys)
has_append x xs ys = list_any-append (λ e. is_eq (datum_cmp x e)) xs ys

in_flat : (g : Datum → List Datum) (x : Datum) (ds : List Datum) → has_datum x (flat_map g ds) ≡ true → (p : Datum) × (has_datum p ds ≡ true) × (has_datum x (g p) ≡ true)
in_flat g x [] h = absurd (false≢true h)
in_flat g x (d ∷ ds) h = elim (or_cases (has_datum x (g d)) (has_datum x (flat_map g ds)) (sym (has_append x (g d) (flat_map g ds)) ∙ h)) [
  | inl e ↦ (d, or_left (is_eq (datum_cmp d d)) (has_datum d ds) (itself d), e)
  | inr e ↦ let w = in_flat g x ds e in (w.0, or_right (is_eq (datum_cmp w.0 d)) (has_datum w.0 ds) w.1, w.2)
]

only_one : (x d : Datum) → has_datum x (d ∷ []) ≡ true → x ≡ d
only_one x d h = elim (or_cases (is_eq (datum_cmp x d)) false h) [ inl e ↦ same_if_eq x d e | inr e ↦ absurd (false≢true e) ]

-- ---- entries

some_same : {A : Type 0} {x y : A} → Some x ≡ Some y → x ≡ y
some_same p = cc

not_both : {A : Type 0} {x : A} → None ≡ Some x → ⊥
not_both p = cc

later : (es : Entries) (k n : ℕ) (c f : Form) → content_in es k ≡ None → content_in es n ≡ Some f → content_in (entry_then k c es) n ≡ Some f
later es k n c f none h = by (n == k) refl
  where
    by : (t : Bool) → (n == k) ≡ t → cond t (Some c) (content_in es n) ≡ Some f
    by true e = absurd (not_both (sym none ∙ ap (content_in es) (sym (eqb-true n k e)) ∙ h))
    by false e = h

form_all : (P : Form → Type 0) (es : Entries) → IsKeyed es → ((n : ℕ) (f : Form) → content_in es n ≡ Some f → P f) → HaveForms P es
form_all P no_entry k h = tt
form_all P (entry_then n c es) k h = (h n c (ap (λ t. cond t (Some c) (content_in es n)) (eq-eqb n n refl)), form_all P es k.1 (λ m f p. h m f (later es n m c f k.0 p)))

content_kept : (bs : BasesState) (b : BaseState) (many : Bool) (es : Entries) (n : ℕ) (c : Form) → AreOver bs b many es → content_in es n ≡ Some c → IsContent many (stands bs c)
content_kept bs b many no_entry n c o h = absurd (not_both h)
content_kept bs b many (entry_then k f es) n c o h = by (n == k) h (content_kept bs b many es n c o.3)
  where
    by : (t : Bool) → cond t (Some f) (content_in es n) ≡ Some c → (content_in es n ≡ Some c → IsContent many (stands bs c)) → IsContent many (stands bs c)
    by true q rest = subst (λ g. IsContent many (stands bs g)) (some_same q) o.2
    by false q rest = rest q

-- the images of a content rise
images_rise : (many : Bool) (o : Option Datum) → IsContent many o → IsRising (images_of many o)
unfolding IsStrictlySortedBy
images_rise many None h = absurd h
images_rise false (Some d) h = (tt, tt)
images_rise true (Some (set (element_then d ms))) h = h
images_rise true (Some d) h = absurd h

-- a set of images is the set of these
set_of_images : (d : Datum) → IsContent true (Some d) → set_of (images_of true (Some d)) ≡ d
set_of_images (set ms) h = ap set (elements_of-element_list ms)
set_of_images (bool z) h = absurd h
set_of_images (int z) h = absurd h
set_of_images (text z) h = absurd h
set_of_images (atom z) h = absurd h
set_of_images (tuple z) h = absurd h

-- the member at a number is found
found_at : (b : BaseState) → IsBase b → (n : ℕ) (d : Datum) → value_at b n ≡ Some d → IsSome (find b d)
found_at b base n d p = by (member_at b n) refl p
  where
    by : (o : Option Member) → member_at b n ≡ o → option_map (λ m. m.value) o ≡ Some d → IsSome (find b d)
    by None q r = absurd (not_both r)
    by (Some m) q r =
        let living : value_of b (handle n m) ≡ Some d =
        ap (option_and_then (value_in m.generation)) q ∙ ap (λ t. cond t (Some m.value) None) (eq-eqb m.generation m.generation refl) ∙ r
        in
        subst (λ o. IsSome o) (sym (base.found (handle n m) d living)) refl

-- ---- a map whose entries are ready

-- what is so of each pair: its point is a member that fits, and the content of that is in the form of the mode
record IsFit (bs : BasesState) (n : ℕ) (b : BaseState) (k r : Mode) (many : Bool) (pairs : List Datum) (p : Datum) : Type 0 where
  point : Datum
  image : Datum
  is : p ≡ pair point image
  fits : datum_fits k point ≡ true
  member : IsSome (find b point)
  value : Datum
  images : images point pairs ≡ images_of many (Some value)
  kept : IsContent many (Some value)
  among : has_datum image (images_of many (Some value)) ≡ true
  value_fits : datum_fits r value ≡ true
  found : PlacesAreFound bs n r value

-- for a map that keeps one image for each point, or its images as sets
single_pair : (bs : BasesState) (n : ℕ) (b : BaseState) (k r : Mode) (pairs : List Datum) (p : Datum) → IsFit bs n b k r false pairs p → single_fits (datum_fits k) (datum_fits r) pairs (pair_parts p) ≡ true
single_pair bs n b k r pairs p w =
    ap (λ d. single_fits (datum_fits k) (datum_fits r) pairs (pair_parts d)) w.is
    ∙ ap (λ u. u && length (images w.point pairs) == 1 && datum_fits r w.image) w.fits
    ∙ ap (λ l. true && length l == 1 && datum_fits r w.image) w.images
    ∙ ap (λ d. true && length (w.value ∷ []) == 1 && datum_fits r d) (only_one w.image w.value w.among)
    ∙ ap (λ u. true && length (w.value ∷ []) == 1 && u) w.value_fits

multi_pair : (bs : BasesState) (n : ℕ) (b : BaseState) (k r : Mode) (pairs : List Datum) (p : Datum) → IsFit bs n b k r true pairs p → multi_fits (datum_fits k) (datum_fits r) pairs (pair_parts p) ≡ true
multi_pair bs n b k r pairs p w =
    ap (λ d. multi_fits (datum_fits k) (datum_fits r) pairs (pair_parts d)) w.is
    ∙ ap (λ u. u && datum_fits r (set_of (images w.point pairs))) w.fits
    ∙ ap (λ l. true && datum_fits r (set_of l)) w.images
    ∙ ap (λ d. true && datum_fits r d) (set_of_images w.value w.kept)
    ∙ ap (λ u. true && u) w.value_fits

module _ (bs : BasesState) (n : ℕ) (c : ℕ) (k r : Mode) (b : BaseId) (name : named bs n c ≡ b) where
  at_point_of : (i : ℕ) (x d : Datum) → IsSome (find (base_at bs b) d) → has_datum x (elements_at i (Elements c k) d) ≡ true → IsSome (find (base_at bs (named bs n i)) x)
  at_point_of i x d member h = by (c == i) refl h
    where
      by : (t : Bool) → (c == i) ≡ t → has_datum x (cond t (d ∷ []) []) ≡ true → IsSome (find (base_at bs (named bs n i)) x)
      by true same h =
          subst (λ j. IsSome (find (base_at bs j) x)) (sym name ∙ ap (named bs n) (eqb-true c i same)) (subst (λ z. IsSome (find (base_at bs b) z)) (sym (only_one x d h)) member)
      by false same h = absurd (false≢true h)

  in_single : (pairs : List Datum) (i : ℕ) (x p : Datum) → IsFit bs n (base_at bs b) k r false pairs p → has_datum x (at_pair (elements_at i (Elements c k)) (elements_at i r) (pair_parts p)) ≡ true → IsSome (find (base_at bs (named bs n i)) x)
  in_single pairs i x p w h =
      let there = sym (ap (λ d. has_datum x (at_pair (elements_at i (Elements c k)) (elements_at i r) (pair_parts d))) w.is) ∙ h in
      elim (or_cases (has_datum x (elements_at i (Elements c k) w.point)) (has_datum x (elements_at i r w.image)) (sym (has_append x (elements_at i (Elements c k) w.point) (elements_at i r w.image)) ∙ there)) [
        | inl e ↦ at_point_of i x w.point w.member e
        | inr e ↦ w.found i x (sym (ap (λ d. has_datum x (elements_at i r d)) (only_one w.image w.value w.among)) ∙ e)
      ]

  in_multi : (pairs : List Datum) (i : ℕ) (x p : Datum) → IsFit bs n (base_at bs b) k r true pairs p → has_datum x (at_point (elements_at i (Elements c k)) (elements_at i r) pairs (pair_parts p)) ≡ true → IsSome (find (base_at bs (named bs n i)) x)
  in_multi pairs i x p w h =
      let there = sym (ap (λ d. has_datum x (at_point (elements_at i (Elements c k)) (elements_at i r) pairs (pair_parts d))) w.is) ∙ h in
      elim (or_cases (has_datum x (elements_at i (Elements c k) w.point)) (has_datum x (elements_at i r (set_of (images w.point pairs)))) (sym (has_append x (elements_at i (Elements c k) w.point) (elements_at i r (set_of (images w.point pairs)))) ∙ there)) [
        | inl e ↦ at_point_of i x w.point w.member e
        | inr e ↦ w.found i x (sym (ap (λ l. has_datum x (elements_at i r (set_of l))) w.images ∙ ap (λ d. has_datum x (elements_at i r d)) (set_of_images w.value w.kept)) ∙ e)
      ]

  module _ (a : Attribute) (l : Layout) (es : Entries) (lies : layout_of a ≡ Some l) where
    -- the form is that of the mode, where each content has that of the mode of contents
    of_single : HaveForms (HasForm (named bs n) r) es → HasForm (named bs n) (SingleMaps a (Elements c k) r) (table l b false es)
    of_single forms = subst (λ o. IsMapForm (named bs n) (placed o (Elements c k)) false (HasForm (named bs n) r) (table l b false es)) (sym lies) (refl, sym name, refl, forms)

    of_multi : HaveForms (HasForm (named bs n) r) es → HasForm (named bs n) (MultiMaps a (Elements c k) r) (table l b true es)
    of_multi forms = subst (λ o. IsMapForm (named bs n) (placed o (Elements c k)) true (HasForm (named bs n) r) (table l b true es)) (sym lies) (refl, sym name, refl, forms)

  module _ (tests : TestsMembership) (members : MembersOfTables) (all : AllImagesOfTables) (base : IsBase (base_at bs b)) (es : Entries) (keyed : IsKeyed es)
      (ready : (q : ℕ) (f : Form) → content_in es q ≡ Some f → (part_fits (datum_fits k) (value_at (base_at bs b) q) ≡ true) × IsReady bs n r f) where
    fit : (many : Bool) → AreOver bs (base_at bs b) many es → (p : Datum) → has_datum p (table_pairs bs (base_at bs b) many es) ≡ true
        → IsFit bs n (base_at bs b) k r many (table_pairs bs (base_at bs b) many es) p
    fit many over p h =
        let w = (members bs (base_at bs b) many es p keyed).0 ((tests p (table_pairs bs (base_at bs b) many es)).0 h) in
        let here = ready w.0 w.1 w.4 in
        let kept : IsContent many (stands bs w.1) = content_kept bs (base_at bs b) many es w.0 w.1 over w.4 in
        let rising : IsRising (images_of many (option_and_then (stands bs) (content_in es w.0))) = subst (λ o. IsRising (images_of many (option_and_then (stands bs) o))) (sym w.4) (images_rise many (stands bs w.1) kept) in
        record {
          point = w.2;
          image = w.3;
          is = w.7;
          fits = sym (ap (part_fits (datum_fits k)) w.5) ∙ here.0;
          member = found_at (base_at bs b) base w.0 w.2 w.5;
          value = here.1.value;
          images =
              all bs (base_at bs b) many es w.2 w.0 base keyed w.5 rising
              ∙ ap (λ o. images_of many (option_and_then (stands bs) o)) w.4
              ∙ ap (images_of many) here.1.stood;
          kept = subst (IsContent many) here.1.stood kept;
          among = sym (ap (λ o. has_datum w.3 (images_of many o)) here.1.stood) ∙ w.6;
          value_fits = here.1.fits;
          found = here.1.found;
        }

    forms : HaveForms (HasForm (named bs n) r) es
    forms = form_all (HasForm (named bs n) r) es keyed (λ q f there. (ready q f there).1.form)

    single_ready : (a : Attribute) (l : Layout) → layout_of a ≡ Some l → AreOver bs (base_at bs b) false es → IsReady bs n (SingleMaps a (Elements c k) r) (table l b false es)
    single_ready a l lies over =
        let pairs = table_pairs bs (base_at bs b) false es in
        record {
          form = of_single a l es lies forms;
          value = set_of pairs;
          stood = refl;
          fits =
              ap (λ ds. list_all (λ p. single_fits (datum_fits (Elements c k)) (datum_fits r) ds (pair_parts p)) ds) (element_list-elements_of pairs)
              ∙ each (λ p. single_fits (datum_fits k) (datum_fits r) pairs (pair_parts p)) pairs (λ p h. single_pair bs n (base_at bs b) k r pairs p (fit false over p h));
          found = λ i x h.
              let w = in_flat (λ p. at_pair (elements_at i (Elements c k)) (elements_at i r) (pair_parts p)) x pairs
              (sym (ap (λ ds. has_datum x (flat_map (λ p. at_pair (elements_at i (Elements c k)) (elements_at i r) (pair_parts p)) ds)) (element_list-elements_of pairs)) ∙ h) in
              in_single pairs i x w.0 (fit false over w.0 w.1) w.2;
        }

    multi_ready : (a : Attribute) (l : Layout) → layout_of a ≡ Some l → AreOver bs (base_at bs b) true es → IsReady bs n (MultiMaps a (Elements c k) r) (table l b true es)
    multi_ready a l lies over =
        let pairs = table_pairs bs (base_at bs b) true es in
        record {
          form = of_multi a l es lies forms;
          value = set_of pairs;
          stood = refl;
          fits =
              ap (λ ds. list_all (λ p. multi_fits (datum_fits (Elements c k)) (datum_fits r) ds (pair_parts p)) ds) (element_list-elements_of pairs)
              ∙ each (λ p. multi_fits (datum_fits k) (datum_fits r) pairs (pair_parts p)) pairs (λ p h. multi_pair bs n (base_at bs b) k r pairs p (fit true over p h));
          found = λ i x h.
              let w = in_flat (λ p. at_point (elements_at i (Elements c k)) (elements_at i r) pairs (pair_parts p)) x pairs
              (sym (ap (λ ds. has_datum x (flat_map (λ p. at_point (elements_at i (Elements c k)) (elements_at i r) ds (pair_parts p)) ds)) (element_list-elements_of pairs)) ∙ h) in
              in_multi pairs i x w.0 (fit true over w.0 w.1) w.2;
        }

    pub ready_table : (many : Bool) (a : Attribute) (l : Layout) → layout_of a ≡ Some l → AreOver bs (base_at bs b) many es → IsReady bs n (map_mode many a (Elements c k) r) (table l b many es)
    ready_table false a l lies over = single_ready a l lies over
    ready_table true a l lies over = multi_ready a l lies over

-- ---- a map whose listed numbers are all that have a content

at_member : (P : ℕ → Type 0) (list : List ℕ) (q : ℕ) → AllByRecursion P list → list_any (λ y. nat_eq y q) list ≡ true → P q
at_member P [] q a h = absurd (false≢true h)
at_member P (y ∷ ys) q a h = elim (or_cases (nat_eq y q) (list_any (λ z. nat_eq z q) ys) h) [ inl e ↦ subst P (eqb-true y q e) a.0 | inr e ↦ at_member P ys q a.1 e ]

pub ready_map : TestsMembership → MembersOfTables → AllImagesOfTables
    → (bs : BasesState) (n c : ℕ) (k r m : Mode) (a : Attribute) (b : BaseId) (many : Bool) (f : Form) (base : BaseState) (list : List ℕ)
    → m ≡ map_mode many a (Elements c k) r → named bs n c ≡ b → IsTableAt (layout_of a) b many f → IsOver bs f → IsKeyedForm f → IsBase (base_at bs b) → base ≡ base_at bs b
    → ((q : ℕ) → is_some (content_of f q) ≡ true → list_any (λ y. nat_eq y q) list ≡ true)
    → AllByRecursion (IsEntryReady bs n base k r f) list → IsReady bs n m f
ready_map tests members all bs n c k r m a b many f base list is name at over keyed basis same covers ready = by (layout_of a) refl f at over keyed covers ready
  where
    by : (o : Option Layout) → layout_of a ≡ o → (f : Form) → IsTableAt o b many f → IsOver bs f → IsKeyedForm f
        → ((q : ℕ) → is_some (content_of f q) ≡ true → list_any (λ y. nat_eq y q) list ≡ true) → AllByRecursion (IsEntryReady bs n base k r f) list → IsReady bs n m f
    by (Some l) lies (table j e some es) t over keyed covers ready =
        let path : ◌≡◌ {A = Form} (table j e some es) (table l b many es) = ap (λ i. table i e some es) t.0 ∙ ap (λ i. table l i some es) t.1 ∙ ap (λ s. table l b s es) t.2 in
        let over_then : IsOver bs (table l b many es) = subst (IsOver bs) path over in
        let entries : (q : ℕ) (g : Form) → content_in es q ≡ Some g → (part_fits (datum_fits k) (value_at (base_at bs b) q) ≡ true) × IsReady bs n r g =
        (λ q g there.
        subst (λ i. (part_fits (datum_fits k) (value_at i q) ≡ true) × IsReady bs n r g) same
        (subst (IsContentReady bs n base k r q) there (at_member (IsEntryReady bs n base k r (table j e some es)) list q ready (covers q (ap is_some there)))))
        in
        subst (λ g. IsReady bs n m g) (sym path) (subst (λ z. IsReady bs n z (table l b many es)) (sym is) (ready_table bs n c k r b name tests members all basis es keyed entries many a l lies over_then.1))
    by None lies f t over keyed covers ready = absurd t
    by (Some l) lies om t over keyed covers ready = absurd t
    by (Some l) lies (plain v) t over keyed covers ready = absurd t
    by (Some l) lies (element e v) t over keyed covers ready = absurd t
    by (Some l) lies (numbers j e ns) t over keyed covers ready = absurd t
    by (Some l) lies (handles e hs) t over keyed covers ready = absurd t

-- ---- the numbers of a list, one after the other

pub all_left : (P : ℕ → Type 0) (list : List ℕ) (i : ℕ) → length list ≤ i → AllByRecursion P (drop i list)
all_left P [] zero h = tt
all_left P [] (suc i) h = tt
all_left P (x ∷ xs) zero h = absurd (omega arith)
all_left P (x ∷ xs) (suc i) h = all_left P xs i (omega arith)

pub covers : (f g : Form) (ns : List ℕ) → IsDomain f g → HasNumbers g ns → (q : ℕ) → is_some (content_of f q) ≡ true → list_any (λ y. nat_eq y q) ns ≡ true
covers (table k b many es) (numbers l d ms) ns points has q there = sym (contains-from_list_nat ns q) ∙ ap (λ s. set.contains s q) has ∙ points.2 q ∙ there
covers (table k b many es) om ns points has q there = absurd points
covers (table k b many es) (plain v) ns points has q there = absurd points
covers (table k b many es) (element c v) ns points has q there = absurd points
covers (table k b many es) (table l c some fs) ns points has q there = absurd points
covers (table k b many es) (handles c hs) ns points has q there = absurd points
covers om g ns points has q there = absurd points
covers (plain v) g ns points has q there = absurd points
covers (element c v) g ns points has q there = absurd points
covers (numbers l c ms) g ns points has q there = absurd points
covers (handles c hs) g ns points has q there = absurd points

-- ---- what a content stands over

entry_over : (bs : BasesState) (b : BaseState) (many : Bool) (es : Entries) (n : ℕ) (c : Form) → AreOver bs b many es → content_in es n ≡ Some c → IsOver bs c
entry_over bs b many no_entry n c o h = absurd (not_both h)
entry_over bs b many (entry_then k f es) n c o h = by (n == k) h (entry_over bs b many es n c o.3)
  where
    by : (t : Bool) → cond t (Some f) (content_in es n) ≡ Some c → (content_in es n ≡ Some c → IsOver bs c) → IsOver bs c
    by true q rest = subst (IsOver bs) (some_same q) o.1
    by false q rest = rest q

pub content_over : (bs : BasesState) (f : Form) (n : ℕ) (c : Form) → IsOver bs f → content_of f n ≡ Some c → IsOver bs c
content_over bs (table k b many es) n c o h = entry_over bs (base_at bs b) many es n c o.1 h
content_over bs om n c o h = absurd (not_both h)
content_over bs (plain v) n c o h = absurd (not_both h)
content_over bs (element b v) n c o h = absurd (not_both h)
content_over bs (numbers l b ns) n c o h = absurd (not_both h)
content_over bs (handles b hs) n c o h = absurd (not_both h)

-- ---- the measure of the walk

-- how many modes of maps stand in one another
abbrev pub height : Mode → ℕ
height (SingleMaps a d r) = height r + 1
height (MultiMaps a d s) = height s + 1
height m = 0

pub height_of : (many : Bool) (a : Attribute) (d r : Mode) → height (map_mode many a d r) ≡ height r + 1
height_of false a d r = refl
height_of true a d r = refl
