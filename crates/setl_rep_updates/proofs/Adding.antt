-- One more image comes to a point of a map.
use Rattle.std.proofs.Common.{◌≡◌, ◌∙◌, ℕ, ◌-◌, ◌≤◌, ◌<◌, ◌==◌, Bool, true, false, ◌&&◌, ◌⊎◌, inl, inr, cond, List, [], ◌∷◌, ◌++◌, Option, None, Some, IsSome, Ok, refl, sym, ap, subst, arith, eq-eqb, option_and_then}
use Rattle.std.specs.Prelude.{IfSome}
use Rattle.std.specs.Bool.{if◌then◌else◌}
use Rattle.std.specs.List.{filter_map, flat_map, list_all}
use Rattle.std.specs.List.Sorted.{IsStrictlySortedBy}
use Rattle.std.specs.Option.{is_some}
use Rattle.std.specs.FinSet as set
use Rattle.std.specs.declared.rc.Rc.{Rc}
use Rattle.std.specs.declared.alloc.Global.{Global}
use Rattle.std.specs.declared.cmp.Ordering.{Ordering}
use Rattle.std.specs.declared.cmp.Ordering.TheVariants.{Less, Equal, Greater}
use Rattle.std.specs.Ordering.{nat_cmp, is_eq}
use Rattle.std.proofs.lemmas.Bool.{false≢true, or_left, or_right}
use Rattle.setl_value.specs.Datum.{Datum, depth, set_of, elements_of, element_list, element_list-elements_of}
use Rattle.setl_value.specs.Datum as datum
use Rattle.setl_value.specs.WellFormed.{ElementsAreWellFormed, IsValue}
use Rattle.setl_value.specs.Order.{datum_cmp, IsRising}
use Rattle.setl_value.specs.OrderLaws.{same_if_eq}
use Rattle.setl_value.specs.Pairs.{pair, pair_parts, first_of, second_of, is_datum, is_map, images, pairs_at}
use Rattle.setl_value.specs.code.Body.{Body, Members}
use Rattle.setl_value.specs.declared.Value.TheVariants as variants
use Rattle.setl_set.specs.Sets.{has_datum, insert_datum, insert_by}
use Rattle.setl_set.specs.Laws.{Gathers}
use Rattle.setl_map.specs.Maps.{put_images}
use Rattle.setl_map.specs.Laws.{ImagesAreShallower}
use Rattle.setl_map.specs.DepthLaws.{depth_insert}
use Rattle.setl_modes.specs.declared.mode.Form.{Form as Attribute}
use Rattle.setl_modes.specs.Modes.{Mode, General, Integers, Strings, Booleans, Atoms, Elements, Sets, Tuples, SingleMaps, MultiMaps}
use Rattle.setl_modes.specs.Fits.{datum_fits, multi_fits}
use Rattle.setl_modes_places.specs.Places.{elements_at, at_point, names as mode_names}
use Rattle.setl_modes_parts.specs.Laws.{ImagesFit, SetPutsFit}
use Rattle.setl_operators_table.specs.declared.Operator.TheVariants.{Images, PutImages, With}
use Rattle.setl_operators_table.specs.Outcome.{Gives, Fails, KindFault, within_depth, set_value, adding, then_with}
use Rattle.setl_operators_table.specs.OutcomeLaws.{shallow}
use Rattle.setl_operators_table.specs.Collections.{on_map}
use Rattle.setl_operators_table.specs.Operators.{op_of}
use Rattle.setl_base.specs.declared.Elt.{Elt}
use Rattle.setl_base.specs.Base.{BaseState, find}
use Rattle.setl_rep_bases.specs.declared.BaseId.{BaseId}
use Rattle.setl_rep_bases.specs.Bases.{BasesState, base_at, named, IsThere}
use Rattle.setl_rep_forms.specs.declared.held.Held.TheVariants as code
use Rattle.setl_rep_forms.specs.Form.{Form, Layout, remote, sparse, Entries, no_entry, entry_then, om, plain, element, numbers, table, handles}
use Rattle.setl_rep_forms.specs.FormOf.{form, of_plain, of_remote, of_sparse}
use Rattle.setl_rep_forms.specs.Stands.{stands, value_at, members_at, pairs_in, IsOver, AreOver, IsContent}
use Rattle.setl_rep_forms.specs.Laws.{FormsStay}
use Rattle.setl_rep_tables.specs.Tables.{content_in, images_of, table_pairs}
use Rattle.setl_rep_building.specs.HasForm.{layout_of, placed, place_of, HaveForms, IsMapForm, IsSetForm, HasForm, HasFormOrOm}
use Rattle.setl_rep_maps.specs.Contents.{table_of, content_of, IsKeyedForm, HasBase, IsPoint, MayHave, PutsContent}
use Rattle.setl_rep_maps.specs.Laws.{ContentsStandForImages, PutsAreImages, ImagesMakePairs}
use Rattle.setl_rep_entering.specs.Entering.{AreLengthened, BasesAreThere}
use Rattle.setl_rep_entering.specs.Laws.{NamesStay, PlacesAreFound, PlacesAreMembers, PartsLengthenAlike, BlocksAreKept, MembersLengthenNothing}
use Rattle.setl_rep_updates.specs.InForm.{ArePlacesFound, IsInForm, FormsOfModesStay}
use Rattle.setl_rep_updates.specs.Updates.{is_part, with_image, IsUpdate}
use Rattle.setl_rep_updates.specs.code.Added.{changed, TakesMember, AreSetsAlike, AreNumbersPut, IsMemberPut, IsImageAdded}
use Rattle.setl_rep_updates.proofs.Including.{itself, formed_inserted, value_of_set, all_inserted}
use Rattle.setl_rep_updates.proofs.Contents.{form_at, form_put}
use Rattle.setl_rep_updates.proofs.Imaging.{of_both, in_first, in_second, of_inserted, in_inserted, part_tests, all_pairs, other_table, points_on, HasPointsOn}
use Rattle.setl_rep_updates.proofs.Cutting.{at_points, same_front}

-- ---- a member comes into a set, or goes out of it

with_numbers : Gathers → (bs : BasesState) (l : Layout) (b : BaseId) (on : Bool) (y : Datum) (ns ms : set.FinSet nat_cmp) → IsThere bs b → AreNumbersPut bs b on y ns ms → IsMemberPut bs on y (numbers l b ns) (numbers l b ms)
with_numbers gathers bs l b on y ns ms there w = record {
  over = (there, w.living);
  value = ap (λ ds. Some (set_of ds)) members;
  rising = subst IsRising members (gathers (filter_map (value_at (base_at bs b)) (set.items ms))).rising;
  alike = (refl, refl);
}
  where
    members : members_at (base_at bs b) ms ≡ changed on y (element_list (elements_of (members_at (base_at bs b) ns)))
    members = w.members ∙ ap (changed on y) (sym (element_list-elements_of (members_at (base_at bs b) ns)))

pub in_remote : Gathers → (bs : BasesState) (b : BaseId) (on : Bool) (y : Datum) (ns ms : set.FinSet nat_cmp) → IsThere bs b → AreNumbersPut bs b on y ns ms → IsMemberPut bs on y (form (code.Remote b ns)) (form (code.Remote b ms))
in_remote gathers bs b on y ns ms there w =
    subst (λ f. IsMemberPut bs on y f (form (code.Remote b ms))) (sym (of_remote b ns)) (subst (IsMemberPut bs on y (numbers remote b ns)) (sym (of_remote b ms)) (with_numbers gathers bs remote b on y ns ms there w))

pub in_sparse : Gathers → (bs : BasesState) (b : BaseId) (on : Bool) (y : Datum) (ns ms : Rc (set.FinSet nat_cmp) Global) → IsThere bs b → AreNumbersPut bs b on y ns.value ms.value → IsMemberPut bs on y (form (code.Sparse b ns)) (form (code.Sparse b ms))
in_sparse gathers bs b on y ns ms there w =
    subst (λ f. IsMemberPut bs on y f (form (code.Sparse b ms))) (sym (of_sparse b ns)) (subst (IsMemberPut bs on y (numbers sparse b ns.value)) (sym (of_sparse b ms)) (with_numbers gathers bs sparse b on y ns.value ms.value there w))

pub in_plain : (bs : BasesState) (on : Bool) (y : Datum) (old new : Body) → Members new ≡ changed on y (Members old) → IsRising (Members new) → IsMemberPut bs on y (form (code.Plain (variants.Set old))) (form (code.Plain (variants.Set new)))
in_plain bs on y old new is rising =
    subst (λ f. IsMemberPut bs on y f (form (code.Plain (variants.Set new)))) (sym (of_plain (variants.Set old))) (subst (IsMemberPut bs on y (plain (set_of (Members old)))) (sym (of_plain (variants.Set new))) made)
  where
    members : Members new ≡ changed on y (element_list (elements_of (Members old)))
    members = is ∙ ap (changed on y) (sym (element_list-elements_of (Members old)))

    made : IsMemberPut bs on y (plain (set_of (Members old))) (plain (set_of (Members new)))
    made = record {
      over = tt;
      value = ap (λ ds. Some (set_of ds)) members;
      rising = subst IsRising members rising;
      alike = tt;
    }

-- ---- a content with one image more

inserted : (y : Datum) (es : List Datum) → (w : Datum) × (ws : List Datum) × (insert_datum y es ≡ w ∷ ws)
inserted y [] = (y, [], refl)
inserted y (e ∷ es) = by (datum_cmp y e)
  where
    by : (o : Ordering) → (w : Datum) × (ws : List Datum) × (insert_by o y e es (insert_datum y es) ≡ w ∷ ws)
    by Less = (y, e ∷ es, refl)
    by Equal = (e, es, refl)
    by Greater = (e, insert_datum y es, refl)

-- the set of a rising list that isn't empty
pub rising_content : (ds : List Datum) (w : Datum) (ws : List Datum) → ds ≡ w ∷ ws → IsRising ds → IsContent true (Some (set_of ds))
rising_content ds w ws is r =
    let rising : IsRising (w ∷ ws) = subst IsRising is r in
    let content : IsContent true (Some (set_of (w ∷ ws))) = subst (λ l. IsRising (w ∷ l)) (sym (element_list-elements_of ws)) rising in
    subst (λ l. IsContent true (Some (set_of l))) (sym is) content

pub images_content : (y : Datum) (es : List Datum) → IsRising (insert_datum y es) → IsContent true (Some (set_of (insert_datum y es)))
images_content y es r = let q = inserted y es in rising_content (insert_datum y es) q.0 q.1 q.2 r

pub one_rises : (y : Datum) → IsRising (y ∷ [])
unfolding IsStrictlySortedBy
one_rises y = (tt, tt)

-- a set of the same kind has the same form
pub form_alike : (name : ℕ → BaseId) (a : Attribute) (k : Mode) (c g : Form) → AreSetsAlike c g → HasForm name (Sets a k) c → HasForm name (Sets a k) g
form_alike name a k c g alike h = by c g (place_of a k) alike h
  where
    by : (c g : Form) (o : Option (Layout × ℕ)) → AreSetsAlike c g → IsSetForm name o c → IsSetForm name o g
    by (numbers l b ns) (numbers q e ms) (Some p) s h = (s.0 ∙ h.0, s.1 ∙ h.1)
    by (plain d) (plain e) None s h = tt
    by (numbers l b ns) (numbers q e ms) None s h = absurd h
    by (plain d) (plain e) (Some p) s h = absurd h
    by (numbers l b ns) om o s h = absurd s
    by (numbers l b ns) (plain e) o s h = absurd s
    by (numbers l b ns) (element e v) o s h = absurd s
    by (numbers l b ns) (table q e t es) o s h = absurd s
    by (numbers l b ns) (handles e es) o s h = absurd s
    by (plain d) om o s h = absurd s
    by (plain d) (numbers q e ms) o s h = absurd s
    by (plain d) (element e v) o s h = absurd s
    by (plain d) (table q e t es) o s h = absurd s
    by (plain d) (handles e es) o s h = absurd s
    by om g o s h = absurd s
    by (element e v) g o s h = absurd s
    by (table q e t es) g o s h = absurd s
    by (handles e es) g o s h = absurd s

-- ---- images of a map with one pair more

module _ (z p : Datum) (apart : is_datum z (first_of (pair_parts p)) ≡ false) where
  past_by : (o : Ordering) (e : Datum) (es more : List Datum) → images z more ≡ images z es → images z (insert_by o p e es more) ≡ images z (e ∷ es)
  past_by Less e es more r = ap (λ t. filter_map (λ d. second_of (pair_parts d)) (cond t (p ∷ pairs_at z (e ∷ es)) (pairs_at z (e ∷ es)))) apart
  past_by Equal e es more r = refl
  past_by Greater e es more r = same_front z e more es r

  images_past : (ds : List Datum) → images z (insert_datum p ds) ≡ images z ds
  images_past [] = ap (λ t. filter_map (λ d. second_of (pair_parts d)) (cond t (p ∷ []) [])) apart
  images_past (e ∷ es) = past_by (datum_cmp p e) e es (insert_datum p es) (images_past es)

-- ---- places of maps with sets of images

module _ (z x : Datum) (first range : Datum → List Datum) where
  -- the places of the images of a point that has some
  point_in : (f ds : List Datum) (w : Datum) (ws : List Datum) → images x ds ≡ w ∷ ws → has_datum z (range (set_of (images x f))) ≡ true → has_datum z (flat_map (at_points first range f) ds) ≡ true
  point_in f [] w ws e h = let no : ⊥ = cc in absurd no
  point_in f (d ∷ ds) w ws e h = by (pair_parts d) (is_datum x (first_of (pair_parts d))) refl refl e (point_in f ds w ws)
    where
      by : (o : Option (Datum × Datum)) (t : Bool) → pair_parts d ≡ o → is_datum x (first_of (pair_parts d)) ≡ t → filter_map (λ e. second_of (pair_parts e)) (cond t (d ∷ pairs_at x ds) (pairs_at x ds)) ≡ w ∷ ws
          → (images x ds ≡ w ∷ ws → has_datum z (range (set_of (images x f))) ≡ true → has_datum z (flat_map (at_points first range f) ds) ≡ true) → has_datum z (at_points first range f d ++ flat_map (at_points first range f) ds) ≡ true
      by o false p t e r = in_second z (at_points first range f d) (flat_map (at_points first range f) ds) (r e h)
      by None true p t e r = absurd (false≢true (sym (ap (λ q. is_datum x (first_of q)) p) ∙ t))
      by (Some o) true p t e r =
          let same : x ≡ o.0 = same_if_eq x o.0 (sym (ap (λ q. is_datum x (first_of q)) p) ∙ t) in
          in_first z (at_points first range f d) (flat_map (at_points first range f) ds)
          (ap (λ q. has_datum z (at_point first range f q)) p ∙ in_second z (first o.0) (range (set_of (images o.0 f))) (ap (λ q. has_datum z (range (set_of (images q f)))) (sym same) ∙ h))

  abbrev IsPlaceThere : (new old ds : List Datum) → Type 0
  IsPlaceThere new old ds = (has_datum z (range (set_of (images x new))) ≡ true) ⊎ (has_datum z (flat_map (at_points first range old) ds) ≡ true)

  -- where all other points have their images, places of the map are those of this point or were there
  of_points : (new old ds : List Datum) → ((w : Datum) → is_eq (datum_cmp w x) ≡ false → images w new ≡ images w old) → has_datum z (flat_map (at_points first range new) ds) ≡ true
      → IsPlaceThere new old ds
  of_points new old [] others h = inr h
  of_points new old (d ∷ ds) others h =
      elim (of_both z (at_points first range new d) (flat_map (at_points first range new) ds) h) [
        | inl q ↦ by (pair_parts d) refl q
        | inr q ↦ elim (of_points new old ds others q) [ inl s ↦ inl s | inr s ↦ inr (in_second z (at_points first range old d) (flat_map (at_points first range old) ds) s) ]
      ]
    where
      here : (o : Option (Datum × Datum)) → pair_parts d ≡ o → has_datum z (at_point first range old o) ≡ true → IsPlaceThere new old (d ∷ ds)
      here o p s = inr (in_first z (at_points first range old d) (flat_map (at_points first range old) ds) (ap (λ q. has_datum z (at_point first range old q)) p ∙ s))

      at_other : (o : Datum × Datum) (t : Bool) → is_eq (datum_cmp o.0 x) ≡ t → pair_parts d ≡ Some o → has_datum z (range (set_of (images o.0 new))) ≡ true → IsPlaceThere new old (d ∷ ds)
      at_other o true e p s = inl (ap (λ w. has_datum z (range (set_of (images w new)))) (sym (same_if_eq o.0 x e)) ∙ s)
      at_other o false e p s = here (Some o) p (in_second z (first o.0) (range (set_of (images o.0 old))) (ap (λ l. has_datum z (range (set_of l))) (sym (others o.0 e)) ∙ s))

      by : (o : Option (Datum × Datum)) → pair_parts d ≡ o → has_datum z (at_point first range new o) ≡ true → IsPlaceThere new old (d ∷ ds)
      by None p s = absurd (false≢true s)
      by (Some o) p s = elim (of_both z (first o.0) (range (set_of (images o.0 new))) s) [
        | inl q ↦ here (Some o) p (in_first z (first o.0) (range (set_of (images o.0 old))) q)
        | inr q ↦ at_other o (is_eq (datum_cmp o.0 x)) refl p q
      ]

-- ---- the form of a map with sets of images

pub is_multi : (name : ℕ → BaseId) (o : Option (Layout × ℕ)) (P : Form → Type 0) (l : Layout) (b : BaseId) (many : Bool) (es : Entries) → IsMapForm name o true P (table l b many es) → many ≡ true
is_multi name None P l b many es h = absurd h
is_multi name (Some q) P l b many es h = h.2

pub map_forms : (name : ℕ → BaseId) (o : Option (Layout × ℕ)) (P : Form → Type 0) (l : Layout) (b : BaseId) (many : Bool) (es : Entries) → IsMapForm name o true P (table l b many es) → HaveForms P es
map_forms name None P l b many es h = absurd h
map_forms name (Some q) P l b many es h = h.3

pub over_at : (bs : BasesState) (base : BaseState) (many : Bool) (es : Entries) (q : ℕ) (c : Form) → AreOver bs base many es → content_in es q ≡ Some c → IsOver bs c × IsContent many (stands bs c)
over_at bs base many no_entry q c h e = let no : ⊥ = cc in absurd no
over_at bs base many (entry_then k f es) q c h e = by (q == k) e (over_at bs base many es q c h.3)
  where
    by : (t : Bool) → cond t (Some f) (content_in es q) ≡ Some c → (content_in es q ≡ Some c → IsOver bs c × IsContent many (stands bs c)) → IsOver bs c × IsContent many (stands bs c)
    by true e r = let same : f ≡ c = cc in subst (λ g. IsOver bs g × IsContent many (stands bs g)) same (h.1, h.2)
    by false e r = r e

-- ---- the places of a pair

module _ (a g : Attribute) (d k : Mode) (x y : Datum) where
  abbrev pub added_mode : Mode
  added_mode = MultiMaps a d (Sets g k)

  abbrev pub added_part : Datum
  added_part = set_of (pair x y ∷ [])

  pub one_image : images x (pair x y ∷ []) ≡ y ∷ []
  one_image = ap (λ t. filter_map (λ e. second_of (pair_parts e)) (cond t (pair x y ∷ []) [])) (itself x)

  pub part_fits : datum_fits d x ≡ true → datum_fits k y ≡ true → datum_fits added_mode added_part ≡ true
  part_fits fx fy = (λ i. (fx i && datum_fits (Sets g k) (set_of (one_image i))) && true) ∙ (λ i. (true && (fy i && true)) && true)

  pub in_part : (i : ℕ) (z : Datum) → (has_datum z (elements_at i d x) ≡ true) ⊎ (has_datum z (elements_at i k y) ≡ true) → has_datum z (elements_at i added_mode added_part) ≡ true
  in_part i z (inl q) =
      in_first z (elements_at i d x ++ elements_at i (Sets g k) (set_of (images x (pair x y ∷ [])))) [] (in_first z (elements_at i d x) (elements_at i (Sets g k) (set_of (images x (pair x y ∷ [])))) q)
  in_part i z (inr q) =
      in_first z (elements_at i d x ++ elements_at i (Sets g k) (set_of (images x (pair x y ∷ [])))) []
      (in_second z (elements_at i d x) (elements_at i (Sets g k) (set_of (images x (pair x y ∷ [])))) (ap (λ l. has_datum z (elements_at i (Sets g k) (set_of l))) one_image ∙ in_first z (elements_at i k y) [] q))

  of_single : (i : ℕ) (z : Datum) → has_datum z (elements_at i (Sets g k) (set_of (y ∷ []))) ≡ true → has_datum z (elements_at i k y) ≡ true
  of_single i z q = elim (of_both z (elements_at i k y) [] q) [ inl s ↦ s | inr s ↦ absurd (false≢true s) ]

  of_pair : (i : ℕ) (z : Datum) → has_datum z (elements_at i d x ++ elements_at i (Sets g k) (set_of (images x (pair x y ∷ [])))) ≡ true → (has_datum z (elements_at i d x) ≡ true) ⊎ (has_datum z (elements_at i k y) ≡ true)
  of_pair i z q =
      elim (of_both z (elements_at i d x) (elements_at i (Sets g k) (set_of (images x (pair x y ∷ [])))) q) [
        | inl t ↦ inl t
        | inr t ↦ inr (of_single i z (sym (ap (λ l. has_datum z (elements_at i (Sets g k) (set_of l))) one_image) ∙ t))
      ]

  pub of_part : (i : ℕ) (z : Datum) → has_datum z (elements_at i added_mode added_part) ≡ true → (has_datum z (elements_at i d x) ≡ true) ⊎ (has_datum z (elements_at i k y) ≡ true)
  of_part i z q =
      elim (of_both z (elements_at i d x ++ elements_at i (Sets g k) (set_of (images x (pair x y ∷ [])))) [] q) [
        | inl s ↦ of_pair i z s
        | inr s ↦ absurd (false≢true s)
      ]

  -- the places of the set of the one image
  pub of_one : (i : ℕ) (z : Datum) → has_datum z (elements_at i (Sets g k) (set_of (y ∷ []))) ≡ true → has_datum z (elements_at i added_mode added_part) ≡ true
  of_one i z q = in_part i z (inr (of_single i z q))

-- ---- the update

depth_added : (x y : Datum) (f : List Datum) → depth x < 499 → depth y < 499 → depth (set_of f) ≤ 500 → depth (set_of (insert_datum (pair x y) f)) ≤ 500
depth_added x y f hx hy h = omega (arith, depth_insert (pair x y) f, hx, hy, h)

module _ (gathers : Gathers) (shallower : ImagesAreShallower) (images_fit : ImagesFit) (set_puts : SetPutsFit) (forms_stay : FormsStay) (contents : ContentsStandForImages) (puts : PutsAreImages) (makes_pairs : ImagesMakePairs)
    (kept : BlocksAreKept) (members : PlacesAreMembers) (alike : PartsLengthenAlike) (stay : FormsOfModesStay)
    (a g : Attribute) (d k : Mode) (n : ℕ) (x y : Datum) (vx : IsValue x) (vy : IsValue y) (px : is_part d x ≡ true) (py : is_part k y ≡ true) (bs cs : BasesState) where
  abbrev set_mode : Mode
  set_mode = Sets g k

  abbrev map_mode : Mode
  map_mode = MultiMaps a d set_mode

  abbrev part : Datum
  part = set_of (pair x y ∷ [])

  -- the same with the tables before and after
  module _ (j l : Layout) (b e : BaseId) (many some : Bool) (es fs : Entries) (h : IsInForm bs n map_mode (table j b many es)) (long : AreLengthened map_mode part n bs cs)
      (p : IsImageAdded cs n set_mode x y (table j b many es) (table l e some fs)) where
    abbrev old : List Datum
    old = table_pairs cs (base_at cs b) many es

    abbrev new : List Datum
    new = table_pairs cs (base_at cs e) some fs

    abbrev old_images : List Datum
    old_images = images_of true (option_and_then (stands cs) (content_in es p.number))

    abbrev new_images : List Datum
    new_images = insert_datum y old_images

    then_in_form : IsInForm cs n map_mode (table j b many es)
    then_in_form = stay map_mode map_mode part n n bs cs (table j b many es) long h

    same_value : Some (set_of old) ≡ stands bs (table j b many es)
    same_value = (forms_stay bs cs (table j b many es) (kept map_mode part n bs cs long) h.over).1

    multi : many ≡ true
    multi = is_multi (named cs n) (place_of a d) (HasForm (named cs n) set_mode) j b many es then_in_form.form

    old_value : IsValue (set_of old)
    old_value = then_in_form.value

    -- the images of x

    images_old : images x old ≡ old_images
    images_old = contents cs (table j b many es) p.number x then_in_form.over p.keyed p.base p.point ∙ ap (λ t. images_of t (option_and_then (stands cs) (content_in es p.number))) multi

    images_are : (t : Bool) → t ≡ true → images_of t (stands cs p.content) ≡ new_images
    images_are t is = ap (images_of t) p.value ∙ ap (λ u. images_of u (Some (set_of new_images))) is ∙ element_list-elements_of new_images

    may : MayHave cs (table j b many es) (Some p.content)
    may = (p.over, subst (λ t. IsContent t (stands cs p.content)) (sym multi) (subst (λ v. IsContent true v) (sym p.value) (images_content y old_images p.rising)))

    over_then : IsOver cs (table l e some fs)
    over_then = (puts cs (table j b many es) (table l e some fs) p.number (Some p.content) x then_in_form.over p.keyed p.keyed_then p.base p.point may p.put).0

    images_put : new ≡ put_images x new_images old
    images_put =
        (puts cs (table j b many es) (table l e some fs) p.number (Some p.content) x then_in_form.over p.keyed p.keyed_then p.base p.point may p.put).1
        ∙ ap (λ ys. put_images x ys old) (images_are many multi)

    one_more : new ≡ insert_datum (pair x y) old
    one_more =
        makes_pairs cs (table j b many es) (table l e some fs) p.number (Some p.content) x y then_in_form.over p.keyed p.keyed_then p.point p.put
        (images_are many multi ∙ ap (λ t. insert_datum y (images_of t (option_and_then (stands cs) (content_in es p.number)))) (sym multi))

    images_new : images x new ≡ new_images
    images_new =
        contents cs (table l e some fs) p.number x over_then p.keyed_then (subst (λ i. HasBase cs (table j i many es)) (sym p.put.1) p.base) (subst (λ i. value_at (base_at cs i) p.number ≡ Some x) (sym p.put.1) p.point)
        ∙ ap (λ o. images_of some (option_and_then (stands cs) o)) (p.put.3 p.number ∙ ap (λ t. cond t (Some p.content) (content_in es p.number)) (eq-eqb p.number p.number refl))
        ∙ images_are some (p.put.2 ∙ multi)

    others : (w : Datum) → is_eq (datum_cmp w x) ≡ false → images w new ≡ images w old
    others w t = ap (images w) one_more ∙ images_past w (pair x y) t old

    -- what the operators give

    shallow_then : depth (set_of new) ≤ 500
    shallow_then = subst (λ ds. depth (set_of ds) ≤ 500) (sym one_more) (depth_added x y old (part_tests d x px).0 (part_tests k y py).0 old_value.1)

    shallow_images : depth (set_of new_images) ≤ 500
    shallow_images =
        let lower : depth (set_of new_images) ≤ depth (set_of new) = subst (λ ds. depth (set_of new_images) ≤ depth (set_of ds)) (sym images_put) (shallower x new_images old) in
        omega (arith, lower, shallow_then)

    is_a_map : is_map old ≡ true
    is_a_map = all_pairs (multi_fits (datum_fits d) (datum_fits set_mode) old) refl old (sym (ap (λ ms. list_all (λ q. multi_fits (datum_fits d) (datum_fits set_mode) ms (pair_parts q)) ms) (element_list-elements_of old)) ∙ then_in_form.fits)

    images_give : (left : ℕ) → op_of Images (Some (set_of old) ∷ Some x ∷ []) left ≡ Gives (Some (set_of old_images)) 0
    images_give left =
        ap (on_map (λ f. set_value (images x f))) (element_list-elements_of old)
        ∙ ap (λ t. if t then set_value (images x old) else Fails KindFault) is_a_map
        ∙ ap (λ ds. set_value ds) images_old

    with_gives : (left : ℕ) → op_of With (Some (set_of old_images) ∷ Some y ∷ []) left ≡ Gives (Some (set_of new_images)) 0
    with_gives left = ap (λ ds. within_depth (set_of (insert_datum y ds))) (element_list-elements_of old_images) ∙ shallow (set_of new_images) shallow_images

    put_gives : (left : ℕ) → op_of PutImages (Some (set_of old) ∷ Some x ∷ Some (set_of new_images) ∷ []) left ≡ Gives (Some (set_of new)) 0
    put_gives left =
        ap (on_map (λ f. within_depth (set_of (put_images x (element_list (elements_of new_images)) f)))) (element_list-elements_of old)
        ∙ ap (λ t. if t then within_depth (set_of (put_images x (element_list (elements_of new_images)) old)) else Fails KindFault) is_a_map
        ∙ ap (λ ds. within_depth (set_of (put_images x ds old))) (element_list-elements_of new_images)
        ∙ ap (λ ds. within_depth (set_of ds)) (sym images_put)
        ∙ shallow (set_of new) shallow_then

    gives : (left : ℕ) → with_image (Some (set_of old)) x y left ≡ Gives (Some (set_of new)) 0
    gives left =
        ap (λ o. then_with o left (λ s now. then_with (op_of With (s ∷ Some y ∷ []) now) now (λ w later. op_of PutImages (Some (set_of old) ∷ Some x ∷ w ∷ []) later))) (images_give left)
        ∙ ap (adding 0) (inner (left - 0))
      where
        inner : (now : ℕ) → then_with (op_of With (Some (set_of old_images) ∷ Some y ∷ []) now) now (λ w later. op_of PutImages (Some (set_of old) ∷ Some x ∷ w ∷ []) later) ≡ Gives (Some (set_of new)) 0
        inner now = ap (λ o. then_with o now (λ w later. op_of PutImages (Some (set_of old) ∷ Some x ∷ w ∷ []) later)) (with_gives now) ∙ ap (adding 0) (put_gives (now - 0))

    -- the new map fits

    has_mode : cond (datum_fits d x) (Some set_mode) None ≡ Some set_mode
    has_mode = ap (λ t. cond t (Some set_mode) None) (part_tests d x px).1

    images_were : datum_fits set_mode (set_of old_images) ≡ true
    images_were = (images_fit map_mode set_mode (Some x) (Some (set_of old)) (Some (set_of old_images)) 0 0 has_mode (old_value.0, then_in_form.fits) (images_give 0)).1

    images_fit_then : datum_fits set_mode (set_of new_images) ≡ true
    images_fit_then =
        ap (list_all (datum_fits k)) (element_list-elements_of new_images)
        ∙ all_inserted (datum_fits k) y old_images (part_tests k y py).1 (sym (ap (list_all (datum_fits k)) (element_list-elements_of old_images)) ∙ images_were)

    fits_then : datum_fits map_mode (set_of new) ≡ true
    fits_then = set_puts map_mode set_mode (Some x) (Some (set_of old)) (Some (set_of new_images)) (Some (set_of new)) 0 0 has_mode (old_value.0, then_in_form.fits) images_fit_then (put_gives 0)

    formed_then : ElementsAreWellFormed (elements_of new)
    formed_then = subst (λ ds. ElementsAreWellFormed (elements_of ds)) (sym one_more) (formed_inserted (pair x y) old ((vx.0, (vy.0, tt)), tt) old_value.0.0)

    -- its places

    abbrev new_at : ℕ → Datum → List Datum
    new_at i = at_points (elements_at i d) (elements_at i set_mode) new

    has_at : (i : ℕ) (z : Datum) (ds : List Datum) → has_datum z (elements_at i map_mode (set_of ds)) ≡ has_datum z (flat_map (at_points (elements_at i d) (elements_at i set_mode) ds) ds)
    has_at i z ds = ap (λ ms. has_datum z (flat_map (at_points (elements_at i d) (elements_at i set_mode) ms) ms)) (element_list-elements_of ds)

    in_set : (i : ℕ) (z : Datum) (ys : List Datum) → has_datum z (elements_at i set_mode (set_of ys)) ≡ has_datum z (flat_map (elements_at i k) ys)
    in_set i z ys = ap (λ ms. has_datum z (flat_map (elements_at i k) ms)) (element_list-elements_of ys)

    abbrev IsPlaceBefore : ℕ → Datum → Type 0
    IsPlaceBefore i z = (has_datum z (elements_at i map_mode part) ≡ true) ⊎ (has_datum z (elements_at i map_mode (set_of old)) ≡ true)

    in_old : (i : ℕ) (z : Datum) (ys : List Datum) → images x old ≡ ys → has_datum z (flat_map (elements_at i k) ys) ≡ true → has_datum z (elements_at i map_mode (set_of old)) ≡ true
    in_old i z [] is q = absurd (false≢true q)
    in_old i z (w ∷ ws) is q =
        has_at i z old ∙ point_in z x (elements_at i d) (elements_at i set_mode) old old w ws is (ap (λ ys. has_datum z (elements_at i set_mode (set_of ys))) is ∙ in_set i z (w ∷ ws) ∙ q)

    images_places : (i : ℕ) (z : Datum) → has_datum z (elements_at i set_mode (set_of (images x new))) ≡ true → IsPlaceBefore i z
    images_places i z q =
        elim (of_inserted z (elements_at i k) y old_images (sym (in_set i z new_images) ∙ sym (ap (λ ys. has_datum z (elements_at i set_mode (set_of ys))) images_new) ∙ q)) [
          | inl s ↦ inl (in_part a g d k x y i z (inr s))
          | inr s ↦ inr (in_old i z old_images images_old s)
        ]

    places_of_pair : (i : ℕ) (z : Datum) → has_datum z (new_at i (pair x y)) ≡ true → IsPlaceBefore i z
    places_of_pair i z q = elim (of_both z (elements_at i d x) (elements_at i set_mode (set_of (images x new))) q) [ inl t ↦ inl (in_part a g d k x y i z (inl t)) | inr t ↦ images_places i z t ]

    new_places : (i : ℕ) (z : Datum) → has_datum z (elements_at i map_mode (set_of new)) ≡ true → IsPlaceBefore i z
    new_places i z q =
        elim (of_inserted z (new_at i) (pair x y) old (sym (ap (λ ds. has_datum z (flat_map (new_at i) ds)) one_more) ∙ sym (has_at i z new) ∙ q)) [
          | inl s ↦ places_of_pair i z s
          | inr s ↦ elim (of_points z x (elements_at i d) (elements_at i set_mode) new old old others s) [ inl t ↦ images_places i z t | inr t ↦ inr (has_at i z old ∙ t) ]
        ]

    pair_places : (i : ℕ) (z : Datum) → (has_datum z (elements_at i d x) ≡ true) ⊎ (has_datum z (elements_at i k y) ≡ true) → has_datum z (new_at i (pair x y)) ≡ true
    pair_places i z (inl t) = in_first z (elements_at i d x) (elements_at i set_mode (set_of (images x new))) t
    pair_places i z (inr t) =
        in_second z (elements_at i d x) (elements_at i set_mode (set_of (images x new)))
        (ap (λ ys. has_datum z (elements_at i set_mode (set_of ys))) images_new ∙ in_set i z new_images ∙ in_inserted z (elements_at i k) y old_images t)

    part_places : (i : ℕ) (z : Datum) → has_datum z (elements_at i map_mode part) ≡ true → has_datum z (elements_at i map_mode (set_of new)) ≡ true
    part_places i z q = has_at i z new ∙ ap (λ ds. has_datum z (flat_map (new_at i) ds)) one_more ∙ in_inserted z (new_at i) (pair x y) old (pair_places i z (of_part a g d k x y i z q))

    found_before : PlacesAreFound bs n map_mode (set_of old)
    found_before = subst (λ v. ArePlacesFound bs n map_mode v) (sym same_value) h.found

    found_then : PlacesAreFound cs n map_mode (set_of new)
    found_then i z q = elim (new_places i z q) [ inl s ↦ (members map_mode part n bs cs h.there long).1 i z s | inr s ↦ then_in_form.found i z s ]

    lengthened_alike : AreLengthened map_mode (set_of new) n bs cs
    lengthened_alike = alike map_mode map_mode (set_of new) part n bs cs part_places (λ i z q. elim (new_places i z q) [ inl s ↦ inl s | inr s ↦ inr (found_before i z s) ]) long

    -- its form

    content_form : HasForm (named cs n) set_mode p.content
    content_form = elim p.form [
      | inl q ↦ q
      | inr w ↦ form_alike (named cs n) g k w.0 p.content w.2
          (form_at (HasForm (named cs n) set_mode) es (map_forms (named cs n) (place_of a d) (HasForm (named cs n) set_mode) j b many es then_in_form.form) p.number w.0 w.1)
    ]

    form_then : HasFormOrOm (named cs n) map_mode (table l e some fs)
    form_then =
        other_table (named cs n) (place_of a d) true (HasForm (named cs n) set_mode) j l b e many some es fs p.put.0 p.put.1 p.put.2
        (form_put (HasForm (named cs n) set_mode) p.number (Some p.content) es fs p.keyed_then (λ c w. let same : p.content ≡ c = cc in subst (HasForm (named cs n) set_mode) same content_form) p.put.3) then_in_form.form

    tables_update : IsUpdate map_mode n (with_image (stands bs (table j b many es)) x y) bs cs (table j b many es) (table l e some fs) (Ok true)
    tables_update = record {
      held = record {
        there = then_in_form.there;
        over = over_then;
        form = form_then;
        fits = fits_then;
        value = value_of_set new formed_then (gathers (pairs_in cs (base_at cs e) some fs)).rising shallow_then;
        found = found_then;
      };
      value = λ t left. ap (λ v. with_image v x y left) (sym same_value) ∙ gives left;
      lengthened = λ t. (set_of new, refl, lengthened_alike);
      nothing = λ t. absurd (false≢true (sym t));
      refused = tt;
    }

  added_update : (f q : Form) → is_some (table_of f) ≡ true → IsInForm bs n map_mode f → AreLengthened map_mode part n bs cs → IsImageAdded cs n set_mode x y f q → IsUpdate map_mode n (with_image (stands bs f) x y) bs cs f q (Ok true)
  added_update (table j b many es) (table l e some fs) t h long p = tables_update j l b e many some es fs h long p
  added_update (table j b many es) om t h long p = absurd p.put
  added_update (table j b many es) (plain v) t h long p = absurd p.put
  added_update (table j b many es) (element c v) t h long p = absurd p.put
  added_update (table j b many es) (numbers l c ns) t h long p = absurd p.put
  added_update (table j b many es) (handles c hs) t h long p = absurd p.put
  added_update om q t h long p = absurd (false≢true t)
  added_update (plain v) q t h long p = absurd (false≢true t)
  added_update (element c v) q t h long p = absurd (false≢true t)
  added_update (numbers l c ns) q t h long p = absurd (false≢true t)
  added_update (handles c hs) q t h long p = absurd (false≢true t)

  pub update_of_added : (m s : Mode) (f q : Form) → m ≡ MultiMaps a d s → s ≡ set_mode → is_some (table_of f) ≡ true → IsInForm bs n m f → AreLengthened m part n bs cs → IsImageAdded cs n s x y f q → IsUpdate m n (with_image (stands bs f) x y) bs cs f q (Ok true)
  update_of_added m s f q is_map_mode is_set t h long p =
      let e : m ≡ map_mode = is_map_mode ∙ ap (MultiMaps a d) is_set in
      subst (λ z. IsUpdate z n (with_image (stands bs f) x y) bs cs f q (Ok true)) (sym e)
      (added_update f q t (subst (λ z. IsInForm bs n z f) e h) (subst (λ z. AreLengthened z part n bs cs) e long) (subst (λ z. IsImageAdded cs n z x y f q) is_set p))

-- ---- before the update

pub no_element : (name : ℕ → BaseId) (o : Option (Layout × ℕ)) (b : BaseId) (e : Elt) → IsSetForm name o (element b e) → ⊥
no_element name None b e h = h
no_element name (Some p) b e h = h

pub no_table : (name : ℕ → BaseId) (o : Option (Layout × ℕ)) (l : Layout) (b : BaseId) (many : Bool) (es : Entries) → IsSetForm name o (table l b many es) → ⊥
no_table name None l b many es h = h
no_table name (Some p) l b many es h = h

pub no_handles : (name : ℕ → BaseId) (o : Option (Layout × ℕ)) (b : BaseId) (es : List (Option Elt)) → IsSetForm name o (handles b es) → ⊥
no_handles name None b es h = h
no_handles name (Some p) b es h = h

own_place : (c : ℕ) (t : Mode) (z : Datum) → has_datum z (elements_at c (Elements c t) z) ≡ true
own_place c t z = ap (λ u. has_datum z (cond u (z ∷ []) [])) (eq-eqb c c refl) ∙ or_left _ _ (itself z)

-- a set in the form of sets of this mode takes y, which has its places found
module _ (cs : BasesState) (n : ℕ) (y : Datum) where
  abbrev HasPlacesFound : Mode → Type 0
  HasPlacesFound t = (i : ℕ) (z : Datum) → has_datum z (elements_at i t y) ≡ true → IsSome (find (base_at cs (named cs n i)) z)

  numbers_take : (t : Mode) (o : Option Layout) (l : Layout) (b : BaseId) (ns : set.FinSet nat_cmp) → HasPlacesFound t → IsSetForm (named cs n) (placed o t) (numbers l b ns) → IsOver cs (numbers l b ns) → TakesMember cs (numbers l b ns) y
  numbers_take (Elements i t) (Some w) l b ns found h over = (over.0, over.1, subst (λ q. IsSome (find (base_at cs q) y)) (sym h.1) (found i y (own_place i t y)))
  numbers_take t None l b ns found h over = absurd h
  numbers_take General (Some w) l b ns found h over = absurd h
  numbers_take Integers (Some w) l b ns found h over = absurd h
  numbers_take Strings (Some w) l b ns found h over = absurd h
  numbers_take Booleans (Some w) l b ns found h over = absurd h
  numbers_take Atoms (Some w) l b ns found h over = absurd h
  numbers_take (Sets a m) (Some w) l b ns found h over = absurd h
  numbers_take (Tuples m) (Some w) l b ns found h over = absurd h
  numbers_take (SingleMaps a m r) (Some w) l b ns found h over = absurd h
  numbers_take (MultiMaps a m s) (Some w) l b ns found h over = absurd h

  pub takes_member : (g : Attribute) (t : Mode) (c : Form) → HasPlacesFound t → HasForm (named cs n) (Sets g t) c → IsOver cs c → IsContent true (stands cs c) → TakesMember cs c y
  takes_member g t (numbers l b ns) found h over content = numbers_take t (layout_of g) l b ns found h over
  takes_member g t (plain (datum.set ms)) found h over content = tt
  takes_member g t (plain (datum.bool v)) found h over content = absurd content
  takes_member g t (plain (datum.int v)) found h over content = absurd content
  takes_member g t (plain (datum.text v)) found h over content = absurd content
  takes_member g t (plain (datum.atom v)) found h over content = absurd content
  takes_member g t (plain (datum.tuple ps)) found h over content = absurd content
  takes_member g t om found h over content = absurd content
  takes_member g t (element b e) found h over content = absurd (no_element (named cs n) (place_of g t) b e h)
  takes_member g t (table l b many es) found h over content = absurd (no_table (named cs n) (place_of g t) l b many es h)
  takes_member g t (handles b es) found h over content = absurd (no_handles (named cs n) (place_of g t) b es h)

module _ (names : NamesStay) (members : PlacesAreMembers) (a g : Attribute) (d k : Mode) (x y : Datum) (n : ℕ) (bs cs : BasesState) (m s : Mode) (is_map_mode : m ≡ MultiMaps a d s) (is_set : s ≡ Sets g k)
    (there : BasesAreThere bs n m) (long : AreLengthened m (set_of (pair x y ∷ [])) n bs cs) where
  whole_mode : m ≡ MultiMaps a d (Sets g k)
  whole_mode = is_map_mode ∙ ap (MultiMaps a d) is_set

  place_found : (i : ℕ) (z : Datum) → has_datum z (elements_at i (MultiMaps a d (Sets g k)) (set_of (pair x y ∷ []))) ≡ true → IsSome (find (base_at cs (named cs n i)) z)
  place_found i z q = (members m (set_of (pair x y ∷ [])) n bs cs there long).1 i z (ap (λ t. has_datum z (elements_at i t (set_of (pair x y ∷ [])))) whole_mode ∙ q)

  point_is_found : (b : BaseId) → HasPointsOn (named bs n) d b → IsSome (find (base_at cs b) x)
  point_is_found b on =
      subst (λ i. IsSome (find (base_at cs i) x)) (names m (set_of (pair x y ∷ [])) n bs cs long n on.0 ∙ sym on.3)
      (place_found on.0 x (in_part a g d k x y on.0 x (inl (ap (λ t. has_datum x (elements_at on.0 t x)) on.2 ∙ own_place on.0 on.1 x))))

  pub added_point_is_found : (f : Form) (b : BaseId) (many : Bool) → table_of f ≡ Some (b, many) → HasFormOrOm (named bs n) m f → IsSome (find (base_at cs b) x)
  added_point_is_found f b many t h = by f t (subst (λ z. HasFormOrOm (named bs n) z f) is_map_mode h)
    where
      by : (f : Form) → table_of f ≡ Some (b, many) → HasFormOrOm (named bs n) (MultiMaps a d s) f → IsSome (find (base_at cs b) x)
      by (table l c u es) t h =
          let same : ◌≡◌ {A = BaseId × Bool} (c, u) (b, many) = cc in
          subst (λ i. IsSome (find (base_at cs i) x)) (ap (λ o. o.0) same) (point_is_found c (points_on (named bs n) (layout_of a) d true (HasForm (named bs n) s) l c u es h))
      by om t h = let no : ⊥ = cc in absurd no
      by (plain v) t h = let no : ⊥ = cc in absurd no
      by (element c v) t h = let no : ⊥ = cc in absurd no
      by (numbers l c ns) t h = let no : ⊥ = cc in absurd no
      by (handles c es) t h = let no : ⊥ = cc in absurd no

  pub added_image_is_found : (i : ℕ) (z : Datum) → has_datum z (elements_at i s (set_of (y ∷ []))) ≡ true → IsSome (find (base_at cs (named cs n i)) z)
  added_image_is_found i z q = place_found i z (of_one a g d k x y i z (sym (ap (λ t. has_datum z (elements_at i t (set_of (y ∷ [])))) is_set) ∙ q))

  pub added_bases_are_there : (b : ℕ) → mode_names b s ≡ true → IsThere cs (named cs n b)
  added_bases_are_there b e = (members m (set_of (pair x y ∷ [])) n bs cs there long).0 b (ap (mode_names b) is_map_mode ∙ or_right (mode_names b d) (mode_names b s) e)

  same_names : named cs n ≡ named bs n
  same_names = λ j b. names m (set_of (pair x y ∷ [])) n bs cs long n b j

  -- each content of the map takes the image
  pub contents_take : (f : Form) (q : ℕ) (c : Form) → HasFormOrOm (named bs n) m f → IsOver cs f → content_of f q ≡ Some c → TakesMember cs c y
  contents_take f q c h over is = by f (subst (λ z. HasFormOrOm (named cs n) z f) whole_mode (subst (λ name. HasFormOrOm name m f) (sym same_names) h)) over is
    where
      by : (f : Form) → HasFormOrOm (named cs n) (MultiMaps a d (Sets g k)) f → IsOver cs f → content_of f q ≡ Some c → TakesMember cs c y
      by (table l b many es) h over is =
          let at = over_at cs (base_at cs b) many es q c over.1 is in
          takes_member cs n y g k c (λ i z r. place_found i z (in_part a g d k x y i z (inr r))) (form_at (HasForm (named cs n) (Sets g k)) es (map_forms (named cs n) (place_of a d) (HasForm (named cs n) (Sets g k)) l b many es h) q c is) at.0
          (subst (λ t. IsContent t (stands cs c)) (is_multi (named cs n) (place_of a d) (HasForm (named cs n) (Sets g k)) l b many es h) at.1)
      by om h over is = let no : ⊥ = cc in absurd no
      by (plain v) h over is = let no : ⊥ = cc in absurd no
      by (element b v) h over is = let no : ⊥ = cc in absurd no
      by (numbers l b ns) h over is = let no : ⊥ = cc in absurd no
      by (handles b es) h over is = let no : ⊥ = cc in absurd no

-- a pair whose values at places are members
pub added_is_entered : MembersLengthenNothing → (m s : Mode) (a g : Attribute) (d k : Mode) (n : ℕ) (bs : BasesState) (x y : Datum) → m ≡ MultiMaps a d s → s ≡ Sets g k → PlacesAreFound bs n d x → PlacesAreFound bs n k y → AreLengthened m (set_of (pair x y ∷ [])) n bs bs
added_is_entered already m s a g d k n bs x y is_map_mode is_set fx fy = already m (set_of (pair x y ∷ [])) n bs found
  where
    found : PlacesAreFound bs n m (set_of (pair x y ∷ []))
    found b z h =
        elim (of_part a g d k x y b z (sym (ap (λ t. has_datum z (elements_at b t (set_of (pair x y ∷ [])))) (is_map_mode ∙ ap (MultiMaps a d) is_set)) ∙ h)) [ inl q ↦ fx b z q | inr q ↦ fy b z q ]

pub first_image_fits : (s : Mode) (g : Attribute) (k : Mode) (y : Datum) → s ≡ Sets g k → is_part k y ≡ true → datum_fits s (set_of (y ∷ [])) ≡ true
first_image_fits s g k y is p = ap (λ z. datum_fits z (set_of (y ∷ []))) is ∙ (λ i. (part_tests k y p).1 i && true)

pub added_part_fits : (m s : Mode) (a g : Attribute) (d k : Mode) (x y : Datum) → m ≡ MultiMaps a d s → s ≡ Sets g k → is_part d x ≡ true → is_part k y ≡ true → datum_fits m (set_of (pair x y ∷ [])) ≡ true
added_part_fits m s a g d k x y is_map_mode is_set px py = ap (λ z. datum_fits z (set_of (pair x y ∷ []))) (is_map_mode ∙ ap (MultiMaps a d) is_set) ∙ part_fits a g d k x y (part_tests d x px).1 (part_tests k y py).1

-- ---- an image that is added

-- what holds of an answer that is there
pub at_some : {X : Type 0} (P : X → Type 0) (o : Option X) (r : X) → o ≡ Some r → IfSome o P → P r
at_some P o r is h = subst (λ u. IfSome u P) is h

pub first_added : (bs : BasesState) (n : ℕ) (s : Mode) (x y : Datum) (f q : Form) (number : ℕ) (content : Form) → HasBase bs f → IsPoint bs f number x → IsOver bs content → stands bs content ≡ Some (set_of (y ∷ [])) → HasForm (named bs n) s content
    → IsKeyedForm f → IsKeyedForm q → content_of f number ≡ None → PutsContent number (Some content) f q → IsImageAdded bs n s x y f q
first_added bs n s x y f q number content base point over stood h keyed keyed_then none put = record {
  number = number;
  content = content;
  base = base;
  point = point;
  over = over;
  value = stood ∙ ap (λ o. Some (set_of (insert_datum y (images_of true (option_and_then (stands bs) o))))) (sym none);
  rising = subst (λ o. IsRising (insert_datum y (images_of true (option_and_then (stands bs) o)))) (sym none) (one_rises y);
  form = inl h;
  keyed = keyed;
  keyed_then = keyed_then;
  put = put;
}

pub more_added : (bs : BasesState) (n : ℕ) (s : Mode) (x y : Datum) (f q : Form) (number : ℕ) (was content : Form) → HasBase bs f → IsPoint bs f number x → content_of f number ≡ Some was → IsMemberPut bs true y was content → IsKeyedForm f → IsKeyedForm q → PutsContent number (Some content) f q
    → IsImageAdded bs n s x y f q
more_added bs n s x y f q number was content base point is w keyed keyed_then put = record {
  number = number;
  content = content;
  base = base;
  point = point;
  over = w.over;
  value = w.value ∙ ap (λ o. Some (set_of (insert_datum y (images_of true (option_and_then (stands bs) o))))) (sym is);
  rising = subst (λ o. IsRising (insert_datum y (images_of true (option_and_then (stands bs) o)))) (sym is) w.rising;
  form = inr (was, is, w.alike);
  keyed = keyed;
  keyed_then = keyed_then;
  put = put;
}
