-- An image goes out of those of a point of a map.
use Rattle.std.proofs.Common.{◌≡◌, ◌∙◌, ℕ, ◌+◌, ◌-◌, ◌≤◌, ◌==◌, Bool, true, false, not, ◌&&◌, ◌||◌, ◌⊎◌, inl, inr, cond, List, [], ◌∷◌, ◌++◌, map, length, Option, None, Some, Ok, refl, sym, ap, subst, arith, eqb-true, option_and_then}
use Rattle.std.specs.Bool.{if◌then◌else◌}
use Rattle.std.specs.Cmp.{nat_cmp_total}
use Rattle.std.specs.List.{AllByRecursion, Contains, filter, filter_map, flat_map, list_all, list_any, cons_option}
use Rattle.std.specs.List.Sorted.{IsStrictlyIncreasing, IsStrictlySortedBy}
use Rattle.std.specs.Option.{unwrap_or}
use Rattle.std.specs.FinSet as set
use Rattle.std.specs.declared.rc.Rc.{Rc}
use Rattle.std.specs.declared.alloc.Global.{Global}
use Rattle.std.specs.declared.cmp.Ordering.TheVariants.{Less}
use Rattle.std.specs.Ordering.{nat_cmp, eq_by_cmp, is_eq}
use Rattle.std.proofs.lemmas.Bool.{false≢true, or_left, or_right, or_cases, and_parts, and_from}
use Rattle.std.proofs.lemmas.List.Kept.{IsStrictlySortedBy-filter}
use Rattle.std.proofs.lemmas.Map.Keys.{sorted_from_strictly_increasing}
use Rattle.std.proofs.lemmas.Map.Views.{any-filter_same}
use Rattle.setl_value.specs.Datum.{Datum, tuple, part_then, no_part, element_then, depth, set_of, elements_of, element_list, element_list-elements_of}
use Rattle.setl_value.specs.Datum as datum
use Rattle.setl_value.specs.WellFormed.{IsValue}
use Rattle.setl_value.specs.Order.{datum_cmp, IsRising}
use Rattle.setl_value.specs.OrderLaws.{same_if_eq, eq_iff_same}
use Rattle.setl_value.specs.Pairs.{pair, pair_parts, first_of, second_of, is_datum, is_map, images, pairs_at}
use Rattle.setl_value.specs.code.Body.{Body, Members}
use Rattle.setl_value.specs.code.DatumOf.{datum as datum_of}
use Rattle.setl_value.specs.declared.Value.{Value}
use Rattle.setl_value.specs.declared.Value.TheVariants as variants
use Rattle.setl_set.specs.Sets.{has_datum, remove_datum}
use Rattle.setl_set.specs.Laws.{RisingListsAgree, TestsMembership, Gathers, Removes, Unites}
use Rattle.setl_map.specs.Maps.{without_point, put_images}
use Rattle.setl_map.specs.Laws.{ImagesByPairs}
use Rattle.setl_modes.specs.declared.mode.Form.{Form as Attribute}
use Rattle.setl_modes.specs.Modes.{Mode, General, Sets, MultiMaps}
use Rattle.setl_modes.specs.Fits.{datum_fits, multi_fits}
use Rattle.setl_modes_places.specs.Places.{elements_at, at_point}
use Rattle.setl_modes_parts.specs.Laws.{CombinedFit}
use Rattle.setl_operators_table.specs.declared.Operator.TheVariants.{Images, PutImages, Less as LessOf}
use Rattle.setl_operators_table.specs.Outcome.{Gives, Fails, KindFault, within_depth, set_value, adding, then_with}
use Rattle.setl_operators_table.specs.OutcomeLaws.{shallow}
use Rattle.setl_operators_table.specs.Collections.{on_map}
use Rattle.setl_operators_table.specs.Operators.{op_of}
use Rattle.setl_base.specs.Base.{BaseState, IsBase, find}
use Rattle.setl_rep_bases.specs.declared.BaseId.{BaseId}
use Rattle.setl_rep_bases.specs.Bases.{BasesState, base_at, named}
use Rattle.setl_rep_forms.specs.declared.held.Held.TheVariants as code
use Rattle.setl_rep_forms.specs.FormOf.{form, of_plain, of_remote, of_sparse}
use Rattle.setl_rep_forms.specs.Form.{Form, Layout, Entries, om, plain, element, numbers, table, handles}
use Rattle.setl_rep_forms.specs.Stands.{stands, images_in, members_at, pairs_in, AreLiving, IsOver, IsContent}
use Rattle.setl_rep_forms.specs.Laws.{CountsGoByNumber}
use Rattle.setl_rep_tables.specs.Tables.{content_in, images_of, table_pairs}
use Rattle.setl_rep_building.specs.HasForm.{place_of, HasForm, HasFormOrOm}
use Rattle.setl_rep_maps.specs.Contents.{table_of, content_of, IsTable, IsKeyedForm, IsPoint, MayHave, PutsContent}
use Rattle.setl_rep_maps.specs.Laws.{ContentsStandForImages, NoImagesElsewhere, PutsAreImages}
use Rattle.setl_rep_entering.specs.Entering.{AreLengthened}
use Rattle.setl_rep_entering.specs.Laws.{PlacesAreFound, PartsLengthenAlike}
use Rattle.setl_rep_updates.specs.InForm.{IsInForm}
use Rattle.setl_rep_updates.specs.Updates.{has_image_sets, less_image, IsUpdate}
use Rattle.setl_rep_updates.specs.code.Added.{held_members, AreSetsAlike, HasSeveral, IsContentCut, IsImageCut, IsImageSet, IsLeft, IsMemberPut, IsSetHeld}
use Rattle.setl_rep_updates.proofs.Including.{itself, value_of_set}
use Rattle.setl_rep_updates.proofs.Contents.{form_at, form_put}
use Rattle.setl_rep_updates.proofs.Imaging.{of_both, in_first, in_second, all_pairs, other, depth_kept, formed_kept, other_table}
use Rattle.setl_rep_updates.proofs.Cutting.{at_points, no_places, none_out, none_put, not_lengthened}
use Rattle.setl_rep_updates.proofs.Adding.{form_alike, is_multi, map_forms, no_element, no_handles, no_table, over_at, rising_content}

-- ---- members of filtered lists, and of pairs

has_filtered : (z : Datum) (keep : Datum → Bool) (ds : List Datum) → has_datum z (filter keep ds) ≡ (keep z && has_datum z ds)
has_filtered z keep ds = any-filter_same (λ e. is_eq (datum_cmp z e)) keep (keep z) (λ e t. ap keep (sym (same_if_eq z e t))) ds

of_pairs : (x : Datum) (ys : List Datum) (p : Datum) → has_datum p (map (pair x) ys) ≡ true → (w : Datum) × (has_datum w ys ≡ true) × (p ≡ pair x w)
of_pairs x [] p h = absurd (false≢true h)
of_pairs x (y ∷ ys) p h = elim (or_cases (is_eq (datum_cmp p (pair x y))) (has_datum p (map (pair x) ys)) h) [
  | inl e ↦ (y, or_left (is_eq (datum_cmp y y)) (has_datum y ys) (itself y), same_if_eq p (pair x y) e)
  | inr r ↦ let w = of_pairs x ys p r in (w.0, or_right (is_eq (datum_cmp w.0 y)) (has_datum w.0 ys) w.1, w.2)
]

in_pairs : (x : Datum) (ys : List Datum) (w : Datum) → has_datum w ys ≡ true → has_datum (pair x w) (map (pair x) ys) ≡ true
in_pairs x [] w h = absurd (false≢true h)
in_pairs x (y ∷ ys) w h = elim (or_cases (is_eq (datum_cmp w y)) (has_datum w ys) h) [
  | inl e ↦ or_left (is_eq (datum_cmp (pair x w) (pair x y))) (has_datum (pair x w) (map (pair x) ys)) ((eq_iff_same (pair x w) (pair x y)).1 (ap (pair x) (same_if_eq w y e)))
  | inr r ↦ or_right (is_eq (datum_cmp (pair x w) (pair x y))) (has_datum (pair x w) (map (pair x) ys)) (in_pairs x ys w r)
]

-- a pair at a point
pair_at : (x d : Datum) → is_datum x (first_of (pair_parts d)) ≡ true → (w : Datum) × (d ≡ pair x w)
pair_at x (tuple (part_then a (part_then w no_part))) h = (w, ap (λ z. pair z w) (sym (same_if_eq x a h)))
pair_at x d h = absurd (false≢true h)

same_second : (x y a b : Datum) → pair x y ≡ pair a b → y ≡ b
same_second x y a b e = ap (λ d. unwrap_or (second_of (pair_parts d)) y) e

abbrev apart_from : Datum → Datum → Bool
apart_from d e = not (is_eq (datum_cmp d e))

apart : (d e : Datum) → (e ≡ d → ⊥) → apart_from d e ≡ true
apart d e h = by (is_eq (datum_cmp d e)) refl
  where
    by : (t : Bool) → is_eq (datum_cmp d e) ≡ t → not t ≡ true
    by true s = absurd (h (sym (same_if_eq d e s)))
    by false s = refl

not_apart : (d e : Datum) → apart_from d e ≡ true → e ≡ d → ⊥
not_apart d e h same = false≢true (sym (ap not ((eq_iff_same d e).1 (sym same))) ∙ h)

-- the images of x without y are put: the pair of x and y goes
module _ (agree : RisingListsAgree) (tests : TestsMembership) (removes : Removes) (unites : Unites) (by_pairs : ImagesByPairs) (x y : Datum) (f : List Datum) (rising : IsRising f) where
  abbrev rest : List Datum
  rest = remove_datum y (images x f)

  forth : (p : Datum) → Contains (without_point x f) p ⊎ Contains (map (pair x) rest) p → Contains f p × (p ≡ pair x y → ⊥)
  forth p (inl h) =
      let q = and_parts (other x p) (has_datum p f) (sym (has_filtered p (other x) f) ∙ (tests p (without_point x f)).1 h) in
      ((tests p f).0 q.1, λ e. false≢true (sym (ap not (itself x)) ∙ sym (ap (other x) e) ∙ q.0))
  forth p (inr h) =
      let w = of_pairs x rest p ((tests p (map (pair x) rest)).1 h) in
      let q = and_parts (apart_from y w.0) (has_datum w.0 (images x f)) (sym (has_filtered w.0 (apart_from y) (images x f)) ∙ w.1) in
      (subst (Contains f) (sym w.2) ((by_pairs x w.0 f).0 ((tests w.0 (images x f)).0 q.1)), λ e. not_apart y w.0 q.0 (same_second x w.0 x y (sym w.2 ∙ e)))

  back : (p : Datum) → Contains f p × (p ≡ pair x y → ⊥) → Contains (without_point x f) p ⊎ Contains (map (pair x) rest) p
  back p h = by (is_datum x (first_of (pair_parts p))) refl
    where
      by : (t : Bool) → is_datum x (first_of (pair_parts p)) ≡ t → Contains (without_point x f) p ⊎ Contains (map (pair x) rest) p
      by false e = inl ((tests p (without_point x f)).0 (has_filtered p (other x) f ∙ and_from (other x p) (has_datum p f) (ap not e) ((tests p f).1 h.0)))
      by true e =
          let q = pair_at x p e in
          let there : has_datum q.0 (images x f) ≡ true = (tests q.0 (images x f)).1 ((by_pairs x q.0 f).1 (subst (Contains f) q.1 h.0)) in
          let kept : has_datum q.0 rest ≡ true = has_filtered q.0 (apart_from y) (images x f) ∙ and_from (apart_from y q.0) (has_datum q.0 (images x f)) (apart y q.0 (λ s. h.1 (q.1 ∙ ap (pair x) s))) there in
          inr (subst (Contains (map (pair x) rest)) (sym q.1) ((tests (pair x q.0) (map (pair x) rest)).0 (in_pairs x rest q.0 kept)))

  pair_goes : put_images x rest f ≡ remove_datum (pair x y) f
  pair_goes =
      let left = unites (without_point x f) (map (pair x) rest) in
      let right = removes (pair x y) f rising in
      agree (put_images x rest f) (remove_datum (pair x y) f) left.rising right.rising (λ p. (λ h. (right.members p).1 (forth p ((left.members p).0 h)), λ h. (left.members p).1 (back p ((right.members p).0 h))))

-- ---- the places of some pairs of a map with sets of images

in_more : (z : Datum) (range : Datum → List Datum) (o : Option Datum) (l : List Datum) → has_datum z (flat_map range l) ≡ true → has_datum z (flat_map range (cons_option o l)) ≡ true
in_more z range None l h = h
in_more z range (Some w) l h = in_second z (range w) (flat_map range l) h

-- those of the images of a point
module _ (z x : Datum) (range : Datum → List Datum) (keep : Datum → Bool) where
  both_more : (o : Option Datum) (l m : List Datum) → (has_datum z (flat_map range l) ≡ true → has_datum z (flat_map range m) ≡ true) → has_datum z (flat_map range (cons_option o l)) ≡ true → has_datum z (flat_map range (cons_option o m)) ≡ true
  both_more None l m r h = r h
  both_more (Some w) l m r h = elim (of_both z (range w) (flat_map range l) h) [ inl q ↦ in_first z (range w) (flat_map range m) q | inr q ↦ in_second z (range w) (flat_map range m) (r q) ]

  -- the images in a list of pairs at a point, with those of d where it is such a pair
  abbrev images_with : Datum → Bool → List Datum → List Datum
  images_with d u l = filter_map (λ e. second_of (pair_parts e)) (cond u (d ∷ l) l)

  of_images_kept : (ds : List Datum) → has_datum z (flat_map range (images x (filter keep ds))) ≡ true → has_datum z (flat_map range (images x ds)) ≡ true
  of_images_kept [] h = h
  of_images_kept (d ∷ ds) h = by (keep d) h (of_images_kept ds)
    where
      one_kept : (u : Bool) → (has_datum z (flat_map range (images x (filter keep ds))) ≡ true → has_datum z (flat_map range (images x ds)) ≡ true)
          → has_datum z (flat_map range (images_with d u (pairs_at x (filter keep ds)))) ≡ true → has_datum z (flat_map range (images_with d u (pairs_at x ds))) ≡ true
      one_kept true r h = both_more (second_of (pair_parts d)) (images x (filter keep ds)) (images x ds) r h
      one_kept false r h = r h

      one_more : (u : Bool) → has_datum z (flat_map range (images x ds)) ≡ true → has_datum z (flat_map range (images_with d u (pairs_at x ds))) ≡ true
      one_more true h = in_more z range (second_of (pair_parts d)) (images x ds) h
      one_more false h = h

      by : (t : Bool) → has_datum z (flat_map range (images x (if t then d ∷ filter keep ds else filter keep ds))) ≡ true → (has_datum z (flat_map range (images x (filter keep ds))) ≡ true → has_datum z (flat_map range (images x ds)) ≡ true)
          → has_datum z (flat_map range (images x (d ∷ ds))) ≡ true
      by true h r = one_kept (is_datum x (first_of (pair_parts d))) r h
      by false h r = one_more (is_datum x (first_of (pair_parts d))) (r h)

module _ (z : Datum) (i : ℕ) (g : Attribute) (d k : Mode) (keep : Datum → Bool) where
  abbrev range : Datum → List Datum
  range = elements_at i (Sets g k)

  abbrev points : List Datum → Datum → List Datum
  points f = at_points (elements_at i d) range f

  in_set : (ys : List Datum) → has_datum z (range (set_of ys)) ≡ has_datum z (flat_map (elements_at i k) ys)
  in_set ys = ap (λ ms. has_datum z (flat_map (elements_at i k) ms)) (element_list-elements_of ys)

  of_point_kept : (f : List Datum) (o : Option (Datum × Datum)) → has_datum z (at_point (elements_at i d) range (filter keep f) o) ≡ true → has_datum z (at_point (elements_at i d) range f o) ≡ true
  of_point_kept f None h = h
  of_point_kept f (Some o) h = elim (of_both z (elements_at i d o.0) (range (set_of (images o.0 (filter keep f)))) h) [
    | inl q ↦ in_first z (elements_at i d o.0) (range (set_of (images o.0 f))) q
    | inr q ↦ in_second z (elements_at i d o.0) (range (set_of (images o.0 f))) (in_set (images o.0 f) ∙ of_images_kept z o.0 (elements_at i k) keep f (sym (in_set (images o.0 (filter keep f))) ∙ q))
  ]

  of_points_kept : (f ds : List Datum) → has_datum z (flat_map (points (filter keep f)) (filter keep ds)) ≡ true → has_datum z (flat_map (points f) ds) ≡ true
  of_points_kept f [] h = h
  of_points_kept f (e ∷ ds) h = by (keep e) h (of_points_kept f ds)
    where
      by : (t : Bool) → has_datum z (flat_map (points (filter keep f)) (if t then e ∷ filter keep ds else filter keep ds)) ≡ true → (has_datum z (flat_map (points (filter keep f)) (filter keep ds)) ≡ true → has_datum z (flat_map (points f) ds) ≡ true)
          → has_datum z (points f e ++ flat_map (points f) ds) ≡ true
      by true h r = elim (of_both z (points (filter keep f) e) (flat_map (points (filter keep f)) (filter keep ds)) h) [
        | inl q ↦ in_first z (points f e) (flat_map (points f) ds) (of_point_kept f (pair_parts e) q)
        | inr q ↦ in_second z (points f e) (flat_map (points f) ds) (r q)
      ]
      by false h r = in_second z (points f e) (flat_map (points f) ds) (r h)

-- ---- the update

module _ (agree : RisingListsAgree) (tests : TestsMembership) (removes : Removes) (gathers : Gathers) (unites : Unites) (by_pairs : ImagesByPairs) (combined : CombinedFit) (contents : ContentsStandForImages) (none : NoImagesElsewhere) (puts : PutsAreImages)
    (alike : PartsLengthenAlike) (a g : Attribute) (d k : Mode) (n : ℕ) (x y : Datum) (bs : BasesState) where
  abbrev set_mode : Mode
  set_mode = Sets g k

  abbrev map_mode : Mode
  map_mode = MultiMaps a d set_mode

  abbrev IsCut : Form → Form → Type 0
  IsCut f q = IsUpdate map_mode n (less_image (stands bs f) x y) bs bs f q (Ok true)

  -- the same with the tables before and after
  module _ (j l : Layout) (b e : BaseId) (many some : Bool) (es fs : Entries) (h : IsInForm bs n map_mode (table j b many es)) (over_then : IsOver bs (table l e some fs)) (form_then : HasFormOrOm (named bs n) map_mode (table l e some fs))
      (images_put : table_pairs bs (base_at bs e) some fs ≡ put_images x (remove_datum y (images x (table_pairs bs (base_at bs b) many es))) (table_pairs bs (base_at bs b) many es)) where
    abbrev old : List Datum
    old = table_pairs bs (base_at bs b) many es

    abbrev new : List Datum
    new = table_pairs bs (base_at bs e) some fs

    abbrev left : List Datum
    left = remove_datum y (images x old)

    abbrev keep : Datum → Bool
    keep = apart_from (pair x y)

    one_less : new ≡ remove_datum (pair x y) old
    one_less = images_put ∙ pair_goes agree tests removes unites by_pairs x y old (gathers (pairs_in bs (base_at bs b) many es)).rising

    old_value : IsValue (set_of old)
    old_value = h.value

    value_then : IsValue (set_of new)
    value_then =
        let lower : depth (set_of (remove_datum (pair x y) old)) ≤ 500 = omega (arith, depth_kept keep old, old_value.1) in
        subst (λ ds. IsValue (set_of ds)) (sym one_less)
        (value_of_set (remove_datum (pair x y) old) (formed_kept keep old old_value.0.0) (IsStrictlySortedBy-filter datum_cmp keep old (gathers (pairs_in bs (base_at bs b) many es)).rising) lower)

    is_a_map : is_map old ≡ true
    is_a_map = all_pairs (multi_fits (datum_fits d) (datum_fits set_mode) old) refl old (sym (ap (λ ms. list_all (λ q. multi_fits (datum_fits d) (datum_fits set_mode) ms (pair_parts q)) ms) (element_list-elements_of old)) ∙ h.fits)

    -- what the operators give

    images_give : (turns : ℕ) → op_of Images (Some (set_of old) ∷ Some x ∷ []) turns ≡ Gives (Some (set_of (images x old))) 0
    images_give turns = ap (on_map (λ f. set_value (images x f))) (element_list-elements_of old) ∙ ap (λ t. if t then set_value (images x old) else Fails KindFault) is_a_map

    less_gives : (turns : ℕ) → op_of LessOf (Some (set_of (images x old)) ∷ Some y ∷ []) turns ≡ Gives (Some (set_of left)) 0
    less_gives turns = ap (λ ds. set_value (remove_datum y ds)) (element_list-elements_of (images x old))

    put_gives : (turns : ℕ) → op_of PutImages (Some (set_of old) ∷ Some x ∷ Some (set_of left) ∷ []) turns ≡ Gives (Some (set_of new)) 0
    put_gives turns =
        ap (on_map (λ f. within_depth (set_of (put_images x (element_list (elements_of left)) f)))) (element_list-elements_of old)
        ∙ ap (λ t. if t then within_depth (set_of (put_images x (element_list (elements_of left)) old)) else Fails KindFault) is_a_map
        ∙ ap (λ ds. within_depth (set_of (put_images x ds old))) (element_list-elements_of left)
        ∙ ap (λ ds. within_depth (set_of ds)) (sym images_put)
        ∙ shallow (set_of new) value_then.1

    gives : (turns : ℕ) → less_image (Some (set_of old)) x y turns ≡ Gives (Some (set_of new)) 0
    gives turns =
        ap (λ o. then_with o turns (λ s now. then_with (op_of LessOf (s ∷ Some y ∷ []) now) now (λ w later. op_of PutImages (Some (set_of old) ∷ Some x ∷ w ∷ []) later))) (images_give turns)
        ∙ ap (adding 0) (inner (turns - 0))
      where
        inner : (now : ℕ) → then_with (op_of LessOf (Some (set_of (images x old)) ∷ Some y ∷ []) now) now (λ w later. op_of PutImages (Some (set_of old) ∷ Some x ∷ w ∷ []) later) ≡ Gives (Some (set_of new)) 0
        inner now = ap (λ o. then_with o now (λ w later. op_of PutImages (Some (set_of old) ∷ Some x ∷ w ∷ []) later)) (less_gives now) ∙ ap (adding 0) (put_gives (now - 0))

    -- the new map fits, as the old one without the pair

    pair_out : op_of LessOf (Some (set_of old) ∷ Some (pair x y) ∷ []) 0 ≡ Gives (Some (set_of new)) 0
    pair_out = ap (λ ds. set_value (remove_datum (pair x y) ds)) (element_list-elements_of old) ∙ ap (λ ds. set_value ds) (sym one_less)

    has_at : (i : ℕ) (z : Datum) (ds : List Datum) → has_datum z (elements_at i map_mode (set_of ds)) ≡ has_datum z (flat_map (at_points (elements_at i d) (elements_at i set_mode) ds) ds)
    has_at i z ds = ap (λ ms. has_datum z (flat_map (at_points (elements_at i d) (elements_at i set_mode) ms) ms)) (element_list-elements_of ds)

    found_then : PlacesAreFound bs n map_mode (set_of new)
    found_then i z q =
        h.found i z
        (has_at i z old
        ∙ of_points_kept z i g d k keep old old (sym (has_at i z (filter keep old)) ∙ sym (ap (λ ds. has_datum z (elements_at i map_mode (set_of ds))) one_less) ∙ q))

    not_longer : AreLengthened map_mode (set_of new) n bs bs
    not_longer = alike map_mode General (set_of new) no_places n bs bs (λ i z q. absurd (false≢true q)) (λ i z q. inr (found_then i z q)) (not_lengthened n bs)

    tables_cut : IsCut (table j b many es) (table l e some fs)
    tables_cut = record {
      held = record {
        there = h.there;
        over = over_then;
        form = form_then;
        fits = combined LessOf map_mode (Some (set_of old)) (Some (pair x y)) (Some (set_of new)) 0 0 refl (old_value.0, h.fits) pair_out;
        value = value_then;
        found = found_then;
      };
      value = λ t turns. gives turns;
      lengthened = λ t. (set_of new, refl, not_longer);
      nothing = λ t. absurd (false≢true (sym t));
      refused = tt;
    }

  -- the content of the point is another or none, or the point is no member of the base
  abbrev pairs_now : BaseId → Bool → Entries → List Datum
  pairs_now b many es = table_pairs bs (base_at bs b) many es

  cut_tables : (j : Layout) (b : BaseId) (many : Bool) (es : Entries) (q : Form) → IsInForm bs n map_mode (table j b many es) → IsImageCut bs b x y (table j b many es) q → IsCut (table j b many es) q
  cut_tables j b many es q h p = elim p.cut [
    | inl w ↦ by q w.0 w.1 w.2 p.keyed_then
    | inr w ↦ subst (IsCut (table j b many es)) (sym w.1) (tables_cut j j b b many many es es h h.over h.form (sym (no_images w.0)))
  ]
    where
      multi : many ≡ true
      multi = is_multi (named bs n) (place_of a d) (HasForm (named bs n) set_mode) j b many es h.form

      no_images : find (base_at bs b) x ≡ None → put_images x (remove_datum y (images x (pairs_now b many es))) (pairs_now b many es) ≡ (pairs_now b many es)
      no_images w =
          let is : images x (pairs_now b many es) ≡ [] = none bs (table j b many es) b many x refl p.keyed p.base w in
          ap (λ ys. put_images x (remove_datum y ys) (pairs_now b many es)) is ∙ none_put agree gathers x true (pairs_now b many es) (gathers (pairs_in bs (base_at bs b) many es)).rising ∙ none_out x (pairs_now b many es) is

      may_have : (was now : Option Form) → IsLeft bs was now → MayHave bs (table j b many es) now
      may_have was None w = tt
      may_have was (Some c) w = (w.0, subst (λ t. IsContent t (stands bs c)) (sym multi) w.1)

      left_form : (number : ℕ) (now : Option Form) → IsLeft bs (content_in es number) now → (c : Form) → now ≡ Some c → HasForm (named bs n) set_mode c
      left_form number None w c e = let no : ⊥ = cc in absurd no
      left_form number (Some v) w c e =
          let same : v ≡ c = cc in
          subst (HasForm (named bs n) set_mode) same
          (form_alike (named bs n) g k w.2.0 v w.2.2
          (form_at (HasForm (named bs n) set_mode) es (map_forms (named bs n) (place_of a d) (HasForm (named bs n) set_mode) j b many es h.form) number w.2.0 w.2.1))

      by : (q : Form) (number : ℕ) → IsPoint bs (table j b many es) number x → IsContentCut bs number y (table j b many es) q → IsKeyedForm q → IsCut (table j b many es) q
      by (table l e some fs) number point c keyed =
          let done = puts bs (table j b many es) (table l e some fs) number c.content x h.over p.keyed keyed p.base point (may_have (content_in es number) c.content c.left) c.put in
          let were : images x (pairs_now b many es) ≡ images_of true (option_and_then (stands bs) (content_in es number)) =
          contents bs (table j b many es) number x h.over p.keyed p.base point ∙ ap (λ t. images_of t (option_and_then (stands bs) (content_in es number))) multi in
          let form_then : HasFormOrOm (named bs n) map_mode (table l e some fs) =
          other_table (named bs n) (place_of a d) true (HasForm (named bs n) set_mode) j l b e many some es fs c.put.0 c.put.1 c.put.2
          (form_put (HasForm (named bs n) set_mode) number c.content es fs keyed (left_form number c.content c.left) c.put.3) h.form in
          tables_cut j l b e many some es fs h done.0 form_then
          (done.1 ∙ ap (λ ys. put_images x ys (pairs_now b many es)) (ap (λ t. images_of t (option_and_then (stands bs) c.content)) multi ∙ c.images ∙ ap (remove_datum y) (sym were)))
      by om number point c keyed = absurd c.put
      by (plain v) number point c keyed = absurd c.put
      by (element i v) number point c keyed = absurd c.put
      by (numbers l i ns) number point c keyed = absurd c.put
      by (handles i vs) number point c keyed = absurd c.put

  cut_forms : (b : BaseId) (many : Bool) (f q : Form) → table_of f ≡ Some (b, many) → IsInForm bs n map_mode f → IsImageCut bs b x y f q → IsCut f q
  cut_forms b many (table j i some es) q t h p =
      let same : ◌≡◌ {A = BaseId × Bool} (i, some) (b, many) = cc in
      cut_tables j i some es q h (subst (λ o. IsImageCut bs o x y (table j i some es) q) (sym (ap (λ o. o.0) same)) p)
  cut_forms b many om q t h p = let no : ⊥ = cc in absurd no
  cut_forms b many (plain v) q t h p = let no : ⊥ = cc in absurd no
  cut_forms b many (element c v) q t h p = let no : ⊥ = cc in absurd no
  cut_forms b many (numbers l c ns) q t h p = let no : ⊥ = cc in absurd no
  cut_forms b many (handles c vs) q t h p = let no : ⊥ = cc in absurd no

abbrev image_modes : Mode → Type 0
image_modes m = (a : Attribute) × (g : Attribute) × (d : Mode) × (k : Mode) × (m ≡ MultiMaps a d (Sets g k))

of_image_sets : (m : Mode) → has_image_sets m ≡ true → image_modes m
of_image_sets (MultiMaps a d (Sets g k)) s = (a, g, d, k, refl)
of_image_sets m s = absurd (false≢true s)

pub image_is_cut : RisingListsAgree → TestsMembership → Removes → Gathers → Unites → ImagesByPairs → CombinedFit → ContentsStandForImages → NoImagesElsewhere → PutsAreImages → PartsLengthenAlike → (m : Mode) (n : ℕ) (x y : Datum) (bs : BasesState) (b : BaseId) (many : Bool) (f q : Form)
    → has_image_sets m ≡ true → table_of f ≡ Some (b, many) → IsInForm bs n m f → IsImageCut bs b x y f q → IsUpdate m n (less_image (stands bs f) x y) bs bs f q (Ok true)
image_is_cut agree tests removes gathers unites by_pairs combined contents none puts alike m n x y bs b many f q s t h p =
    let w = of_image_sets m s in
    subst (λ z. IsUpdate z n (less_image (stands bs f) x y) bs bs f q (Ok true)) (sym w.4)
    (cut_forms agree tests removes gathers unites by_pairs combined contents none puts alike w.0 w.1 w.2 w.3 n x y bs b many f q t (subst (λ z. IsInForm bs n z f) w.4 h) p)

-- ---- before the update: the contents are sets

set_held : (bs : BasesState) (name : ℕ → BaseId) (g : Attribute) (k : Mode) (c : Form) → HasForm name (Sets g k) c → IsContent true (stands bs c) → IsSetHeld c
set_held bs name g k (numbers l b ns) h content = tt
set_held bs name g k (plain (datum.set ms)) h content = tt
set_held bs name g k (plain (datum.bool v)) h content = absurd content
set_held bs name g k (plain (datum.int v)) h content = absurd content
set_held bs name g k (plain (datum.text v)) h content = absurd content
set_held bs name g k (plain (datum.atom v)) h content = absurd content
set_held bs name g k (plain (datum.tuple ps)) h content = absurd content
set_held bs name g k om h content = absurd content
set_held bs name g k (element b e) h content = absurd (no_element name (place_of g k) b e h)
set_held bs name g k (table l b many es) h content = absurd (no_table name (place_of g k) l b many es h)
set_held bs name g k (handles b es) h content = absurd (no_handles name (place_of g k) b es h)

pub contents_are_sets : (m : Mode) (n : ℕ) (bs : BasesState) (f : Form) → has_image_sets m ≡ true → IsInForm bs n m f → (q : ℕ) (c : Form) → content_of f q ≡ Some c → IsImageSet bs c
contents_are_sets m n bs f s h q c is = let w = of_image_sets m s in by w.0 w.1 w.2 w.3 f (subst (λ z. HasFormOrOm (named bs n) z f) w.4 h.form) h.over is
  where
    by : (a g : Attribute) (d k : Mode) (f : Form) → HasFormOrOm (named bs n) (MultiMaps a d (Sets g k)) f → IsOver bs f → content_of f q ≡ Some c → IsImageSet bs c
    by a g d k (table l b many es) h over is =
        let at = over_at bs (base_at bs b) many es q c over.1 is in
        let content : IsContent true (stands bs c) = subst (λ t. IsContent t (stands bs c)) (is_multi (named bs n) (place_of a d) (HasForm (named bs n) (Sets g k)) l b many es h) at.1 in
        record {
          held = set_held bs (named bs n) g k c (form_at (HasForm (named bs n) (Sets g k)) es (map_forms (named bs n) (place_of a d) (HasForm (named bs n) (Sets g k)) l b many es h) q c is) content;
          over = at.0;
          content = content;
        }
    by a g d k om h over is = let no : ⊥ = cc in absurd no
    by a g d k (plain v) h over is = let no : ⊥ = cc in absurd no
    by a g d k (element b v) h over is = let no : ⊥ = cc in absurd no
    by a g d k (numbers l b ns) h over is = let no : ⊥ = cc in absurd no
    by a g d k (handles b es) h over is = let no : ⊥ = cc in absurd no

-- ---- an image goes out of a content

not_there : (y : Datum) (ds : List Datum) → has_datum y ds ≡ false → remove_datum y ds ≡ ds
not_there y [] h = refl
not_there y (d ∷ ds) h = by (is_eq (datum_cmp y d)) h (not_there y ds)
  where
    by : (t : Bool) → (t || has_datum y ds) ≡ false → (has_datum y ds ≡ false → remove_datum y ds ≡ ds) → (if not t then d ∷ remove_datum y ds else remove_datum y ds) ≡ d ∷ ds
    by true h r = absurd (false≢true (sym h))
    by false h r = ap (λ l. d ∷ l) (r h)

only_one : (y : Datum) (ds : List Datum) → length ds ≡ 1 → has_datum y ds ≡ true → remove_datum y ds ≡ []
only_one y [] l h = absurd (false≢true h)
only_one y (d ∷ []) l h = elim (or_cases (is_eq (datum_cmp y d)) false h) [ inl e ↦ ap (λ t. if not t then d ∷ [] else []) e | inr e ↦ absurd (false≢true e) ]
only_one y (d ∷ e ∷ ds) l h = absurd (omega (arith, l))

-- one of several goes
some_stay : (y : Datum) (ds : List Datum) → IsRising ds → has_datum y ds ≡ true → (length ds ≡ 1 → ⊥) → (w : Datum) × (ws : List Datum) × (remove_datum y ds ≡ w ∷ ws)
unfolding IsStrictlySortedBy
some_stay y [] r h several = absurd (false≢true h)
some_stay y (d ∷ []) r h several = absurd (several refl)
some_stay y (d ∷ e ∷ ds) r h several = by (is_eq (datum_cmp y d)) refl
  where
    by : (t : Bool) → is_eq (datum_cmp y d) ≡ t → (w : Datum) × (ws : List Datum) × (remove_datum y (d ∷ e ∷ ds) ≡ w ∷ ws)
    by false q = (d, remove_datum y (e ∷ ds), ap (λ t. if not t then d ∷ remove_datum y (e ∷ ds) else remove_datum y (e ∷ ds)) q)
    by true q =
        let other : is_eq (datum_cmp y e) ≡ false = ap (λ z. is_eq (datum_cmp z e)) (same_if_eq y d q) ∙ ap is_eq r.0.0 in (
          e,
          remove_datum y ds,
          ap (λ t. if not t then d ∷ remove_datum y (e ∷ ds) else remove_datum y (e ∷ ds)) q ∙ ap (λ t. if not t then e ∷ remove_datum y ds else remove_datum y ds) other,
        )

pub content_rises : (v : Option Datum) → IsContent true v → IsRising (images_of true v)
content_rises (Some (datum.set (element_then d ms))) h = h
content_rises v h = absurd h

alike_itself : (c : Form) → IsSetHeld c → AreSetsAlike c c
alike_itself (numbers l b ns) h = (refl, refl)
alike_itself (plain (datum.set ms)) h = tt
alike_itself c h = absurd h

same_put : (n : ℕ) (f : Form) → IsTable f → PutsContent n (content_of f n) f f
same_put n (table l b many es) t = (refl, refl, refl, λ q. by q (n == q) refl)
  where
    by : (q : ℕ) (t : Bool) → (n == q) ≡ t → content_in es q ≡ cond t (content_in es n) (content_in es q)
    by q true e = ap (content_in es) (sym (eqb-true n q e))
    by q false e = refl
same_put n f t = absurd t

-- the content has no such image
pub nothing_cut : (bs : BasesState) (n : ℕ) (y : Datum) (f : Form) → IsTable f → ((c : Form) → content_of f n ≡ Some c → IsImageSet bs c) → has_datum y (images_of true (option_and_then (stands bs) (content_of f n))) ≡ false → IsContentCut bs n y f f
nothing_cut bs n y f t sets lacks = record {
  content = content_of f n;
  put = same_put n f t;
  left = by (content_of f n) sets;
  images = sym (not_there y (images_of true (option_and_then (stands bs) (content_of f n))) lacks);
}
  where
    by : (o : Option Form) → ((c : Form) → o ≡ Some c → IsImageSet bs c) → IsLeft bs o o
    by None s = tt
    by (Some c) s = let w = s c refl in (w.over, w.content, (c, refl, alike_itself c w.held))

-- it is the one image
pub all_cut : (bs : BasesState) (n : ℕ) (y : Datum) (f g c : Form) → content_of f n ≡ Some c → has_datum y (held_members bs c) ≡ true → length (held_members bs c) ≡ 1 → PutsContent n None f g → IsContentCut bs n y f g
all_cut bs n y f g c is has one put = record {
  content = None;
  put = put;
  left = tt;
  images = sym (ap (λ o. remove_datum y (images_of true (option_and_then (stands bs) o))) is ∙ only_one y (held_members bs c) one has);
}

-- it is one of several
pub one_cut : (bs : BasesState) (n : ℕ) (y : Datum) (f g was now : Form) → content_of f n ≡ Some was → HasSeveral bs y (content_of f n) → IsMemberPut bs false y was now → PutsContent n (Some now) f g → IsContentCut bs n y f g
one_cut bs n y f g was now is several w put =
    let s : HasSeveral bs y (Some was) = subst (HasSeveral bs y) is several in
    let stays = some_stay y (held_members bs was) (s.1) s.2 s.3 in
    record {
      content = Some now;
      put = put;
      left = (w.over, subst (IsContent true) (sym w.value) (rising_content (remove_datum y (held_members bs was)) stays.0 stays.1 stays.2 w.rising), (was, is, w.alike));
      images = ap (images_of true) w.value ∙ element_list-elements_of (remove_datum y (held_members bs was)) ∙ ap (λ o. remove_datum y (images_of true (option_and_then (stands bs) o))) (sym is);
    }

-- ---- the members of a set by how it is held

pub remote_members : (bs : BasesState) (b : BaseId) (ns : set.FinSet nat_cmp) → held_members bs (form (code.Remote b ns)) ≡ members_at (base_at bs b) ns
remote_members bs b ns = ap (held_members bs) (of_remote b ns) ∙ element_list-elements_of (members_at (base_at bs b) ns)

pub sparse_members : (bs : BasesState) (b : BaseId) (ns : Rc (set.FinSet nat_cmp) Global) → held_members bs (form (code.Sparse b ns)) ≡ members_at (base_at bs b) ns.value
sparse_members bs b ns = ap (held_members bs) (of_sparse b ns) ∙ element_list-elements_of (members_at (base_at bs b) ns.value)

pub plain_members : (bs : BasesState) (v : Value) → held_members bs (form (code.Plain v)) ≡ images_in (datum_of v)
plain_members bs v = ap (held_members bs) (of_plain v)

pub set_members : (s : Body) → images_in (datum_of (variants.Set s)) ≡ Members s
set_members s = element_list-elements_of (Members s)

-- ---- sets of numbers

none_at : (x : ℕ) (xs : List ℕ) → AllByRecursion (λ q. nat_cmp x q ≡ Less) xs → list_any (eq_by_cmp nat_cmp x) xs ≡ false
none_at x [] a = refl
none_at x (q ∷ xs) a = (λ i. is_eq (a.0 i) || none_at x xs a.1 i)

-- a list of different numbers is as long as its set
count_of : (xs : List ℕ) → IsStrictlySortedBy nat_cmp xs → set.len (set.from_list {R = nat_cmp} xs) ≡ length xs
unfolding IsStrictlySortedBy
count_of [] s = set.len-empty nat_cmp
count_of (x ∷ xs) s =
    set.len-insert nat_cmp_total (set.from_list xs) x
    ∙ ap (λ t. cond t (set.len (set.from_list {R = nat_cmp} xs)) (set.len (set.from_list {R = nat_cmp} xs) + 1)) (set.contains-from_list nat_cmp_total xs x ∙ none_at x xs s.0)
    ∙ omega (arith, count_of xs s.1)

pub members_of_list : CountsGoByNumber → (b : BaseState) (ns : set.FinSet nat_cmp) (xs : List ℕ) → IsBase b → AreLiving b ns → IsStrictlyIncreasing xs → set.from_list xs ≡ ns → length xs ≡ length (members_at b ns)
members_of_list counts b ns xs base living rising is = sym (count_of xs (sorted_from_strictly_increasing xs rising)) ∙ ap set.len is ∙ sym (counts b ns base living)
