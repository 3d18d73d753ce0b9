-- A point of a map loses its images.
use Rattle.std.proofs.Common.{◌≡◌, ◌∙◌, ℕ, ◌≤◌, Bool, true, false, not, inl, inr, cond, List, [], ◌∷◌, ◌++◌, Option, None, Some, Ok, refl, sym, ap, subst, arith}
use Rattle.std.specs.Bool.{if◌then◌else◌}
use Rattle.std.specs.List.{Contains, filter, filter_map, flat_map, list_all, cons_option}
use Rattle.std.specs.Option.{option_map}
use Rattle.std.specs.Ordering.{is_eq}
use Rattle.std.proofs.lemmas.Bool.{false≢true}
use Rattle.std.proofs.lemmas.List.Kept.{IsStrictlySortedBy-filter}
use Rattle.setl_value.specs.Datum.{Datum, bool, depth, set_of, elements_of, element_list-elements_of}
use Rattle.setl_value.specs.WellFormed.{ElementsAreWellFormed, IsValue}
use Rattle.setl_value.specs.Order.{datum_cmp, IsRising}
use Rattle.setl_value.specs.OrderLaws.{same_if_eq, eq_iff_same}
use Rattle.setl_value.specs.Pairs.{pair_parts, first_of, second_of, is_datum, is_map, images, pairs_at}
use Rattle.setl_set.specs.Sets.{has_datum, set_from}
use Rattle.setl_set.specs.Laws.{IsSetOf, RisingListsAgree, Gathers}
use Rattle.setl_map.specs.Maps.{without_point, put_images}
use Rattle.setl_modes.specs.declared.mode.Form.{Form as Attribute}
use Rattle.setl_modes.specs.Modes.{Mode, General, Integers, Strings, Booleans, Atoms, Elements, Sets, Tuples, SingleMaps, MultiMaps}
use Rattle.setl_modes.specs.Fits.{datum_fits, single_fits, multi_fits}
use Rattle.setl_modes_places.specs.Places.{elements_at, at_point}
use Rattle.setl_modes_parts.specs.Laws.{CombinedFit}
use Rattle.setl_operators_table.specs.declared.Operator.TheVariants.{Put, Lessf}
use Rattle.setl_operators_table.specs.Outcome.{Outcome, Gives, Fails, KindFault, within_depth, set_value}
use Rattle.setl_operators_table.specs.OutcomeLaws.{shallow}
use Rattle.setl_operators_table.specs.Collections.{on_map}
use Rattle.setl_operators_table.specs.Operators.{op_of}
use Rattle.setl_base.specs.Base.{BaseState}
use Rattle.setl_rep_bases.specs.declared.BaseId.{BaseId}
use Rattle.setl_rep_bases.specs.declared.tables.Instance.{Instance}
use Rattle.setl_rep_bases.specs.Bases.{BasesState, base_at, instance_at, named}
use Rattle.setl_rep_forms.specs.Form.{Form, Layout, Entries, om, plain, element, numbers, table, handles}
use Rattle.setl_rep_forms.specs.Stands.{stands, pairs_in, IsOver}
use Rattle.setl_rep_tables.specs.Tables.{images_of, table_pairs}
use Rattle.setl_rep_building.specs.HasForm.{place_of, base_of, content_mode, HaveForms, IsSetForm, IsTupleForm, HasForm, HasFormOrOm}
use Rattle.setl_rep_maps.specs.Contents.{table_of, IsPoint, IsKeyedForm, PutsContent}
use Rattle.setl_rep_maps.specs.Laws.{NoImagesElsewhere, PutsAreImages}
use Rattle.setl_rep_entering.specs.Entering.{AreLengthened, is_named, places_in, with_values, lengthened_by}
use Rattle.setl_rep_entering.specs.Laws.{PlacesAreFound, PartsLengthenAlike}
use Rattle.setl_rep_updates.specs.InForm.{IsInForm}
use Rattle.setl_rep_updates.specs.Updates.{IsUpdate}
use Rattle.setl_rep_updates.specs.code.Imaged.{IsPointCut}
use Rattle.setl_rep_updates.proofs.Including.{value_of_set}
use Rattle.setl_rep_updates.proofs.Contents.{form_put}
use Rattle.setl_rep_updates.proofs.Imaging.{at, all_pairs, other, of_both, in_first, in_second, of_kept, depth_kept, formed_kept, other_table}

-- ---- a value without places lengthens no base

append_nothing : {X : Type 0} (xs : List X) → xs ++ [] ≡ xs
append_nothing [] = refl
append_nothing (x ∷ xs) = ap (λ l. x ∷ l) (append_nothing xs)

with_nothing : (b : BaseState) → with_values b [] ≡ b
with_nothing b = ap (λ l. record b { members = l }) (append_nothing b.members)

abbrev pub no_places : Datum
no_places = bool true

nothing_in : (bs : BasesState) (n : ℕ) (i : BaseId) → places_in bs n General no_places i ≡ []
nothing_in bs n i = by (is_named bs n i)
  where
    by : (t : Bool) → ◌≡◌ {A = List Datum} (if t then [] else []) []
    by true = refl
    by false = refl

pub not_lengthened : (n : ℕ) (bs : BasesState) → AreLengthened General no_places n bs bs
not_lengthened n bs = record { count = refl; instances = λ i. by i (instance_at bs i) }
  where
    by : (i : BaseId) (o : Option Instance) → o ≡ option_map (lengthened_by (places_in bs n General no_places i)) o
    by i None = refl
    by i (Some x) = ap (λ z. Some z) (sym (ap (λ l. lengthened_by l x) (nothing_in bs n i) ∙ ap (λ c. record x { base = c }) (with_nothing x.base)))

-- ---- a map without a point

abbrev second : Datum → Option Datum
second p = second_of (pair_parts p)

has_second : (x : Datum) (o : Option (Datum × Datum)) (l : List Datum) → is_datum x (first_of o) ≡ true → cons_option (second_of o) l ≡ [] → ⊥
has_second x None l e h = false≢true e
has_second x (Some o) l e h = cc

-- without an image, nothing is taken out
pub none_out : (x : Datum) (f : List Datum) → images x f ≡ [] → without_point x f ≡ f
none_out x [] h = refl
none_out x (d ∷ f) h = by (is_datum x (first_of (pair_parts d))) refl h (none_out x f)
  where
    by : (t : Bool) → is_datum x (first_of (pair_parts d)) ≡ t → filter_map second (cond t (d ∷ pairs_at x f) (pairs_at x f)) ≡ [] → (images x f ≡ [] → without_point x f ≡ f) → cond (not t) (d ∷ without_point x f) (without_point x f) ≡ d ∷ f
    by true e h rest = absurd (has_second x (pair_parts d) (filter_map second (pairs_at x f)) e h)
    by false e h rest = ap (λ l. d ∷ l) (rest h)

-- another point has the images that it had
not_first : (x z : Datum) (o : Option (Datum × Datum)) → (z ≡ x → ⊥) → is_datum x (first_of o) ≡ true → is_datum z (first_of o) ≡ false
not_first x z None h e = refl
not_first x z (Some o) h e = by (is_eq (datum_cmp z o.0)) refl
  where
    by : (t : Bool) → is_eq (datum_cmp z o.0) ≡ t → is_eq (datum_cmp z o.0) ≡ false
    by true s = absurd (h (same_if_eq z o.0 s ∙ sym (same_if_eq x o.0 e)))
    by false s = s

pub same_front : (z d : Datum) (f g : List Datum) → images z f ≡ images z g → images z (d ∷ f) ≡ images z (d ∷ g)
same_front z d f g h = by (is_datum z (first_of (pair_parts d)))
  where
    by : (t : Bool) → filter_map second (cond t (d ∷ pairs_at z f) (pairs_at z f)) ≡ filter_map second (cond t (d ∷ pairs_at z g) (pairs_at z g))
    by true = ap (cons_option (second d)) h
    by false = h

others_stay : (x z : Datum) (f : List Datum) → (z ≡ x → ⊥) → images z (without_point x f) ≡ images z f
others_stay x z [] h = refl
others_stay x z (d ∷ f) h = by (is_datum x (first_of (pair_parts d))) refl (others_stay x z f h)
  where
    by : (t : Bool) → is_datum x (first_of (pair_parts d)) ≡ t → images z (without_point x f) ≡ images z f → images z (cond (not t) (d ∷ without_point x f) (without_point x f)) ≡ images z (d ∷ f)
    by true e r = r ∙ ap (λ t. filter_map second (cond t (d ∷ pairs_at z f) (pairs_at z f))) (sym (not_first x z (pair_parts d) h e))
    by false e r = same_front z d (without_point x f) f r

-- ---- modes of maps

-- the places of the pairs that are kept, with all images of a point
at_kept : (x : Datum) (first images : Datum → List Datum) (f : List Datum) (o : Option (Datum × Datum)) → not (is_datum x (first_of o)) ≡ true → at_point first images (without_point x f) o ≡ at_point first images f o
at_kept x first images f None h = refl
at_kept x first images f (Some o) h =
    ap (λ l. first o.0 ++ images (set_of l)) (others_stay x o.0 f (λ e. false≢true (sym (ap not ((eq_iff_same x o.0).1 (sym e))) ∙ h)))

abbrev pub at_points : (first images : Datum → List Datum) → List Datum → Datum → List Datum
at_points first images f p = at_point first images f (pair_parts p)

of_points_kept : (z x : Datum) (first images : Datum → List Datum) (f ds : List Datum) → has_datum z (flat_map (at_points first images (without_point x f)) (filter (other x) ds)) ≡ true → has_datum z (flat_map (at_points first images f) ds) ≡ true
of_points_kept z x first images f [] h = h
of_points_kept z x first images f (d ∷ ds) h = by (other x d) refl h (of_points_kept z x first images f ds)
  where
    by : (t : Bool) → other x d ≡ t → has_datum z (flat_map (at_points first images (without_point x f)) (cond t (d ∷ filter (other x) ds) (filter (other x) ds))) ≡ true
        → (has_datum z (flat_map (at_points first images (without_point x f)) (filter (other x) ds)) ≡ true → has_datum z (flat_map (at_points first images f) ds) ≡ true) → has_datum z (flat_map (at_points first images f) (d ∷ ds)) ≡ true
    by true e h r = elim (of_both z (at_points first images (without_point x f) d) (flat_map (at_points first images (without_point x f)) (filter (other x) ds)) h) [
      | inl q ↦ in_first z (at_points first images f d) (flat_map (at_points first images f) ds) (ap (has_datum z) (sym (at_kept x first images f (pair_parts d) e)) ∙ q)
      | inr q ↦ in_second z (at_points first images f d) (flat_map (at_points first images f) ds) (r q)
    ]
    by false e h r = in_second z (at_points first images f d) (flat_map (at_points first images f) ds) (r h)

-- what is so of a mode in whose form a table is
record IsOfMaps (name : ℕ → BaseId) (m : Mode) : Type 0 where
  maps : (f : List Datum) → datum_fits m (set_of f) ≡ true → is_map f ≡ true
  places : (x : Datum) (i : ℕ) (z : Datum) (f : List Datum) → has_datum z (elements_at i m (set_of (without_point x f))) ≡ true → has_datum z (elements_at i m (set_of f)) ≡ true
  form : (k l : Layout) (b e : BaseId) (many some : Bool) (es fs : Entries) → l ≡ k → e ≡ b → some ≡ many → (HaveForms (HasForm name (content_mode m)) es → HaveForms (HasForm name (content_mode m)) fs)
      → HasFormOrOm name m (table k b many es) → HasFormOrOm name m (table l e some fs)

of_single_maps : (name : ℕ → BaseId) (a : Attribute) (d r : Mode) → IsOfMaps name (SingleMaps a d r)
of_single_maps name a d r = record {
  maps = λ f h. all_pairs (single_fits (datum_fits d) (datum_fits r) f) refl f (sym (ap (λ ms. list_all (λ q. single_fits (datum_fits d) (datum_fits r) ms (pair_parts q)) ms) (element_list-elements_of f)) ∙ h);
  places = λ x i z f q.
      ap (λ ms. has_datum z (flat_map (at d r i) ms)) (element_list-elements_of f)
      ∙ of_kept z (at d r i) (other x) f (sym (ap (λ ms. has_datum z (flat_map (at d r i) ms)) (element_list-elements_of (without_point x f))) ∙ q);
  form = λ k l b e many some es fs lk eb sm go h. other_table name (place_of a d) false (HasForm name r) k l b e many some es fs lk eb sm go h;
}

of_multi_maps : (name : ℕ → BaseId) (a : Attribute) (d s : Mode) → IsOfMaps name (MultiMaps a d s)
of_multi_maps name a d s = record {
  maps = λ f h. all_pairs (multi_fits (datum_fits d) (datum_fits s) f) refl f (sym (ap (λ ms. list_all (λ q. multi_fits (datum_fits d) (datum_fits s) ms (pair_parts q)) ms) (element_list-elements_of f)) ∙ h);
  places = λ x i z f q.
      ap (λ ms. has_datum z (flat_map (at_points (elements_at i d) (elements_at i s) ms) ms)) (element_list-elements_of f)
      ∙ of_points_kept z x (elements_at i d) (elements_at i s) f f
      (sym (ap (λ ms. has_datum z (flat_map (at_points (elements_at i d) (elements_at i s) ms) ms)) (element_list-elements_of (without_point x f))) ∙ q);
  form = λ k l b e many some es fs lk eb sm go h. other_table name (place_of a d) true (HasForm name s) k l b e many some es fs lk eb sm go h;
}

no_set : (name : ℕ → BaseId) (o : Option (Layout × ℕ)) (k : Layout) (b : BaseId) (many : Bool) (es : Entries) → IsSetForm name o (table k b many es) → ⊥
no_set name None k b many es h = h
no_set name (Some p) k b many es h = h

no_tuple : (name : ℕ → BaseId) (o : Option ℕ) (k : Layout) (b : BaseId) (many : Bool) (es : Entries) → IsTupleForm name o (table k b many es) → ⊥
no_tuple name None k b many es h = h
no_tuple name (Some c) k b many es h = h

of_maps : (name : ℕ → BaseId) (m : Mode) (k : Layout) (b : BaseId) (many : Bool) (es : Entries) → HasFormOrOm name m (table k b many es) → IsOfMaps name m
of_maps name (SingleMaps a d r) k b many es h = of_single_maps name a d r
of_maps name (MultiMaps a d s) k b many es h = of_multi_maps name a d s
of_maps name General k b many es h = absurd h
of_maps name Integers k b many es h = absurd h
of_maps name Strings k b many es h = absurd h
of_maps name Booleans k b many es h = absurd h
of_maps name Atoms k b many es h = absurd h
of_maps name (Elements c m) k b many es h = absurd h
of_maps name (Sets a m) k b many es h = absurd (no_set name (place_of a m) k b many es h)
of_maps name (Tuples m) k b many es h = absurd (no_tuple name (base_of m) k b many es h)

-- ---- the update

-- with no images, a point is taken out
module _ (agree : RisingListsAgree) (gathers : Gathers) where
  pub none_put : (x : Datum) (many : Bool) (f : List Datum) → IsRising f → put_images x (images_of many None) f ≡ without_point x f
  none_put x many f r = ap (λ ys. put_images x ys f) (no_images many) ∙ ap set_from (append_nothing (without_point x f)) ∙ agree (set_from (without_point x f)) (without_point x f) g.rising (IsStrictlySortedBy-filter datum_cmp (other x) f r) g.members
    where
      no_images : (many : Bool) → images_of many None ≡ []
      no_images true = refl
      no_images false = refl

      g : IsSetOf (λ d. Contains (without_point x f) d) (set_from (without_point x f))
      g = gathers (without_point x f)

module _ (agree : RisingListsAgree) (gathers : Gathers) (combined : CombinedFit) (alike : PartsLengthenAlike) (none : NoImagesElsewhere) (puts : PutsAreImages) (m : Mode) (n : ℕ) (x : Datum) (bs : BasesState) where
  -- the updates that take a point out
  abbrev AreCuts : Form → Form → Type 0
  AreCuts f g = IsUpdate m n (op_of Put (stands bs f ∷ Some x ∷ None ∷ [])) bs bs f g (Ok true) × IsUpdate m n (op_of Lessf (stands bs f ∷ Some x ∷ [])) bs bs f g (Ok true)

  -- the same with the tables before and after
  module _ (k l : Layout) (b e : BaseId) (many some : Bool) (es fs : Entries) (h : IsInForm bs n m (table k b many es)) (without_it : table_pairs bs (base_at bs e) some fs ≡ without_point x (table_pairs bs (base_at bs b) many es)) (over_then : IsOver bs (table l e some fs))
      (form_then : HasFormOrOm (named bs n) m (table l e some fs)) where
    abbrev old : List Datum
    old = table_pairs bs (base_at bs b) many es

    abbrev new : List Datum
    new = table_pairs bs (base_at bs e) some fs

    mode : IsOfMaps (named bs n) m
    mode = of_maps (named bs n) m k b many es h.form

    old_value : IsValue (set_of old)
    old_value = h.value

    value_then : IsValue (set_of new)
    value_then =
        let lower : depth (set_of (without_point x old)) ≤ 500 = omega (arith, depth_kept (other x) old, old_value.1) in
        value_of_set new (subst (λ ds. ElementsAreWellFormed (elements_of ds)) (sym without_it) (formed_kept (other x) old old_value.0.0)) (gathers (pairs_in bs (base_at bs e) some fs)).rising (subst (λ ds. depth (set_of ds) ≤ 500) (sym without_it) lower)

    is_a_map : is_map old ≡ true
    is_a_map = mode.maps old h.fits

    gives : (left : ℕ) → op_of Put (Some (set_of old) ∷ Some x ∷ None ∷ []) left ≡ Gives (Some (set_of new)) 0
    gives left =
        ap (on_map (λ f. within_depth (set_of (without_point x f)))) (element_list-elements_of old)
        ∙ ap (λ t. if t then within_depth (set_of (without_point x old)) else Fails KindFault) is_a_map
        ∙ ap (λ ds. within_depth (set_of ds)) (sym without_it)
        ∙ shallow (set_of new) value_then.1

    gives_less : (left : ℕ) → op_of Lessf (Some (set_of old) ∷ Some x ∷ []) left ≡ Gives (Some (set_of new)) 0
    gives_less left =
        ap (on_map (λ f. set_value (without_point x f))) (element_list-elements_of old)
        ∙ ap (λ t. if t then set_value (without_point x old) else Fails KindFault) is_a_map
        ∙ ap (λ ds. set_value ds) (sym without_it)

    found_then : PlacesAreFound bs n m (set_of new)
    found_then i z q = h.found i z (mode.places x i z old (sym (ap (λ ds. has_datum z (elements_at i m (set_of ds))) without_it) ∙ q))

    not_longer : AreLengthened m (set_of new) n bs bs
    not_longer = alike m General (set_of new) no_places n bs bs (λ i z q. absurd (false≢true q)) (λ i z q. inr (found_then i z q)) (not_lengthened n bs)

    cut_by : (o : ℕ → Outcome) → ((left : ℕ) → o left ≡ Gives (Some (set_of new)) 0) → IsUpdate m n o bs bs (table k b many es) (table l e some fs) (Ok true)
    cut_by o is = record {
      held = record {
        there = h.there;
        over = over_then;
        form = form_then;
        fits = combined Lessf m (Some (set_of old)) (Some x) (Some (set_of new)) 0 0 refl (old_value.0, h.fits) (gives_less 0);
        value = value_then;
        found = found_then;
      };
      value = λ t left. is left;
      lengthened = λ t. (set_of new, refl, not_longer);
      nothing = λ t. absurd (false≢true (sym t));
      refused = tt;
    }

    are_cuts : AreCuts (table k b many es) (table l e some fs)
    are_cuts = (cut_by (op_of Put (Some (set_of old) ∷ Some x ∷ None ∷ [])) gives, cut_by (op_of Lessf (Some (set_of old) ∷ Some x ∷ [])) gives_less)

  -- a content is taken out, or the point is no member of the base
  cut_tables : (k : Layout) (b : BaseId) (many : Bool) (es : Entries) (g : Form) → IsInForm bs n m (table k b many es) → IsPointCut bs b x (table k b many es) g → AreCuts (table k b many es) g
  cut_tables k b many es g h p = elim p.cut [
    | inl w ↦ by g w.0 w.1 w.2 p.keyed_then
    | inr w ↦ subst (AreCuts (table k b many es)) (sym w.1) (are_cuts k k b b many many es es h (sym (none_out x (table_pairs bs (base_at bs b) many es) (none bs (table k b many es) b many x refl p.keyed p.base w.0))) h.over h.form)
  ]
    where
      by : (g : Form) (q : ℕ) → IsPoint bs (table k b many es) q x → PutsContent q None (table k b many es) g → IsKeyedForm g → AreCuts (table k b many es) g
      by (table l e some fs) q point put keyed =
          let done = puts bs (table k b many es) (table l e some fs) q None x h.over p.keyed keyed p.base point tt put in
          are_cuts k l b e many some es fs h (done.1 ∙ none_put agree gathers x many (table_pairs bs (base_at bs b) many es) (gathers (pairs_in bs (base_at bs b) many es)).rising) done.0
          ((of_maps (named bs n) m k b many es h.form).form k l b e many some es fs put.0 put.1 put.2 (form_put (HasForm (named bs n) (content_mode m)) q None es fs keyed (λ c w. let no : ⊥ = cc in absurd no) put.3) h.form)
      by om q point put keyed = absurd put
      by (plain v) q point put keyed = absurd put
      by (element c v) q point put keyed = absurd put
      by (numbers l c ns) q point put keyed = absurd put
      by (handles c hs) q point put keyed = absurd put

  pub cuts : (b : BaseId) (many : Bool) (f g : Form) → table_of f ≡ Some (b, many) → IsInForm bs n m f → IsPointCut bs b x f g → AreCuts f g
  cuts b many (table k c some es) g t h p =
      let same : ◌≡◌ {A = BaseId × Bool} (c, some) (b, many) = cc in
      cut_tables k c some es g h (subst (λ i. IsPointCut bs i x (table k c some es) g) (sym (ap (λ o. o.0) same)) p)
  cuts b many om g t h p = let no : ⊥ = cc in absurd no
  cuts b many (plain v) g t h p = let no : ⊥ = cc in absurd no
  cuts b many (element c v) g t h p = let no : ⊥ = cc in absurd no
  cuts b many (numbers l c ns) g t h p = let no : ⊥ = cc in absurd no
  cuts b many (handles c hs) g t h p = let no : ⊥ = cc in absurd no
