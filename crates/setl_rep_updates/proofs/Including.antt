-- A value comes into a set of elements.
use Rattle.std.proofs.Common.{eq-eqb, ◌≡◌, ◌∙◌, eqb-true, ℕ, suc, ◌+◌, ◌≤◌, Bool, true, false, ◌&&◌, ◌||◌, ◌==◌, ◌⊎◌, inl, inr, cond, List, [], ◌∷◌, slice_get, Option, None, Some, IsSome, Result, Ok, IfOk, refl, sym, ap, subst, arith}
use Rattle.std.specs.Bool.{nat_le, nat_lt, if◌then◌else◌}
use Rattle.std.specs.List.{flat_map, filter_map, list_all}
use Rattle.std.specs.Option.{is_some, option_and_then}
use Rattle.std.specs.FinSet as set
use Rattle.std.specs.declared.cmp.Ordering.{Ordering}
use Rattle.std.specs.declared.cmp.Ordering.TheVariants.{Less, Equal, Greater}
use Rattle.std.specs.Ordering.{nat_cmp, is_eq}
use Rattle.std.proofs.lemmas.Bool.{false≢true, or_left, or_right, and_parts, and_from, or_cases}
use Rattle.setl_value.specs.Datum.{Datum, depth, part_depth, set_of, elements_of, element_list, element_list-elements_of}
use Rattle.setl_value.specs.WellFormed.{IsWellFormed, ElementsAreWellFormed, IsValue}
use Rattle.setl_value.specs.Order.{datum_cmp, IsRising}
use Rattle.setl_value.specs.OrderLaws.{same_if_eq, eq_iff_same}
use Rattle.setl_set.specs.Sets.{has_datum, insert_datum, insert_by}
use Rattle.setl_set.specs.Laws.{Gathers}
use Rattle.setl_modes.specs.declared.mode.Form.{Form as Attribute}
use Rattle.setl_modes.specs.declared.mode.Form.TheVariants.{Plain, Local, Remote, Sparse}
use Rattle.setl_modes.specs.Modes.{Mode, General, Integers, Strings, Booleans, Atoms, Elements, Sets, Tuples, SingleMaps, MultiMaps}
use Rattle.setl_modes.specs.Fits.{datum_fits}
use Rattle.setl_modes_places.specs.Places.{elements_at}
use Rattle.setl_operators_table.specs.declared.OpFault.{OpFault}
use Rattle.setl_operators_table.specs.declared.Operator.TheVariants.{With}
use Rattle.setl_operators_table.specs.Outcome.{Outcome, Gives, Fails, DeepFault, value, within_depth}
use Rattle.setl_operators_table.specs.Operators.{op_of}
use Rattle.setl_base.specs.declared.Elt.{Elt}
use Rattle.setl_base.specs.Base.{BaseState, Member, find, find_from, handle, member_at, value_in, value_of}
use Rattle.setl_rep_bases.specs.declared.BaseId.{BaseId}
use Rattle.setl_rep_bases.specs.Bases.{BasesState, base_at, named, with_entered, IsThere}
use Rattle.setl_rep_forms.specs.Form.{Form, Layout, om, plain, element, numbers, table, handles}
use Rattle.setl_rep_forms.specs.Stands.{stands, members_at, value_at, IsOver}
use Rattle.setl_rep_forms.specs.Laws.{FormsStay}
use Rattle.setl_rep_kernels.specs.Kernels.{is_numbered, has_change, ChangeTells, IsAlike}
use Rattle.setl_rep_building.specs.HasForm.{base_of, place_of, IsSetForm, HasFormOrOm}
use Rattle.setl_rep_entering.specs.Entering.{AreLengthened}
use Rattle.setl_rep_entering.specs.Laws.{PlacesAreFound, PlacesAreMembers, PartsLengthenAlike, BlocksAreKept, MembersLengthenNothing, ElementsAreEntered}
use Rattle.setl_rep_updates.specs.InForm.{IsValueOrOm, ArePlacesFound, IsInForm, FormsOfModesStay}
use Rattle.setl_rep_updates.specs.Updates.{IsUpdate}
use Rattle.setl_rep_updates.specs.code.Entered.{HasNumbersOf, IsElementOn, IsPutIn}

-- ---- a set with one more member

pub itself : (d : Datum) → is_eq (datum_cmp d d) ≡ true
itself d = (eq_iff_same d d).1 refl

has_inserted : (d : Datum) (es : List Datum) → has_datum d (insert_datum d es) ≡ true
has_inserted d [] = or_left _ _ (itself d)
has_inserted d (e ∷ es) = by (datum_cmp d e) refl (has_inserted d es)
  where
    by : (o : Ordering) → datum_cmp d e ≡ o → has_datum d (insert_datum d es) ≡ true → has_datum d (insert_by o d e es (insert_datum d es)) ≡ true
    by Less p r = or_left _ _ (itself d)
    by Equal p r = or_left _ _ (ap is_eq p)
    by Greater p r = or_right (is_eq (datum_cmp d e)) _ r

of_inserted : (x d : Datum) (es : List Datum) → has_datum x (insert_datum d es) ≡ true → (x ≡ d) ⊎ (has_datum x es ≡ true)
of_inserted x d [] h = elim (or_cases (is_eq (datum_cmp x d)) false h) [ inl e ↦ inl (same_if_eq x d e) | inr e ↦ absurd (false≢true e) ]
of_inserted x d (e ∷ es) h = by (datum_cmp d e) h (of_inserted x d es)
  where
    by : (o : Ordering) → has_datum x (insert_by o d e es (insert_datum d es)) ≡ true → (has_datum x (insert_datum d es) ≡ true → (x ≡ d) ⊎ (has_datum x es ≡ true)) → (x ≡ d) ⊎ (has_datum x (e ∷ es) ≡ true)
    by Less h r = elim (or_cases (is_eq (datum_cmp x d)) (has_datum x (e ∷ es)) h) [ inl q ↦ inl (same_if_eq x d q) | inr q ↦ inr q ]
    by Equal h r = inr h
    by Greater h r = elim (or_cases (is_eq (datum_cmp x e)) (has_datum x (insert_datum d es)) h) [
      | inl q ↦ inr (or_left (is_eq (datum_cmp x e)) (has_datum x es) q)
      | inr q ↦ elim (r q) [ inl s ↦ inl s | inr s ↦ inr (or_right (is_eq (datum_cmp x e)) (has_datum x es) s) ]
    ]

pub all_inserted : (p : Datum → Bool) (d : Datum) (es : List Datum) → p d ≡ true → list_all p es ≡ true → list_all p (insert_datum d es) ≡ true
all_inserted p d [] h a = and_from (p d) true h refl
all_inserted p d (e ∷ es) h a = by (datum_cmp d e) (all_inserted p d es h (and_parts (p e) (list_all p es) a).1)
  where
    by : (o : Ordering) → list_all p (insert_datum d es) ≡ true → list_all p (insert_by o d e es (insert_datum d es)) ≡ true
    by Less r = and_from (p d) (list_all p (e ∷ es)) h a
    by Equal r = a
    by Greater r = and_from (p e) (list_all p (insert_datum d es)) (and_parts (p e) (list_all p es) a).0 r

-- ---- values

pub is_shallow : (v : Option Datum) → IsValueOrOm v → part_depth v ≤ 500
is_shallow None h = omega (arith)
is_shallow (Some d) h = h.1

pub formed_inserted : (d : Datum) (es : List Datum) → IsWellFormed d → ElementsAreWellFormed (elements_of es) → ElementsAreWellFormed (elements_of (insert_datum d es))
formed_inserted d [] w a = (w, a)
formed_inserted d (e ∷ es) w a = by (datum_cmp d e) (formed_inserted d es w a.1)
  where
    by : (o : Ordering) → ElementsAreWellFormed (elements_of (insert_datum d es)) → ElementsAreWellFormed (elements_of (insert_by o d e es (insert_datum d es)))
    by Less r = (w, a)
    by Equal r = a
    by Greater r = (a.0, r)

pub value_of_set : (ds : List Datum) → ElementsAreWellFormed (elements_of ds) → IsRising ds → depth (set_of ds) ≤ 500 → IsValue (set_of ds)
value_of_set ds w r s = ((w, subst IsRising (sym (element_list-elements_of ds)) r), s)

-- ---- the places of elements

has_element : (t : Bool) (x d : Datum) → has_datum x (cond t (d ∷ []) []) ≡ true → (t ≡ true) × (x ≡ d)
has_element true x d h = elim (or_cases (is_eq (datum_cmp x d)) false h) [ inl e ↦ (refl, same_if_eq x d e) | inr e ↦ absurd (false≢true e) ]
has_element false x d h = absurd (false≢true h)

has_elements : (b c : ℕ) (k : Mode) (x : Datum) (ds : List Datum) → has_datum x (flat_map (elements_at b (Elements c k)) ds) ≡ ((c == b) && has_datum x ds)
has_elements b c k x ds = by (c == b) ds
  where
    by : (t : Bool) (ds : List Datum) → has_datum x (flat_map (λ d. cond t (d ∷ []) []) ds) ≡ (t && has_datum x ds)
    by true [] = refl
    by true (d ∷ ds) = ap (λ a. is_eq (datum_cmp x d) || a) (by true ds)
    by false [] = refl
    by false (d ∷ ds) = by false ds

has_place : (b : ℕ) (a : Attribute) (c : ℕ) (k : Mode) (x : Datum) (ds : List Datum) → has_datum x (elements_at b (Sets a (Elements c k)) (set_of ds)) ≡ ((c == b) && has_datum x ds)
has_place b a c k x ds = ap (λ l. has_datum x (flat_map (elements_at b (Elements c k)) l)) (element_list-elements_of ds) ∙ has_elements b c k x ds

-- ---- forms

pub numbers_of_mode : (name : ℕ → BaseId) (a : Attribute) (c : ℕ) (k : Mode) (f : Form) → is_numbered f ≡ true → HasFormOrOm name (Sets a (Elements c k)) f → HasNumbersOf (name c) f
numbers_of_mode name a c k om t h = absurd (false≢true t)
numbers_of_mode name a c k (plain d) t h = absurd (false≢true t)
numbers_of_mode name a c k (element b e) t h = absurd (false≢true t)
numbers_of_mode name a c k (table l b m es) t h = absurd (false≢true t)
numbers_of_mode name a c k (handles b es) t h = absurd (false≢true t)
numbers_of_mode name a c k (numbers l b ns) t h = record { layout = l; held = ns; is = ap (λ i. numbers l i ns) (by a h) }
  where
    by : (a : Attribute) → IsSetForm name (place_of a (Elements c k)) (numbers l b ns) → b ≡ name c
    by Plain h = absurd h
    by Local h = h.1
    by Remote h = h.1
    by Sparse h = h.1

-- another set of numbers of the same instance in the same layout has the same form
other_numbers : (name : ℕ → BaseId) (a : Attribute) (c : ℕ) (k : Mode) (l : Layout) (b : BaseId) (ns ms : set.FinSet nat_cmp) → HasFormOrOm name (Sets a (Elements c k)) (numbers l b ns) → HasFormOrOm name (Sets a (Elements c k)) (numbers l b ms)
other_numbers name Plain c k l b ns ms h = absurd h
other_numbers name Local c k l b ns ms h = h
other_numbers name Remote c k l b ns ms h = h
other_numbers name Sparse c k l b ns ms h = h

pub alike_numbers : (l : Layout) (b : BaseId) (ns : set.FinSet nat_cmp) (g : Form) → IsAlike (numbers l b ns) g → (ms : set.FinSet nat_cmp) × (g ≡ numbers l b ms)
alike_numbers l b ns om h = absurd (false≢true (sym (ap is_numbered h)))
alike_numbers l b ns (plain d) h = absurd (false≢true (sym (ap is_numbered h)))
alike_numbers l b ns (element c e) h = absurd (false≢true (sym (ap is_numbered h)))
alike_numbers l b ns (table k c m es) h = absurd (false≢true (sym (ap is_numbered h)))
alike_numbers l b ns (handles c es) h = absurd (false≢true (sym (ap is_numbered h)))
alike_numbers l b ns (numbers k c ms) h = (ms, (λ i. numbers (sym h.0 i) (sym h.1 i) ms))

-- what the operator gives is the set with the member
with_member : (es ms : List Datum) (d : Datum) → op_of With (Some (set_of es) ∷ Some d ∷ []) 0 ≡ Gives (Some (set_of ms)) 0 → ms ≡ insert_datum d es
with_member es ms d h =
    sym (element_list-elements_of ms) ∙ sym (members (insert_datum d (element_list (elements_of es))) ms (inside (set_of (insert_datum d (element_list (elements_of es)))) (set_of ms) h)) ∙ ap (insert_datum d) (element_list-elements_of es)
  where
    inside : (x y : Datum) → within_depth x ≡ Gives (Some y) 0 → x ≡ y
    inside x y e = by (nat_le (depth x) 500) e
      where
        by : (t : Bool) → (if t then value x else Fails DeepFault) ≡ Gives (Some y) 0 → x ≡ y
        by true e = cc
        by false e = let no : ⊥ = cc in absurd no

    members : (xs ys : List Datum) → set_of xs ≡ set_of ys → xs ≡ element_list (elements_of ys)
    members xs ys e = let same : elements_of xs ≡ elements_of ys = cc in sym (element_list-elements_of xs) ∙ ap element_list same

-- the mode of elements
pub element_mode : (m : Mode) (c : ℕ) → base_of m ≡ Some c → (k : Mode) × (m ≡ Elements c k)
element_mode (Elements b k) c e = let same : b ≡ c = cc in (k, (λ i. Elements (same i) k))
element_mode General c e = let no : ⊥ = cc in absurd no
element_mode Integers c e = let no : ⊥ = cc in absurd no
element_mode Strings c e = let no : ⊥ = cc in absurd no
element_mode Booleans c e = let no : ⊥ = cc in absurd no
element_mode Atoms c e = let no : ⊥ = cc in absurd no
element_mode (Sets a m) c e = let no : ⊥ = cc in absurd no
element_mode (Tuples m) c e = let no : ⊥ = cc in absurd no
element_mode (SingleMaps a d r) c e = let no : ⊥ = cc in absurd no
element_mode (MultiMaps a d r) c e = let no : ⊥ = cc in absurd no

-- ---- updates

module _ (gathers : Gathers) (forms_stay : FormsStay) (kept : BlocksAreKept) (members : PlacesAreMembers) (alike : PartsLengthenAlike) (stay : FormsOfModesStay)
    (a : Attribute) (c n : ℕ) (k : Mode) (d : Datum) (vd : IsValue d) (bs cs : BasesState) where
  abbrev set_mode : Mode
  set_mode = Sets a (Elements c k)

  -- the same with the numbers before and after
  module _ (l : Layout) (b : BaseId) (ns ms : set.FinSet nat_cmp) (h : IsInForm bs n set_mode (numbers l b ns)) (fit : datum_fits k d ≡ true)
      (p : IsPutIn (Elements c k) n d bs cs (numbers l b ns) (numbers l b ms)) where
    abbrev old_members : List Datum
    old_members = members_at (base_at cs b) ns

    abbrev new_members : List Datum
    new_members = members_at (base_at cs b) ms

    then_in_form : IsInForm cs n set_mode (numbers l b ns)
    then_in_form = stay set_mode (Elements c k) d n n bs cs (numbers l b ns) p.lengthened h

    same_value : Some (set_of old_members) ≡ stands bs (numbers l b ns)
    same_value = (forms_stay bs cs (numbers l b ns) (kept (Elements c k) d n bs cs p.lengthened) h.over).1

    with_it : new_members ≡ insert_datum d old_members
    with_it = with_member old_members new_members d (p.value 0)

    old_found : (i : ℕ) (x : Datum) → (c == i) ≡ true → has_datum x old_members ≡ true → IsSome (find (base_at bs (named bs n i)) x)
    old_found i x e r =
        let found : PlacesAreFound bs n set_mode (set_of old_members) = subst (λ v. ArePlacesFound bs n set_mode v) (sym same_value) h.found in
        found i x (has_place i a c k x old_members ∙ (λ j. e j && r j))

    new_places : (i : ℕ) (x : Datum) → has_datum x (elements_at i set_mode (set_of new_members)) ≡ true → ((c == i) ≡ true) × ((x ≡ d) ⊎ (has_datum x old_members ≡ true))
    new_places i x e =
        let q = and_parts (c == i) (has_datum x new_members) (sym (has_place i a c k x new_members) ∙ e) in
        (q.0, of_inserted x d old_members (sym (ap (has_datum x) with_it) ∙ q.1))

    at_place : (i : ℕ) → (c == i) ≡ true → has_datum d (elements_at i (Elements c k) d) ≡ true
    at_place i e = ap (λ t. has_datum d (cond t (d ∷ []) [])) e ∙ or_left _ _ (itself d)

    new_found : PlacesAreFound cs n set_mode (set_of new_members)
    new_found i x e =
        let q = new_places i x e in
        elim q.1 [
          | inl s ↦ subst (λ z. IsSome (find (base_at cs (named cs n i)) z)) (sym s) ((members (Elements c k) d n bs cs h.there p.lengthened).1 i d (at_place i q.0))
          | inr s ↦ then_in_form.found i x (has_place i a c k x old_members ∙ (λ j. q.0 j && s j))
        ]

    lengthened_alike : AreLengthened set_mode (set_of new_members) n bs cs
    lengthened_alike =
        alike set_mode (Elements c k) (set_of new_members) d n bs cs
        (λ i x e. let q = has_element (c == i) x d e in has_place i a c k x new_members ∙ (λ j. q.0 j && (ap (λ z. has_datum z new_members) q.1 ∙ ap (has_datum d) with_it ∙ has_inserted d old_members) j))
        (λ i x e. let q = new_places i x e in elim q.1 [ inl s ↦ inl (ap (λ z. has_datum z (elements_at i (Elements c k) d)) s ∙ at_place i q.0) | inr s ↦ inr (old_found i x q.0 s) ])
        p.lengthened

    fits_then : datum_fits set_mode (set_of new_members) ≡ true
    fits_then =
        ap (list_all (datum_fits (Elements c k))) (element_list-elements_of new_members ∙ with_it)
        ∙ all_inserted (datum_fits (Elements c k)) d old_members fit (sym (ap (list_all (datum_fits (Elements c k))) (element_list-elements_of old_members)) ∙ then_in_form.fits)

    put_numbers : IsUpdate set_mode n (op_of With (stands bs (numbers l b ns) ∷ Some d ∷ [])) bs cs (numbers l b ns) (numbers l b ms) (Ok true)
    put_numbers = record {
      held = record {
        there = then_in_form.there;
        over = p.over;
        form = other_numbers (named cs n) a c k l b ns ms then_in_form.form;
        fits = fits_then;
        value = value_of_set new_members (subst (λ ds. ElementsAreWellFormed (elements_of ds)) (sym with_it) (formed_inserted d old_members vd.0 then_in_form.value.0.0)) (gathers (filter_map (value_at (base_at cs b)) (set.items ms))).rising p.shallow;
        found = new_found;
      };
      value = λ e left. ap (λ v. op_of With (v ∷ Some d ∷ []) left) (sym same_value) ∙ p.value left;
      lengthened = λ e. (set_of new_members, refl, lengthened_alike);
      nothing = λ e. absurd (false≢true (sym e));
      refused = tt;
    }

  pub put_is_update : (f g : Form) → IsInForm bs n set_mode f → datum_fits k d ≡ true → HasNumbersOf (named bs n c) f → IsPutIn (Elements c k) n d bs cs f g → IsUpdate set_mode n (op_of With (stands bs f ∷ Some d ∷ [])) bs cs f g (Ok true)
  put_is_update f g h fit has p = by (alike_numbers has.layout (named bs n c) has.held g (subst (λ z. IsAlike z g) has.is p.alike))
    where
      by : (ms : set.FinSet nat_cmp) × (g ≡ numbers has.layout (named bs n c) ms) → IsUpdate set_mode n (op_of With (stands bs f ∷ Some d ∷ [])) bs cs f g (Ok true)
      by q =
          subst (λ y. IsUpdate set_mode n (op_of With (stands bs f ∷ Some d ∷ [])) bs cs f y (Ok true)) (sym q.1)
          (subst (λ z. IsUpdate set_mode n (op_of With (stands bs z ∷ Some d ∷ [])) bs cs z (numbers has.layout (named bs n c) q.0) (Ok true)) (sym has.is)
          (put_numbers has.layout (named bs n c) has.held q.0 (subst (IsInForm bs n set_mode) has.is h) fit
          (subst (λ z. IsPutIn (Elements c k) n d bs cs z (numbers has.layout (named bs n c) q.0)) has.is (subst (IsPutIn (Elements c k) n d bs cs f) q.1 p))))

-- ---- a member that is put

-- a change that was made tells what the operator gives
tells : (r : Result Bool OpFault) (t : Bool) (o : ℕ → Outcome) (v : Option Datum) → r ≡ Ok t → t ≡ true → ((left : ℕ) → ChangeTells r (o left) v) → (left : ℕ) → o left ≡ Gives v 0
tells r t o v e q h left = subst (λ z. ChangeTells (Ok z) (o left) v) q (subst (λ z. ChangeTells z (o left) v) e (h left))

-- a handle that is found names the value
found_at : (n : ℕ) (ms : List Member) (d : Datum) (e : Elt) → find_from n ms d ≡ Some e → (i : ℕ) × (e.block ≡ n + i) × (option_and_then (value_in e.generation) (slice_get ms i) ≡ Some d)
found_at n [] d e h = let no : ⊥ = cc in absurd no
found_at n (m ∷ ms) d e h = by (is_eq (datum_cmp d m.value)) refl h (found_at (n + 1) ms d e)
  where
    At : Elt → Type 0
    At e = (i : ℕ) × (e.block ≡ n + i) × (option_and_then (value_in e.generation) (slice_get (m ∷ ms) i) ≡ Some d)

    by : (t : Bool) → is_eq (datum_cmp d m.value) ≡ t → (if t then Some (handle n m) else find_from (n + 1) ms d) ≡ Some e
        → (find_from (n + 1) ms d ≡ Some e → (i : ℕ) × (e.block ≡ (n + 1) + i) × (option_and_then (value_in e.generation) (slice_get ms i) ≡ Some d)) → At e
    by true p h rest =
        let is : handle n m ≡ e = cc in
        subst At is (0, omega arith, ap (λ t. if t then Some m.value else None) (eq-eqb m.generation m.generation refl) ∙ ap Some (sym (same_if_eq d m.value p)))
    by false p h rest = let r = rest h in (suc r.0, omega (arith, r.1), r.2)

found_value : (b : BaseState) (d : Datum) (e : Elt) → find b d ≡ Some e → value_of b e ≡ Some d
found_value b d e h = let r = found_at 1 b.members d e h in ap (λ k. option_and_then (value_in e.generation) (member_at b k)) (r.1 ∙ one_more r.0) ∙ r.2
  where
    one_more : (i : ℕ) → 1 + i ≡ suc i
    one_more i = omega arith

pub living : (bs : BasesState) (b : BaseId) (e : Elt) (x : Form) → x ≡ element b e → IsThere bs b → (d : Datum) × (find (base_at bs b) d ≡ Some e) → IsOver bs x
living bs b e x is there f = subst (IsOver bs) (sym is) (there, ap is_some (found_value (base_at bs b) f.0 e f.1))

pub numbers_there : (bs : BasesState) (b : BaseId) (f : Form) → HasNumbersOf b f → IsOver bs f → IsThere bs b
numbers_there bs b f has over = (subst (IsOver bs) has.is over).0

pub member_is_put : (bs : BasesState) (b : BaseId) (e : Elt) (d : Datum) (f g x : Form) (r : Result Bool OpFault) (t : Bool) → HasNumbersOf b f → x ≡ element b e → find (base_at bs b) d ≡ Some e → r ≡ Ok t
    → IfOk r (λ u. u ≡ has_change bs true f x) → ((left : ℕ) → ChangeTells r (op_of With (stands bs f ∷ stands bs x ∷ []) left) (stands bs g)) → (left : ℕ) → op_of With (stands bs f ∷ Some d ∷ []) left ≡ Gives (stands bs g) 0
member_is_put bs b e d f g x r t has is_element found is_ok kernel h left =
    ap (λ v. op_of With (stands bs f ∷ v ∷ []) left) (sym (ap (stands bs) is_element ∙ value))
    ∙ tells r t (λ n. op_of With (stands bs f ∷ stands bs x ∷ []) n) (stands bs g) is_ok made h left
  where
    value : value_of (base_at bs b) e ≡ Some d
    value = found_value (base_at bs b) d e found

    made : t ≡ true
    made =
        subst (λ z. IfOk z (λ u. u ≡ has_change bs true f x)) is_ok kernel
        ∙ (λ i. has_change bs true (has.is i) (is_element i))
        ∙ ap (λ v. is_some (option_and_then (find (base_at bs b)) v)) value
        ∙ ap is_some found

-- ---- a member that is entered

-- the one place of an element is found where it is
pub element_is_found : (m : Mode) (d : Datum) (n : ℕ) (bs : BasesState) (b : BaseId) (e : Elt) → IsElementOn (named bs n) b m → find (base_at bs b) d ≡ Some e → PlacesAreFound bs n m d
element_is_found m d n bs b e on found i x at =
    let q = has_element (on.0 == i) x d (sym (ap (λ k. has_datum x (elements_at i k d)) on.2) ∙ at) in
    subst (λ z. IsSome (find (base_at bs (named bs n i)) z)) (sym q.1) (subst (λ j. IsSome (find (base_at bs j) d)) (on.3 ∙ ap (named bs n) (eqb-true on.0 i q.0)) (ap is_some found))

pub member_in : MembersLengthenNothing → (m : Mode) (n : ℕ) (d : Datum) (bs : BasesState) (b : BaseId) (e : Elt) (f g : Form) → IsElementOn (named bs n) b m → find (base_at bs b) d ≡ Some e
    → ((left : ℕ) → op_of With (stands bs f ∷ Some d ∷ []) left ≡ Gives (stands bs g) 0) → IsOver bs g → part_depth (stands bs g) ≤ 500 → IsAlike f g → IsPutIn m n d bs bs f g
member_in already m n d bs b e f g on found value over shallow alike = record {
  lengthened = already m d n bs (element_is_found m d n bs b e on found);
  value = value;
  over = over;
  shallow = shallow;
  alike = alike;
}

-- an element that is entered
pub element_in : ElementsAreEntered → (m : Mode) (n : ℕ) (d : Datum) (bs : BasesState) (b : BaseId) → IsThere bs b → IsElementOn (named bs n) b m → AreLengthened m d n bs (with_entered bs b d)
element_in entered m n d bs b there on =
    subst (λ k. AreLengthened k d n bs (with_entered bs b d)) (sym on.2)
    (subst (λ j. AreLengthened (Elements on.0 on.1) d n bs (with_entered bs j d)) (sym on.3) (entered on.1 d n on.0 bs (subst (IsThere bs) on.3 there)))

pub stays_over : FormsStay → BlocksAreKept → (m : Mode) (d : Datum) (n : ℕ) (bs cs : BasesState) (f : Form) → AreLengthened m d n bs cs → IsOver bs f → IsOver cs f × (stands cs f ≡ stands bs f)
stays_over forms_stay kept m d n bs cs f l over = forms_stay bs cs f (kept m d n bs cs l) over

-- ---- a set of members of a mode

pub element_on : (name : ℕ → BaseId) (i : BaseId) (m : Mode) (c : ℕ) → base_of m ≡ Some c → i ≡ name c → IsElementOn name i m
element_on name i m c e is = let k = element_mode m c e in (c, k.0, k.1, is)

-- what the test of a set and a value tells
abbrev Taken : Mode → Form → Datum → Bool → Type 0
Taken m f d t = t ≡ (is_numbered f && (nat_lt (depth d) 500 && datum_fits m d))

pub numbers_in_mode : (bs : BasesState) (n : ℕ) (a : Attribute) (m : Mode) (c : ℕ) (i : BaseId) (f : Form) (d : Datum) (t : Bool) → base_of m ≡ Some c → i ≡ named bs n c → IsInForm bs n (Sets a m) f → Taken m f d t → t ≡ true → HasNumbersOf i f
numbers_in_mode bs n a m c i f d t e is h taken taking =
    let k = element_mode m c e in
    subst (λ j. HasNumbersOf j f) (sym is) (numbers_of_mode (named bs n) a c k.0 f (and_parts (is_numbered f) _ (sym taken ∙ taking)).0 (subst (λ z. HasFormOrOm (named bs n) (Sets a z) f) k.1 h.form))

pub update_of_elements : Gathers → FormsStay → BlocksAreKept → PlacesAreMembers → PartsLengthenAlike → FormsOfModesStay → (a : Attribute) (m : Mode) (c n : ℕ) (i : BaseId) (d : Datum) → IsValue d → (bs cs : BasesState) (f g : Form) (t : Bool) → base_of m ≡ Some c → i ≡ named bs n c
    → IsInForm bs n (Sets a m) f → Taken m f d t → t ≡ true → IsPutIn m n d bs cs f g → IsUpdate (Sets a m) n (op_of With (stands bs f ∷ Some d ∷ [])) bs cs f g (Ok true)
update_of_elements gathers forms_stay kept members alike stay a m c n i d vd bs cs f g t e is h taken taking p =
    let k = element_mode m c e in
    let tests = and_parts (is_numbered f) (nat_lt (depth d) 500 && datum_fits m d) (sym taken ∙ taking) in
    let fit : datum_fits k.0 d ≡ true = sym (ap (λ z. datum_fits z d) k.1) ∙ (and_parts (nat_lt (depth d) 500) (datum_fits m d) tests.1).1 in
    subst (λ z. IsUpdate (Sets a z) n (op_of With (stands bs f ∷ Some d ∷ [])) bs cs f g (Ok true)) (sym k.1)
    (put_is_update gathers forms_stay kept members alike stay a c n k.0 d vd bs cs f g (subst (λ z. IsInForm bs n (Sets a z) f) k.1 h) fit
    (subst (λ j. HasNumbersOf j f) is (numbers_in_mode bs n a m c i f d t e is h taken taking)) (subst (λ z. IsPutIn z n d bs cs f g) k.1 p))
