-- Members, components and elements whose places are found.
use Rattle.std.proofs.Common.{◌≡◌, ℕ, true, cond, List, [], ◌∷◌, Option, Some, None, ap, sym, ◌∙◌, subst, eq-eqb}
use Rattle.std.specs.List.{flat_map}
use Rattle.std.specs.Option.{IsSome}
use Rattle.std.proofs.lemmas.Bool.{or_left, or_right}
use Rattle.setl_value.specs.Datum.{Datum, set_of, tuple_of, element_list-elements_of, part_list-parts_of}
use Rattle.setl_value.specs.WellFormed.{IsTrimmed}
use Rattle.setl_set.specs.Sets.{has_datum}
use Rattle.setl_modes.specs.declared.mode.Form.{Form as Attribute}
use Rattle.setl_modes.specs.Modes.{Mode, General, Integers, Strings, Booleans, Atoms, Elements, Sets, Tuples, SingleMaps, MultiMaps}
use Rattle.setl_modes_places.specs.Places.{at_part, elements_at, names}
use Rattle.setl_base.specs.Base.{BaseState, find}
use Rattle.setl_base.specs.declared.Elt.{Elt}
use Rattle.setl_rep_bases.specs.declared.BaseId.{BaseId}
use Rattle.setl_rep_bases.specs.Bases.{BasesState, base_at, IsThere}
use Rattle.setl_rep_forms.specs.Form.{Layout}
use Rattle.setl_rep_forms.specs.Stands.{parts_at, AreHandles}
use Rattle.setl_rep_based.specs.Found.{AreFound, ArePartsFound}
use Rattle.setl_rep_building.specs.HasForm.{base_of, placed, place_of, layout_of}
use Rattle.setl_rep_building.specs.Places.{HasBases, PlacesAreFound}
use Rattle.setl_rep_building.proofs.Facts.{some_same, not_both, has_append, has_first, has_later, given}

-- a value of an element's mode stands at that place
pub at_element : (m : Mode) (b : ℕ) (d : Datum) → base_of m ≡ Some b → has_datum d (elements_at b m d) ≡ true
at_element (Elements c m) b d p = ap (λ t. has_datum d (cond t (d ∷ []) [])) (eq-eqb c b (some_same p)) ∙ has_first d []
at_element General b d p = absurd (not_both p)
at_element Integers b d p = absurd (not_both p)
at_element Strings b d p = absurd (not_both p)
at_element Booleans b d p = absurd (not_both p)
at_element Atoms b d p = absurd (not_both p)
at_element (Sets f m) b d p = absurd (not_both p)
at_element (Tuples m) b d p = absurd (not_both p)
at_element (SingleMaps f m r) b d p = absurd (not_both p)
at_element (MultiMaps f m s) b d p = absurd (not_both p)

-- an element's mode names its base
pub names_base : (m : Mode) (b : ℕ) → base_of m ≡ Some b → names b m ≡ true
names_base (Elements c m) b p = eq-eqb c b (some_same p)
names_base General b p = absurd (not_both p)
names_base Integers b p = absurd (not_both p)
names_base Strings b p = absurd (not_both p)
names_base Booleans b p = absurd (not_both p)
names_base Atoms b p = absurd (not_both p)
names_base (Sets f m) b p = absurd (not_both p)
names_base (Tuples m) b p = absurd (not_both p)
names_base (SingleMaps f m r) b p = absurd (not_both p)
names_base (MultiMaps f m s) b p = absurd (not_both p)

-- the base of a place
placed_on : (o : Option Layout) (m : Mode) (l : Layout) (b : ℕ) → placed o m ≡ Some (l, b) → base_of m ≡ Some b
placed_on (Some k) (Elements c m) l b p = ap (λ q. Some q) (ap (λ (q : Layout × ℕ). q.1) (some_same p))
placed_on None m l b p = absurd (not_both p)
placed_on (Some k) General l b p = absurd (not_both p)
placed_on (Some k) Integers l b p = absurd (not_both p)
placed_on (Some k) Strings l b p = absurd (not_both p)
placed_on (Some k) Booleans l b p = absurd (not_both p)
placed_on (Some k) Atoms l b p = absurd (not_both p)
placed_on (Some k) (Sets f m) l b p = absurd (not_both p)
placed_on (Some k) (Tuples m) l b p = absurd (not_both p)
placed_on (Some k) (SingleMaps f m r) l b p = absurd (not_both p)
placed_on (Some k) (MultiMaps f m s) l b p = absurd (not_both p)

pub place_on : (a : Attribute) (m : Mode) (l : Layout) (b : ℕ) → place_of a m ≡ Some (l, b) → base_of m ≡ Some b
place_on a m l b p = placed_on (layout_of a) m l b p

pub found_element : (bs : BasesState) (name : ℕ → BaseId) (m : Mode) (b : ℕ) (d : Datum) → base_of m ≡ Some b → PlacesAreFound bs name m d → IsSome (find (base_at bs (name b)) d)
found_element bs name m b d p h = h b d (at_element m b d p)

pub base_there : (bs : BasesState) (name : ℕ → BaseId) (m : Mode) (b : ℕ) → base_of m ≡ Some b → HasBases bs name m → IsThere bs (name b)
base_there bs name m b p h = h b (names_base m b p)

each_found : (b : BaseState) (ds : List Datum) → ((x : Datum) → has_datum x ds ≡ true → IsSome (find b x)) → AreFound b ds
each_found b [] h = tt
each_found b (d ∷ ds) h = (h d (has_first d ds), each_found b ds (λ x r. h x (has_later x d ds r)))

pub found_members : (bs : BasesState) (name : ℕ → BaseId) (f : Attribute) (m : Mode) (b : ℕ) (ds : List Datum) → base_of m ≡ Some b → PlacesAreFound bs name (Sets f m) (set_of ds) → AreFound (base_at bs (name b)) ds
found_members bs name f m b ds p h =
    each_found (base_at bs (name b)) ds (λ x r. h b x (ap (λ l. has_datum x (flat_map (elements_at b m) l)) (element_list-elements_of ds) ∙ given (elements_at b m) ds x x r (at_element m b x p)))

part_given : (b : ℕ) (m : Mode) (p : base_of m ≡ Some b) (c : BaseState) (ps : List (Option Datum)) → ((x : Datum) → has_datum x (flat_map (at_part (elements_at b m)) ps) ≡ true → IsSome (find c x)) → ArePartsFound c ps
part_given b m p c [] h = tt
part_given b m p c (None ∷ ps) h = part_given b m p c ps h
part_given b m p c (Some d ∷ ps) h = (
  h d (has_append d (elements_at b m d) (flat_map (at_part (elements_at b m)) ps) ∙ or_left _ _ (at_element m b d p)),
  part_given b m p c ps (λ x r. h x (has_append x (elements_at b m d) (flat_map (at_part (elements_at b m)) ps) ∙ or_right (has_datum x (elements_at b m d)) _ r)),
)

pub found_parts : (bs : BasesState) (name : ℕ → BaseId) (m : Mode) (b : ℕ) (ps : List (Option Datum)) → base_of m ≡ Some b → PlacesAreFound bs name (Tuples m) (tuple_of ps) → ArePartsFound (base_at bs (name b)) ps
found_parts bs name m b ps p h =
    part_given b m p (base_at bs (name b)) ps (λ x r. h b x (ap (λ l. has_datum x (flat_map (at_part (elements_at b m)) l)) (part_list-parts_of ps) ∙ r))

pub handles_over : (b c : BaseState) (es fs : List (Option Elt)) (t : List (Option Datum)) → c ≡ b → fs ≡ es → AreHandles c es → parts_at c es ≡ t → IsTrimmed t → AreHandles b fs × IsTrimmed (parts_at b fs)
handles_over b c es fs t p q h e r = (
  subst (λ x. AreHandles x fs) p (subst (AreHandles c) (sym q) h),
  subst (λ x. IsTrimmed (parts_at x fs)) p (subst (λ l. IsTrimmed (parts_at c l)) (sym q) (subst (λ ps. IsTrimmed ps) (sym e) r)),
)
