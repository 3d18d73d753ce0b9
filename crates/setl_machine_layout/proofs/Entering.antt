-- What events make of bases without members.
use Rattle.std.proofs.Common.{◌≡◌, ◌∙◌, ◌⊎◌, inl, inr, ◌+◌, ◌<◌, ◌≤◌, ℕ, zero, suc, Bool, true, false, List, [], ◌∷◌, length, Option, Some, None, refl, sym, ap, arith}
use Rattle.std.specs.Prelude.{slice_get, cond, take}
use Rattle.std.specs.Option.{option_map, option_map_or}
use Rattle.setl_value.specs.Datum.{Datum}
use Rattle.setl_set.specs.Sets.{set_from}
use Rattle.setl_modes.specs.Modes.{Mode}
use Rattle.setl_modes_places.specs.Places.{lengthened, names, PlacesAreNamed}
use Rattle.setl_model.specs.Entered.{Base, after_events, cut_back, elements_of_store, entered, with_event}
use Rattle.setl_model.specs.Step.{declared_mode}
use Rattle.setl_model_runs.specs.Events.{Event, Called, Returned, Stored, Printed, Kept, Back, Forgot}
use Rattle.setl_model_runs.specs.Variable.{Variable, is_variable}
use Rattle.setl_code_layout.specs.Layout.{members_of, NamesWithin}
use Rattle.setl_store.specs.Gained.{no_members}
use Rattle.setl_machine_control.specs.Declaring.{Modes}
use Rattle.setl_machine.specs.Gaining.{each_with, bases_after}
use Rattle.setl_machine_layout.specs.Claims.{AllNameWithin, BasesAreEntered, BasesStayAsMany}

abbrev none : Base
none = record { members = []; kept = [] }

-- ---- bases that are told

nth : (modes : Modes) (k n : ℕ) (bs : List Base) (e : Event) (b : Base) → slice_get bs n ≡ Some b → slice_get (each_with modes k bs e) n ≡ Some (with_event modes (k + n) b e)
nth modes k n [] e b h = absurd (cc)
nth modes k zero (c ∷ bs) e b h =
    let same : k ≡ k + 0 = omega arith in
    ap (option_map (λ x. with_event modes k x e)) h ∙ ap (λ j. Some (with_event modes j b e)) same
nth modes k (suc n) (c ∷ bs) e b h =
    let same : suc k + n ≡ k + suc n = omega arith in
    nth modes (suc k) n bs e b h ∙ ap (λ j. Some (with_event modes j b e)) same

nth_after : (modes : Modes) (n : ℕ) (bs : List Base) (es : List Event) (b : Base) → slice_get bs n ≡ Some b → slice_get (bases_after modes bs es) n ≡ Some (after_events modes n b es)
nth_after modes n bs [] b h = h
nth_after modes n bs (e ∷ es) b h =
    let same : 0 + n ≡ n = omega arith in
    nth_after modes n (each_with modes 0 bs e) es (with_event modes n b e) (nth modes 0 n bs e b h ∙ ap (λ j. Some (with_event modes j b e)) same)

nth_first : (count n : ℕ) → n < count → slice_get (no_members count) n ≡ Some none
nth_first zero n h = absurd (omega (arith, h))
nth_first (suc count) zero h = refl
nth_first (suc count) (suc n) h = nth_first count n (omega (arith, h))

-- ---- others

absent : (modes : Modes) (k n : ℕ) (bs : List Base) (e : Event) → slice_get bs n ≡ None → slice_get (each_with modes k bs e) n ≡ None
absent modes k n [] e h = h
absent modes k zero (c ∷ bs) e h = absurd (cc)
absent modes k (suc n) (c ∷ bs) e h = absent modes (suc k) n bs e h

absent_after : (modes : Modes) (n : ℕ) (bs : List Base) (es : List Event) → slice_get bs n ≡ None → slice_get (bases_after modes bs es) n ≡ None
absent_after modes n bs [] h = h
absent_after modes n bs (e ∷ es) h = absent_after modes n (each_with modes 0 bs e) es (absent modes 0 n bs e h)

absent_first : (count n : ℕ) → count ≤ n → slice_get (no_members count) n ≡ None
absent_first zero n h = refl
absent_first (suc count) zero h = absurd (omega (arith, h))
absent_first (suc count) (suc n) h = absent_first count n (omega (arith, h))

take_none : (k : ℕ) → ◌≡◌ {A = List Datum} (take k []) []
take_none zero = refl
take_none (suc k) = refl

cut_none : (ks : List ℕ) (b : Base) → b.members ≡ [] → (cut_back ks b).members ≡ []
cut_none [] b h = h
cut_none (k ∷ ks) b h = ap (take k) h ∙ take_none k

-- what no mode names is never entered
module _ (named : PlacesAreNamed) (count n : ℕ) (beyond : count ≤ n) where
  unnamed : (m : Mode) → NamesWithin count m → names n m ≡ false
  unnamed m within = go (names n m) refl
    where
      go : (b : Bool) → names n m ≡ b → names n m ≡ false
      go false e = e
      go true e = absurd (omega (arith, beyond, within n e))

  of_mode : (m : Mode) (v : Option Datum) → NamesWithin count m → elements_of_store n (Some m) v ≡ []
  of_mode m None within = refl
  of_mode m (Some d) within = ap set_from (named n m d (unnamed m within))

  of_either : (b : Bool) (m others : Option Mode) (v : Option Datum) → elements_of_store n m v ≡ [] → elements_of_store n others v ≡ [] → elements_of_store n (cond b m others) v ≡ []
  of_either true m others v first rest = first
  of_either false m others v first rest = rest

  of_store : (modes : Modes) (x : Variable) (v : Option Datum) → AllNameWithin count modes → elements_of_store n (declared_mode modes x) v ≡ []
  of_store [] x v within = refl
  of_store (m ∷ ms) x v within = of_either (is_variable m.0 x) (Some m.1) (declared_mode ms x) v (of_mode m.1 v within.0) (of_store ms x v within.1)

  none_with : (modes : Modes) (b : Base) (e : Event) → AllNameWithin count modes → b.members ≡ [] → (with_event modes n b e).members ≡ []
  none_with modes b (Stored line x v) within h = ap (lengthened b.members) (of_store modes x v within) ∙ ap (λ ds. lengthened ds []) h
  none_with modes b Kept within h = h
  none_with modes b Back within h = cut_none b.kept b h
  none_with modes b Forgot within h = h
  none_with modes b (Called line name) within h = h
  none_with modes b (Returned name) within h = h
  none_with modes b (Printed bytes) within h = h

  none_after : (modes : Modes) (b : Base) (es : List Event) → AllNameWithin count modes → b.members ≡ [] → (after_events modes n b es).members ≡ []
  none_after modes b [] within h = h
  none_after modes b (e ∷ es) within h = none_after modes (with_event modes n b e) es within (none_with modes b e within h)

-- ---- each of them

split : (n count : ℕ) → (n < count) ⊎ (count ≤ n)
split n zero = inr (omega arith)
split zero (suc count) = inl (omega arith)
split (suc n) (suc count) = go (split n count)
  where
    go : (n < count) ⊎ (count ≤ n) → (suc n < suc count) ⊎ (suc count ≤ suc n)
    go (inl h) = inl (omega (arith, h))
    go (inr h) = inr (omega (arith, h))

pub members_are_entered : PlacesAreNamed → BasesAreEntered
members_are_entered named modes count es within n = go (split n count)
  where
    members : Option Base → List Datum
    members o = option_map_or (λ (b : Base). b.members) o []

    go : (n < count) ⊎ (count ≤ n) → members_of (bases_after modes (no_members count) es) n ≡ entered modes n es
    go (inl h) = ap members (nth_after modes n (no_members count) es none (nth_first count n h))
    go (inr h) = ap members (absent_after modes n (no_members count) es (absent_first count n h)) ∙ sym (none_after named count n h modes none es within refl)

-- ---- how many there are

as_many : (modes : Modes) (k : ℕ) (bs : List Base) (e : Event) → length (each_with modes k bs e) ≡ length bs
as_many modes k [] e = refl
as_many modes k (b ∷ bs) e = ap suc (as_many modes (suc k) bs e)

as_many_after : (modes : Modes) (bs : List Base) (es : List Event) → length (bases_after modes bs es) ≡ length bs
as_many_after modes bs [] = refl
as_many_after modes bs (e ∷ es) = as_many_after modes (each_with modes 0 bs e) es ∙ as_many modes 0 bs e

so_many : (count : ℕ) → length (no_members count) ≡ count
so_many zero = refl
so_many (suc count) = ap suc (so_many count)

pub stay_as_many : BasesStayAsMany
stay_as_many modes count es = as_many_after modes (no_members count) es ∙ so_many count
