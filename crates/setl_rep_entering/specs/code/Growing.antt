-- Bases into which places are entered, and which are taken back.
use Rattle.std.specs.Prelude.{◌≡◌, ◌⊎◌, ℕ, ◌≤◌, ◌&&◌, Bool, true, List, [], ◌∷◌, length, Option, Some, None}
use Rattle.std.specs.List.{list_any, AllByRecursion}
use Rattle.setl_value.specs.code.DatumOf.{datum}
use Rattle.setl_modes.specs.Modes.{Mode}
use Rattle.setl_modes_places.specs.Places.{names}
use Rattle.setl_base.specs.Base.{undone}
use Rattle.setl_rep_bases.specs.declared.BaseId.{BaseId}
use Rattle.setl_rep_bases.specs.declared.tables.Instance.{Instance}
use Rattle.setl_rep_bases.specs.BaseId.{is_id}
use Rattle.setl_rep_bases.specs.Bases.{BasesState, instance_at, base_at, IsThere, with_entered, with_undone}
use Rattle.setl_rep_entering.specs.Entering.{is_named}
use Rattle.setl_rep_entering.specs.declared.places.Place.{Place}
use Rattle.setl_rep_entering.specs.declared.enter.Mark.{Mark}

-- the bases after these were entered one after the other
abbrev pub all_placed : BasesState → List Place → BasesState
all_placed bs [] = bs
all_placed bs (p ∷ ps) = all_placed (with_entered bs p.base (datum p.value)) ps

-- whether one of these is in the instance i
abbrev pub is_placed : BaseId → List Place → Bool
is_placed i ps = list_any (λ p. is_id i p.base) ps

abbrev pub ArePlacesThere : BasesState → List Place → Type 0
ArePlacesThere bs ps = AllByRecursion (λ p. IsThere bs p.base) ps

-- ---- marks

abbrev pub is_marked : BaseId → List Mark → Bool
is_marked i ms = list_any (λ m. is_id i m.base) ms

-- each is that of its instance
abbrev pub AreMarks : BasesState → List Mark → Type 0
AreMarks bs ms = AllByRecursion (λ m. IsThere bs m.base × (m.mark.count ≡ length (base_at bs m.base).members)) ms

-- those of the instances that a mode names in the activation n
pub record AreMarksOf (bs : BasesState) (n : ℕ) (m : Mode) (ms : List Mark) : Type 0 where
  pub marks : AreMarks bs ms
  pub all : (i : BaseId) → is_marked i ms ≡ (is_named bs n i && names i.base m)

-- each instance with a place has a mark
abbrev pub AreMarked : List Mark → List Place → Type 0
AreMarked ms ps = (i : BaseId) → is_placed i ps ≡ true → is_marked i ms ≡ true

-- the bases after each was cut to its mark
abbrev pub all_undone : BasesState → List Mark → BasesState
all_undone bs [] = bs
all_undone bs (m ∷ ms) = all_undone (with_undone bs m.base m.mark.count) ms

-- ---- bases that grew

-- the second has the members of the first in front
abbrev pub IsGrown : Option Instance → Option Instance → Type 0
IsGrown None None = Unit {0}
IsGrown (Some x) (Some y) = (y.gone ≡ x.gone) × (length x.base.members ≤ length y.base.members) × (undone y.base (length x.base.members) ≡ x.base)
IsGrown x y = ⊥

pub record AreGrown (bs cs : BasesState) : Type 0 where
  pub count : cs.count ≡ bs.count
  pub grown : (i : BaseId) → IsGrown (instance_at bs i) (instance_at cs i)

-- no other instances changed than those with a place
abbrev pub ChangeWithin : List Place → BasesState → BasesState → Type 0
ChangeWithin ps bs cs = (i : BaseId) → (is_placed i ps ≡ true) ⊎ (instance_at cs i ≡ instance_at bs i)
