-- Updates of what slots hold, in its form.
use Rattle.std.specs.Prelude.{◌≡◌, ℕ, Bool, true, false, Option, Some, Result, IfOk, OnErr}
use Rattle.std.specs.declared.alloc.AllocError.{AllocError}
use Rattle.setl_value.specs.Datum.{Datum}
use Rattle.setl_value.specs.WellFormed.{PartIsWellFormed}
use Rattle.setl_operators_table.specs.Outcome.{Outcome, Gives}
use Rattle.setl_rep_bases.specs.declared.BaseId.{BaseId}
use Rattle.setl_rep_bases.specs.Bases.{BasesState, base_at}
use Rattle.setl_rep_bases.specs.Keeping.{AreKept}
use Rattle.setl_modes.specs.Modes.{Mode, mode_of}
use Rattle.setl_rep_entering.specs.Entering.{AreLengthened, BasesAreThere}
use Rattle.setl_store_slots.specs.declared.cells.Held.{Held}
use Rattle.setl_store_slots.specs.declared.cells.Held.TheVariants as held
use Rattle.setl_store_slots.specs.Slots.{content_of, IsStanding}

-- the bases only grew: all instances and blocks are there, and none was cut
pub record AreGrown (bs cs : BasesState) : Type 0 where
  pub kept : AreKept bs cs
  pub uncut : (i : BaseId) → (base_at cs i).cuts ≡ (base_at bs i).cuts

-- it holds something in the form of this mode
abbrev pub IsOfMode : Mode → Held → Type 0
IsOfMode m (held.Based own f) = mode_of own ≡ m
IsOfMode m h = ⊥

-- a slot holds now what is given of the well-formed value that it held, without a charge, whatever turns are left
pub record IsGiven (gives : Option Datum → ℕ → Outcome) (old new : Option (Option Datum)) : Type 0 where
  pub before : Option Datum
  pub after : Option Datum
  pub was : old ≡ Some before
  pub formed : PartIsWellFormed before
  pub is : new ≡ Some after
  pub given : (left : ℕ) → gives before left ≡ Gives after 0

-- the bases are there and were lengthened by what a slot holds now, which held something in the form of a mode: by the places of
-- that mode
abbrev pub IsEntered : BasesState → BasesState → Held → (now : Option (Option Datum)) → Type 0
IsEntered bs cs (held.Based m f) (Some (Some d)) = BasesAreThere bs 0 (mode_of m) × AreLengthened (mode_of m) d 0 bs cs
IsEntered bs cs h v = ⊥

-- What an update leaves in a slot. True says that it was made; false, and want of memory, say that the slot holds what it held,
-- and the bases are as before.
pub record IsSlotUpdate (gives : Option Datum → ℕ → Outcome) (bs cs : BasesState) (h g : Held) (result : Result Bool AllocError) : Type 0 where
  pub standing : IsStanding cs g
  pub grown : AreGrown bs cs
  pub done : IfOk result (λ t. t ≡ true → IsGiven gives (content_of bs h) (content_of cs g))
  pub entered : IfOk result (λ t. t ≡ true → IsEntered bs cs h (content_of cs g))
  pub nothing : IfOk result (λ t. t ≡ false → (cs ≡ bs) × (content_of cs g ≡ content_of bs h))
  pub refused : OnErr result ((cs ≡ bs) × (content_of cs g ≡ content_of bs h))
