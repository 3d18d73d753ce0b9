-- Slots that change in their forms, in the flat lists. No public clause cites this module.
use Rattle.std.specs.Prelude.{◌≡◌, ℕ, Bool, true, List, Option, Some, Result, IfOk, slice_get}
use Rattle.std.specs.declared.alloc.AllocError.{AllocError}
use Rattle.setl_value.specs.Datum.{Datum}
use Rattle.setl_modes.specs.Modes.{Mode}
use Rattle.setl_operators_table.specs.Outcome.{Outcome}
use Rattle.setl_rep_bases.specs.Bases.{BasesState}
use Rattle.setl_store_slots.specs.declared.cells.Held.{Held}
use Rattle.setl_store_slots.specs.Slots.{content_of, IsStanding}
use Rattle.setl_store_slots.specs.Updates.{IsSlotUpdate}
use Rattle.setl_store.specs.declared.cells.Kept.{Kept}
use Rattle.setl_store.specs.Flat.{Here, bases_of, with_slot}
use Rattle.setl_store.specs.Gained.{with_part}

-- a slot holds this value now
pub record IsPut (bs : BasesState) (at : ℕ) (v : Option (Option Datum)) (e e' : Here) : Type 0 where
  pub slot : Held
  pub standing : IsStanding bs slot
  pub value : content_of bs slot ≡ v
  pub put : e' ≡ with_slot e at slot

-- a slot holds what it held
pub record IsPutAgain (bs : BasesState) (at : ℕ) (e e' : Here) : Type 0 where
  pub slot : Held
  pub was : Some slot ≡ slice_get e.slots at
  pub again : IsPut bs at (content_of bs slot) e e'

-- bases that a store tells have gained the values at the places of a value or `om`, whatever is kept
abbrev pub HaveGained : Mode → BasesState → BasesState → Option Datum → Type 0
HaveGained m bs cs v = (kept : List (Here × Kept)) → bases_of cs kept ≡ with_part m v (bases_of bs kept)

-- a slot was updated, and the bases have gained what it holds
pub record IsUpdatedAt (gives : Option Datum → ℕ → Outcome) (m : Mode) (bs cs : BasesState) (at : ℕ) (e e' : Here) (result : Result Bool AllocError) : Type 0 where
  pub before : Held
  pub after : Held
  pub was : Some before ≡ slice_get e.slots at
  pub put : e' ≡ with_slot e at after
  pub update : IsSlotUpdate gives bs cs before after result
  pub gained : IfOk result (λ t. t ≡ true → (v : Option Datum) → content_of cs after ≡ Some v → HaveGained m bs cs v)
