-- What the main program has, whatever body is at work.
use Rattle.std.specs.Prelude.{◌≡◌, ℕ, false, List, length, Option, Some, None, slice_get}
use Rattle.setl_value.specs.Datum.{Datum}
use Rattle.setl_value.specs.code.DatumOf.{datum}
use Rattle.setl_model.specs.Entered.{Base}
use Rattle.setl_model_runs.specs.Variable.{Variable, Global, Own, Bound}
use Rattle.setl_modes.specs.declared.mode.Mode.{Mode}
use Rattle.setl_modes.specs.Modes.{mode_of}
use Rattle.setl_code.specs.declared.code.Code.{Code}
use Rattle.setl_code.specs.declared.code.Slot.{Slot}
use Rattle.setl_code.specs.CodeCore.{Held, There, Gone}
use Rattle.setl_code.specs.MayRun.{HasSlot}
use Rattle.setl_code.specs.Names.{is_among}
use Rattle.setl_code.specs.Plain.{Variables, plain_code}
use Rattle.setl_rep_bases.specs.BaseId.{main}
use Rattle.setl_rep_bases.specs.Bases.{BasesState, base_at}
use Rattle.setl_rep_building.specs.HasForm.{HasFormOrOm}
use Rattle.setl_rep_entering.specs.Entering.{values_in}
use Rattle.setl_rep_forms.specs.declared.held.Held.{Held as Form}
use Rattle.setl_rep_forms.specs.FormOf.{form}
use Rattle.setl_rep_plain.specs.Standing.{held_value, IsHeldOver}
use Rattle.setl_store.specs.Standing.{variables_in}
use Rattle.setl_store.specs.declared.main_program.Stored.{Stored}
use Rattle.setl_store.specs.declared.main_program.Stored.TheVariants as stored

-- ---- variables

-- the variables of the main program, by its slots
abbrev pub main_variables : Code → Variables
main_variables c = variables_in (plain_code c) 0

-- it has this slot
abbrev pub HasMainSlot : Code → Slot → Type 0
HasMainSlot c x = HasSlot (length (main_variables c).global) (length (main_variables c).own) x

-- it doesn't have this variable
abbrev pub IsMissing : Code → Variable → Type 0
IsMissing c (Global name) = is_among (main_variables c).global (Global name) ≡ false
IsMissing c (Own body name) = is_among (main_variables c).own (Own body name) ≡ false
IsMissing c (Bound former name) = is_among (main_variables c).own (Bound former name) ≡ false

-- ---- what is lent

-- The form stands over these bases for this value, or for `om`, and is that in which the main program holds a value of the
-- mode.
pub record IsFormed (bs : BasesState) (v : Option Datum) (m : Mode) (h : Form) : Type 0 where
  pub value : held_value bs h ≡ v
  pub over : IsHeldOver bs h
  pub form : HasFormOrOm main (mode_of m) (form h)

-- what a variable holds, as the store has it over these bases
abbrev pub IsStored : BasesState → Held → Stored → Type 0
IsStored bs (There v) (stored.Based m h) = IsFormed bs v m.now h.now
IsStored bs Gone stored.Taken = Unit {0}
IsStored bs (There None) stored.Om = Unit {0}
IsStored bs (There (Some d)) (stored.Value v) = datum v.now ≡ d
IsStored bs h s = ⊥

-- these are the bases that are told: so many, with these members
pub record AreTold (told : List Base) (bs : BasesState) : Type 0 where
  pub count : bs.count ≡ length told
  pub members : (n : ℕ) (b : Base) → slice_get told n ≡ Some b → values_in (base_at bs (main n)) ≡ b.members
