-- What calls tell that read a part, or take a value out of one that stands alone. No public clause cites this module.
use Rattle.std.specs.Prelude.{◌≡◌, ℕ, true, false, Result, Ok, Err, Option, Some, None}
use Rattle.setl_value.specs.Datum.{Datum}
use Rattle.setl_value.specs.code.DatumOf.{part}
use Rattle.setl_operators_table.specs.declared.OpFault.{OpFault}
use Rattle.setl_operators_table.specs.declared.OpFault.TheVariants.{NoMemory}
use Rattle.setl_operators_table.specs.declared.Taken.{Taken}
use Rattle.setl_operators_table.specs.code.Answers.{Tells}
use Rattle.setl_operators_table.specs.Outcome.{Outcome, Fails}
use Rattle.setl_model.specs.Places.{TakesOut, IsEmpty, CannotTake}
use Rattle.setl_model.specs.Places as places
use Rattle.setl_machine_updates.specs.declared.selectors.Part.{Part}
use Rattle.setl_machine_updates.specs.Updates.{Leaves}

-- the part that an outcome gives, with the turns that are left, or its fault
abbrev pub Reads : Outcome → ℕ → Result Part OpFault → Type 0
Reads o turns (Ok p) = Leaves o turns (part p.value) p.left
Reads o turns (Err e) = Tells (Err e) o

-- what is taken out of a whole, which is then `new`
abbrev pub TakesOne : places.Taken → Option Datum → Result Taken OpFault → Type 0
TakesOne (TakesOut rest v) new (Ok t) = (t.stored ≡ true) × (part t.value ≡ v) × (new ≡ Some rest)
TakesOne (TakesOut rest v) new (Err e) = e ≡ NoMemory
TakesOne IsEmpty new (Ok t) = (t.stored ≡ false) × (t.value ≡ None)
TakesOne IsEmpty new (Err e) = e ≡ NoMemory
TakesOne (CannotTake f) new (Ok t) = ⊥
TakesOne (CannotTake f) new (Err e) = Tells (Err e) (Fails f)
