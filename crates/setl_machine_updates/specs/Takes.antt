-- What a call tells that takes a value out of the part at some selectors.
use Rattle.std.specs.Prelude.{◌≡◌, ℕ, ◌-◌, true, false, List, Result, Ok, Err, Option, Some, None}
use Rattle.setl_value.specs.Datum.{Datum}
use Rattle.setl_value.specs.code.DatumOf.{part}
use Rattle.setl_operators_table.specs.declared.OpFault.{OpFault}
use Rattle.setl_operators_table.specs.declared.OpFault.TheVariants.{NoMemory}
use Rattle.setl_operators_table.specs.code.Answers.{Tells}
use Rattle.setl_operators_table.specs.Outcome.{Outcome, Gives, Fails, Overspends}
use Rattle.setl_program.specs.declared.kinds.Taking.{Taking}
use Rattle.setl_model.specs.Core.{Selected}
use Rattle.setl_model.specs.Places.{Taken, TakesOut, IsEmpty, CannotTake, part_at_all, with_part_at_all, take_out}
use Rattle.setl_machine_updates.specs.declared.taking.TakenOut.{TakenOut}
use Rattle.setl_machine_updates.specs.Updates.{Leaves}

-- by what is taken out of the part, with the turns that reading it leaves: the rest is put there with the turns then
-- left, where none is taken nothing changes, and a fault is told
abbrev pub TakesPart : Taken → List Selected → Option Datum → ℕ → Option Datum → Result TakenOut OpFault → Type 0
TakesPart (TakesOut rest v) at whole turns new (Ok t) = (t.stored ≡ true) × (part t.value ≡ v) × Leaves (with_part_at_all at whole (Some rest) turns) turns new t.left
TakesPart (TakesOut rest v) at whole turns new (Err e) = Tells (Err e) (with_part_at_all at whole (Some rest) turns)
TakesPart IsEmpty at whole turns new (Ok t) = (t.stored ≡ false) × (t.value ≡ None) × (new ≡ whole) × (t.left ≡ turns)
TakesPart IsEmpty at whole turns new (Err e) = e ≡ NoMemory
TakesPart (CannotTake f) at whole turns new (Ok t) = ⊥
TakesPart (CannotTake f) at whole turns new (Err e) = Tells (Err e) (Fails f)

-- by what reading the part gives
abbrev pub TakesFrom : Outcome → Taking → List Selected → Option Datum → ℕ → Option Datum → Result TakenOut OpFault → Type 0
TakesFrom (Gives p charged) end at whole turns new r = TakesPart (take_out end p) at whole (turns - charged) new r
TakesFrom (Fails f) end at whole turns new (Ok t) = ⊥
TakesFrom (Fails f) end at whole turns new (Err e) = Tells (Err e) (Fails f)
TakesFrom Overspends end at whole turns new (Ok t) = ⊥
TakesFrom Overspends end at whole turns new (Err e) = Tells (Err e) Overspends

-- the part at the selectors is read, a value is taken out of it, and the rest is put there: `new` is the whole then
abbrev pub Takes : Taking → List Selected → Option Datum → ℕ → Option Datum → Result TakenOut OpFault → Type 0
Takes end at whole turns new r = TakesFrom (part_at_all at whole turns) end at whole turns new r
