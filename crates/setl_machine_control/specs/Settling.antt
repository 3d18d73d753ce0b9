-- How an update of a variable ends.
use Rattle.std.specs.Prelude.{◌≡◌, ◌⊎◌, ℕ, suc, ◌-◌, true, Option, Some, None, Result, Ok, Err}
use Rattle.setl_value.specs.Datum.{Datum}
use Rattle.setl_operators_table.specs.declared.OpFault.{OpFault}
use Rattle.setl_model_runs.specs.Variable.{Variable}
use Rattle.setl_code.specs.CodeCore.{There, write}
use Rattle.setl_store.specs.Standing.{Standing, at_place}
use Rattle.setl_machine_control.specs.Control.{ControlState}
use Rattle.setl_machine_control.specs.Declaring.{Modes, tested, Tests}
use Rattle.setl_machine_control.specs.Working.{EndsBy}
use Rattle.setl_machine_control.specs.declared.end.End.{End}
use Rattle.setl_machine_control.specs.declared.end.End.TheVariants as end
use Rattle.setl_machine_control.specs.declared.end.StopKind.TheVariants as kind

-- what a variable holds after an update to a whole: the whole, where it isn't tested or fits, and the code goes on; or what
-- was kept, and the run stops at the variable's declaration
abbrev pub Settles : Modes → ℕ → Variable → (whole : Option Datum) → (kept : Option (Option Datum)) → (holds : Option Datum) → End → Type 0
Settles modes line x whole kept holds end.Paused = (holds ≡ whole) × ((kept ≡ None) ⊎ (tested modes x whole ≡ true))
Settles modes line x whole kept holds (end.Stopped (kind.Unfit k) at) = (at ≡ line) × (kept ≡ Some holds) × Tests modes x whole (Some k)
Settles modes line x whole kept holds e = ⊥

-- the variable holds that now, and all is as before but for the bases
abbrev pub StoresWhole : Modes → ℕ → Variable → (whole : Option Datum) → (kept : Option (Option Datum)) → Standing → Standing → End → Type 0
StoresWhole modes line x whole kept old new e = (holds : Option Datum) × Settles modes line x whole kept holds e × (record new { bases = old.bases } ≡ record old { core = write x (There holds) old.core })

-- the variable holds that now, and the code is at the next step with the turns that an update left, and all is as before but for
-- the bases; or its fault ends the run
abbrev pub EndsUpdate : Modes → Result ℕ OpFault → ℕ → Variable → (whole : Option Datum) → (kept : Option (Option Datum)) → Standing → ControlState → Standing → ControlState → End → Type 0
EndsUpdate modes (Ok left) line x whole kept old from new to e =
    (holds : Option Datum)
    × Settles modes line x whole kept holds e
    × (record new { bases = old.bases } ≡ record old { core = at_place (suc old.core.now.at) (write x (There holds) old.core) })
    × (to ≡ record from { turns = from.turns - (from.turns - left) })
EndsUpdate modes (Err f) line x whole kept old from new to e = EndsBy f line e × (new ≡ record old { core = write x (There whole) old.core }) × (to ≡ from)
