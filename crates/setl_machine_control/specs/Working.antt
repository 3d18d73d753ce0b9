-- What an instruction did.
use Rattle.std.specs.Prelude.{◌≡◌, ℕ, List, Option, Some, None}
use Rattle.setl_value.specs.code.DatumOf.{part}
use Rattle.setl_value.specs.declared.Value.{Value}
use Rattle.setl_operators_table.specs.declared.OpFault.{OpFault}
use Rattle.setl_operators_table.specs.declared.OpFault.TheVariants as fault
use Rattle.setl_model_runs.specs.Events as run
use Rattle.setl_model_runs.specs.Run.{Move, Halts}
use Rattle.setl_model.specs.World.{World}
use Rattle.setl_code.specs.Code.{Instr}
use Rattle.setl_code.specs.Plain.{plain_code}
use Rattle.setl_code.specs.CodeCore.{CodeCore}
use Rattle.setl_store.specs.Standing.{Standing, over, top_of}
use Rattle.setl_machine_control.specs.Control.{ControlState, in_world, stood_for}
use Rattle.setl_machine_control.specs.Declaring.{Modes}
use Rattle.setl_machine_control.specs.Answers.{next_of, kind_of, Quiet}
use Rattle.setl_machine_control.specs.declared.end.End.{End}
use Rattle.setl_machine_control.specs.declared.end.End.TheVariants as end
use Rattle.setl_machine_control.specs.declared.end.StopKind.TheVariants as kind

-- one that neither stores nor reads nor writes nor changes the control, but for the bases: whatever is declared and the world is
abbrev pub WorksApart : Standing → ℕ → Instr → Standing → End → Type 0
WorksApart old line what new e = (new.code ≡ old.code) × ((modes : Modes) (w : World) → Quiet modes (next_of modes (plain_code old.code) line what (in_world w old.core)) (in_world w new.core) e)

-- one that neither stores nor reads nor writes, but for the bases: whatever is declared and is still to come from the input
abbrev pub DoesApart : Standing → ControlState → ℕ → Instr → Standing → ControlState → End → Type 0
DoesApart old from line what new to e =
    (new.code ≡ old.code) × ((modes : Modes) (rest : List ℕ) → Quiet modes (next_of modes (plain_code old.code) line what (stood_for old.core from rest)) (stood_for new.core to rest) e)

-- the same of one that leaves the bases as they are
abbrev pub Works : Standing → ℕ → Instr → Standing → End → Type 0
Works old line what new e =
    (new.code ≡ old.code) × ((modes : Modes) (w : World) → Quiet modes (next_of modes (plain_code old.code) line what (in_world w old.core)) (in_world w new.core) e) × (new.bases ≡ old.bases)

abbrev pub Does : Standing → ControlState → ℕ → Instr → Standing → ControlState → End → Type 0
Does old from line what new to e =
    (new.code ≡ old.code)
    × ((modes : Modes) (rest : List ℕ) → Quiet modes (next_of modes (plain_code old.code) line what (stood_for old.core from rest)) (stood_for new.core to rest) e)
    × (new.bases ≡ old.bases)

-- one that neither reads nor writes nor changes the control, where these declarations count: whatever the world is
abbrev pub WorksBy : Modes → Standing → ℕ → Instr → Standing → End → Type 0
WorksBy modes old line what new e = (new.code ≡ old.code) × ((w : World) → Quiet modes (next_of modes (plain_code old.code) line what (in_world w old.core)) (in_world w new.core) e)

-- one that neither reads nor writes, where these declarations count: whatever is still to come from the input
abbrev pub DoesBy : Modes → Standing → ControlState → ℕ → Instr → Standing → ControlState → End → Type 0
DoesBy modes old from line what new to e = (new.code ≡ old.code) × ((rest : List ℕ) → Quiet modes (next_of modes (plain_code old.code) line what (stood_for old.core from rest)) (stood_for new.core to rest) e)

-- the code halts there, and the answer says how, whatever is declared
abbrev pub Halted : Move CodeCore → End → Type 0
Halted (Halts e) end.Done = e ≡ run.Done
Halted (Halts e) (end.Stopped why line) = (modes : Modes) → e ≡ run.Stopped (kind_of modes why) line
Halted (Halts e) end.Spent = e ≡ run.Spent
Halted (Halts e) end.Stuck = e ≡ run.Stuck
Halted m e = ⊥

-- the top was taken off, if it serves as a value
abbrev pub PopsTop : Standing → Option (Option Value) → Standing → Type 0
PopsTop old None new = (top_of old.core.now.operands ≡ None) × (new ≡ old)
PopsTop old (Some v) new = (top_of old.core.now.operands ≡ Some (part v, new.core.now.operands)) × (new ≡ record old { core = over new.core.now.operands old.core })

-- how a fault of an operator at a line ends the run; want of memory is no such end
abbrev pub EndsBy : OpFault → ℕ → End → Type 0
EndsBy fault.Kind line e = e ≡ end.Stopped kind.Kind line
EndsBy fault.Om line e = e ≡ end.Stopped kind.Om line
EndsBy fault.Wide line e = e ≡ end.Stopped kind.Wide line
EndsBy fault.Zero line e = e ≡ end.Stopped kind.Zero line
EndsBy fault.Range line e = e ≡ end.Stopped kind.Range line
EndsBy fault.Deep line e = e ≡ end.Stopped kind.Deep line
EndsBy fault.Spent line e = e ≡ end.Spent
EndsBy fault.NoMemory line e = ⊥
