-- What the instructions on operands, bodies and the outside did, and the kinds of instructions.
use Rattle.std.specs.Prelude.{◌≡◌, ℕ, zero, suc, Bool, true, false, List, [], ◌∷◌, length, slice_get, Option, Some, None, Result, Ok, Err}
use Rattle.std.specs.Global.{Vec}
use Rattle.std.specs.declared.alloc.AllocError.{AllocError}
use Rattle.std.specs.Io.KnownBytes.{Appends}
use Rattle.setl_io.specs.Faults.{Rose}
use Rattle.setl_io.specs.Sink.{AppendsPart}
use Rattle.setl_value.specs.Datum.{Datum, bool}
use Rattle.setl_text.specs.Texts.{print_line}
use Rattle.setl_text.specs.declared.ReadFault.{ReadFault}
use Rattle.setl_text.specs.declared.ReadFault.TheVariants as read
use Rattle.setl_program.specs.declared.kinds.Connective.{Connective}
use Rattle.setl_program.specs.declared.kinds.Connective.TheVariants.{And, Or, Implies}
use Rattle.setl_model_runs.specs.Run.{Move, Next, step}
use Rattle.setl_model.specs.World.{branch}
use Rattle.setl_code.specs.Code.{Body, Instr}
use Rattle.setl_code.specs.Plain.{plain_code}
use Rattle.setl_code.specs.CodeCore.{Operand, Result as Holds, Pops, Lacks, popped, CodeCore}
use Rattle.setl_code.specs.Machine.{machine, on_top}
use Rattle.setl_store.specs.Bodies.{entered}
use Rattle.setl_store.specs.Standing.{Standing, over, at_place}
use Rattle.setl_machine_control.specs.Control.{ControlState, TakesTurn, stood_for}
use Rattle.setl_machine_control.specs.Declaring.{Modes, tested}
use Rattle.setl_machine_control.specs.Answers.{start, next_of, Quiet}
use Rattle.setl_machine_control.specs.Working.{Halted}
use Rattle.setl_machine.specs.Outcome.{Seen, NoFault, AppendsFront}
use Rattle.setl_machine_control.specs.declared.end.End.{End}
use Rattle.setl_machine_control.specs.declared.end.End.TheVariants as end
use Rattle.setl_machine_control.specs.declared.end.StopKind.TheVariants as kind

-- ---- operands

-- a truth value is on top, or the code halts there where it has to be one
abbrev pub Judges : List Operand → ℕ → Result Bool End → Type 0
Judges xs line (Ok t) = (ys : List Operand) × (xs ≡ Holds (Some (bool t)) ∷ ys)
Judges xs line (Err e) = (f g : Option Datum → List Operand → Move CodeCore) → Halted (on_top xs (λ v ys. branch v line (f v ys) (g v ys))) e

-- the answer of a connective, where the left part decides it
abbrev pub decided : Connective → Bool → Option Bool
decided And false = Some false
decided Or true = Some true
decided Implies false = Some true
decided what left = None

-- a body has so many parameters, or there is no body
abbrev pub HasParameters : Option Body → Option ℕ → Type 0
HasParameters None None = Unit {0}
HasParameters (Some b) (Some n) = length b.parameters ≡ n
HasParameters b n = ⊥

-- the arguments of the body of this number were taken off, or there is no such body or there are too few
abbrev pub TakesArguments : ℕ → Standing → Option (List (Option Datum)) → Standing → Type 0
TakesArguments n old None new =
    (new ≡ record old { core = over new.core.now.operands old.core })
    × ((count : ℕ) → HasParameters (slice_get (plain_code old.code).bodies n) (Some count) → popped count [] old.core.now.operands ≡ Lacks)
TakesArguments n old (Some vs) new =
    (new ≡ record old { core = over new.core.now.operands old.core })
    × HasParameters (slice_get (plain_code old.code).bodies n) (Some (length vs))
    × (popped (length vs) [] old.core.now.operands ≡ Pops vs new.core.now.operands)

-- one turn was taken and the body is at work with these values in its parameters, or no turn is left
abbrev pub Begins : ℕ → List (Option Datum) → Standing → ControlState → Standing → ControlState → End → Type 0
Begins n vs old from new to end.Paused = TakesTurn from true to × (new ≡ record old { core = entered n (slice_get (plain_code old.code).bodies n) vs old.core })
Begins n vs old from new to end.Spent = TakesTurn from false to × (new ≡ old)
Begins n vs old from new to e = ⊥

-- a component of a tuple, which has `om` behind its last one
abbrev pub component_of : List (Option Datum) → ℕ → Option Datum
component_of [] at = None
component_of (p ∷ ps) zero = p
component_of (p ∷ ps) (suc at) = component_of ps at

-- ---- printing

-- the line of so many operands, which were taken off; or there are too few
abbrev pub TakesLine : ℕ → Standing → Result (Vec ℕ) End → Standing → Type 0
TakesLine n old (Ok line) new =
    (new ≡ record old { core = over new.core.now.operands old.core })
    × ((vs : List (Option Datum)) × (popped n [] old.core.now.operands ≡ Pops vs new.core.now.operands) × (line.items ≡ print_line vs))
TakesLine n old (Err end.Stuck) new = (new ≡ record old { core = over new.core.now.operands old.core }) × (popped n [] old.core.now.operands ≡ Lacks)
TakesLine n old (Err end.NoMemory) new = Unit {0}
TakesLine n old (Err e) new = ⊥

-- a line was written, and the code is at the next step
abbrev pub WritesLine : List ℕ → Standing → Seen → Standing → Seen → End → Type 0
WritesLine line old from new to end.Paused = (new ≡ record old { core = at_place (suc old.core.now.at) old.core }) × Appends from.held to.held line × NoFault from to
WritesLine line old from new to end.WriteFault = AppendsPart from.held to.held line × Rose from.faults to.faults × (to.input_faults ≡ from.input_faults)
WritesLine line old from new to end.NoMemory = AppendsFront from.held to.held line × NoFault from to
WritesLine line old from new to e = ⊥

-- ---- reading

-- how a fault of a read at a line ends the run
abbrev pub EndsReading : ReadFault → ℕ → End → Type 0
EndsReading read.Form line e = e ≡ end.Stopped kind.Form line
EndsReading read.Wide line e = e ≡ end.Stopped kind.Wide line
EndsReading read.Deep line e = e ≡ end.Stopped kind.Deep line
EndsReading read.Source line e = e ≡ end.ReadFault
EndsReading read.NoMemory line e = e ≡ end.NoMemory

-- ---- done at once

-- whether the run goes on after an instruction, or how it ended
abbrev pub went_on : Result End AllocError → Result Bool End
went_on (Ok end.Paused) = Ok true
went_on (Ok e) = Err e
went_on (Err e) = Err end.NoMemory

-- What comes next by the rest of the input was done, and the run goes on or ends so; or all is as before. Neither read nor
-- written was anything.
abbrev pub GoesOrLeaves : Modes → (List ℕ → Next CodeCore) → Standing → ControlState → Standing → ControlState → Result Bool End → Type 0
GoesOrLeaves modes by old from new to (Ok true) = (new.code ≡ old.code) × ((rest : List ℕ) → Quiet modes (by rest) (stood_for new.core to rest) end.Paused)
GoesOrLeaves modes by old from new to (Ok false) = (new ≡ old) × (to ≡ from)
GoesOrLeaves modes by old from new to (Err end.Paused) = ⊥
GoesOrLeaves modes by old from new to (Err e) = (rest : List ℕ) → Quiet modes (by rest) (stood_for new.core to rest) e

-- the same of an instruction of a line, and of the next step
abbrev pub DoesOrLeaves : Modes → Standing → ControlState → ℕ → Instr → Standing → ControlState → Result Bool End → Type 0
DoesOrLeaves modes old from line what new to r = GoesOrLeaves modes (λ rest. next_of modes (plain_code old.code) line what (stood_for old.core from rest)) old from new to r

abbrev pub StepsOrLeaves : Modes → Standing → ControlState → Standing → ControlState → Result Bool End → Type 0
StepsOrLeaves modes old from new to r = GoesOrLeaves modes (λ rest. step (machine (plain_code old.code)) (tested modes) (start (stood_for old.core from rest))) old from new to r
