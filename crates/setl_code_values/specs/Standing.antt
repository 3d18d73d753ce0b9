-- States of the stack machine in which every value is a value.
use Rattle.std.specs.Prelude.{◌+◌, ◌≤◌, ◌^◌, List, [], Option, Some, None}
use Rattle.std.specs.List.{AllByRecursion}
use Rattle.setl_value.specs.Datum.{Datum}
use Rattle.setl_operators_laws.specs.TupleValues.{PartStands}
use Rattle.setl_operators_laws.specs.ValueLaws.{IsValueOrOm, CountFits}
use Rattle.setl_model_runs.specs.Events.{Event, Called, Returned, Stored, Printed, Kept, Back, Forgot}
use Rattle.setl_model_runs.specs.Run.{State}
use Rattle.setl_model.specs.World.{World}
use Rattle.setl_model_values.specs.ModelValues.{AreBytes, ItemIsValue, PlacesFit}
use Rattle.setl_code.specs.Code.{Instr, Push, Operate, BeginOver, Step, Body, Code}
use Rattle.setl_code.specs.CodeCore.{Held, There, Gone, Cells, Operand, Result, Iterator, PairIterator, Collecting, Popped, Pops, Lacks, popped, Activation, Copy, CodeCore}

abbrev pub HeldStands : Held → Type 0
HeldStands (There v) = IsValueOrOm v
HeldStands Gone = Unit {0}

abbrev pub CellsStand : Cells → Type 0
CellsStand cells = AllByRecursion (λ c. HeldStands c.1) cells

-- a result, items that are left, or members and components that are collected
abbrev pub OperandStands : Operand → Type 0
OperandStands (Result v) = IsValueOrOm v
OperandStands (Iterator items) = AllByRecursion ItemIsValue items
OperandStands (PairIterator items) = AllByRecursion ItemIsValue items
OperandStands (Collecting k got) = AllByRecursion (PartStands 499) got

abbrev pub OperandsStand : List Operand → Type 0
OperandsStand xs = AllByRecursion OperandStands xs

abbrev pub ActivationStands : Activation → Type 0
ActivationStands a = CellsStand a.own × OperandsStand a.operands

abbrev pub CopyStands : Copy → Type 0
CopyStands c = CellsStand c.globals × ActivationStands c.now × AllByRecursion ActivationStands c.callers

-- the input is bytes, and no atom to come is out of range
abbrev pub WorldStands : World → Type 0
WorldStands w = AreBytes w.input × (w.atom + w.left ≤ 2 ^ 64)

-- what all bodies see, the body at work, those that wait for it, what `fail` brings back, and the world
abbrev pub CoreStands : CodeCore → Type 0
CoreStands k = CellsStand k.globals × ActivationStands k.now × AllByRecursion ActivationStands k.callers × AllByRecursion CopyStands k.kept × WorldStands k.world

abbrev pub EventStands : Event → Type 0
EventStands (Stored line x v) = IsValueOrOm v
EventStands (Printed bs) = AreBytes bs
EventStands (Called line name) = Unit {0}
EventStands (Returned name) = Unit {0}
EventStands Kept = Unit {0}
EventStands Back = Unit {0}
EventStands Forgot = Unit {0}

abbrev pub StateStands : State CodeCore → Type 0
StateStands s = CoreStands s.core × AreBytes s.out × AllByRecursion EventStands s.events

-- ---- code

-- what a code pushes is a value
abbrev pub InstrStands : Instr → Type 0
InstrStands (Push v) = IsValueOrOm v
InstrStands i = Unit {0}

abbrev pub BodyStands : Body → Type 0
BodyStands b = AllByRecursion (λ s. InstrStands s.1) b.steps

abbrev pub CodeStands : Code → Type 0
CodeStands c = AllByRecursion BodyStands c.bodies

-- ---- counts

abbrev pub PoppedFit : (List (Option Datum) → Type 0) → Popped → Type 0
PoppedFit fit (Pops vs rest) = fit vs
PoppedFit fit Lacks = Unit {0}

-- what the next step counts or numbers is fewer than 2^127
abbrev pub InstrCounts : Instr → CodeCore → Type 0
InstrCounts (Operate o n) k = PoppedFit (CountFits o) (popped n [] k.now.operands)
InstrCounts (BeginOver b n) k = PoppedFit (PlacesFit b) (popped n [] k.now.operands)
InstrCounts i k = Unit {0}

abbrev pub StepCounts : Option Step → CodeCore → Type 0
StepCounts None k = Unit {0}
StepCounts (Some s) k = InstrCounts s.1 k
