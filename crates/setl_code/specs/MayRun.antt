-- Code that a machine may run: each slot that a step names is there, each stands for a variable of its own, and each
-- operator has as many operands as it needs.
use Rattle.std.specs.Prelude.{◌≡◌, ℕ, suc, ◌+◌, ◌<◌, false, List, [], ◌∷◌, length, Some}
use Rattle.setl_model_runs.specs.Variable.{Variable}
use Rattle.setl_operators_table.specs.Operators.{operand_count, TakesOperands}
use Rattle.setl_code.specs.declared.code.Slot.{Slot}
use Rattle.setl_code.specs.declared.code.Slot.TheVariants as slot
use Rattle.setl_code.specs.declared.code.Alteration.{Alteration}
use Rattle.setl_code.specs.declared.code.Alteration.TheVariants as alteration
use Rattle.setl_code.specs.declared.code.Instr.{Instr}
use Rattle.setl_code.specs.declared.code.Instr.TheVariants as i
use Rattle.setl_code.specs.declared.code.Step.{Step}
use Rattle.setl_code.specs.declared.code.Body.{Body}
use Rattle.setl_code.specs.declared.code.Code.{Code}
use Rattle.setl_code.specs.Names.{is_among}
use Rattle.setl_code.specs.Plain.{own_variables, plain_code}

-- the slot is there, among so many that all bodies see and so many of the body's own
abbrev pub HasSlot : (globals own : ℕ) → Slot → Type 0
HasSlot globals own (slot.Global k) = k < globals
HasSlot globals own (slot.Own k) = k < own

-- the operator of an update has two operands
abbrev pub CanAlter : Alteration → Type 0
CanAlter alteration.Put = Unit {0}
CanAlter (alteration.Combine o) = operand_count o ≡ Some 2
CanAlter (alteration.TakeOut k) = Unit {0}

-- what an instruction names is there, and its operator has as many operands as it needs
abbrev pub InstrFits : (globals own : ℕ) → Instr → Type 0
InstrFits globals own (i.Load x) = HasSlot globals own x
InstrFits globals own (i.Take x) = HasSlot globals own x
InstrFits globals own (i.Store x) = HasSlot globals own x
InstrFits globals own (i.Operate o n) = TakesOperands o n
InstrFits globals own (i.Alter a x bs) = HasSlot globals own x × CanAlter a
InstrFits globals own what = Unit {0}

abbrev pub StepsFit : (globals own : ℕ) → List Step → Type 0
StepsFit globals own [] = Unit {0}
StepsFit globals own (s ∷ ss) = InstrFits globals own s.what × StepsFit globals own ss

-- no variable stands twice
abbrev pub Differ : List Variable → Type 0
Differ [] = Unit {0}
Differ (x ∷ xs) = (is_among xs x ≡ false) × Differ xs

-- the bodies from this number on
abbrev pub BodiesFit : (globals n : ℕ) → List Body → Type 0
BodiesFit globals n [] = Unit {0}
BodiesFit globals n (b ∷ bs) =
    Differ (own_variables n b.parameters b.names)
    × StepsFit globals (length b.parameters + length b.names) b.steps
    × BodiesFit globals (suc n) bs

abbrev pub MayRun : Code → Type 0
MayRun c = Differ (plain_code c).vars × BodiesFit (length c.vars) 0 c.bodies
