-- The families of instructions.
use Rattle.setl_code.specs.declared.code.Instr as code
use Rattle.setl_code.specs.declared.code.Instr.TheVariants as i
use Rattle.setl_machine.specs.declared.families.Family.{Family}
use Rattle.setl_machine.specs.declared.families.Family.TheVariants.{Values, Variables, Operators, Conditions, Iteration, Calls, Backtracking, Outside}

abbrev pub family_of : code.Instr → Family
family_of (i.Integer n) = Values
family_of (i.Text t) = Values
family_of (i.Truth t) = Values
family_of i.Undefined = Values
family_of (i.Load x) = Variables
family_of (i.Take x) = Variables
family_of (i.Store x) = Variables
family_of (i.Alter a x bs) = Variables
family_of (i.Operate o n) = Operators
family_of i.NewAtom = Operators
family_of i.Eof = Operators
family_of (i.Decide c to) = Conditions
family_of i.TestTruth = Conditions
family_of (i.Unless to) = Conditions
family_of (i.Jump to) = Conditions
family_of i.Discard = Conditions
family_of i.Duplicate = Conditions
family_of i.Stop = Conditions
family_of (i.Parts n) = Iteration
family_of (i.Begin how n) = Iteration
family_of (i.Next to) = Iteration
family_of (i.Collect c) = Iteration
family_of (i.Add n) = Iteration
family_of (i.Leave n) = Iteration
family_of i.Round = Iteration
family_of (i.Call n) = Calls
family_of i.Return = Calls
family_of i.Keep = Backtracking
family_of i.Back = Backtracking
family_of i.Forget = Backtracking
family_of (i.Print n) = Outside
family_of i.Read = Outside

-- its events rest neither on operands nor on slots
abbrev pub IsToldAlone : code.Instr → Type 0
IsToldAlone (i.Store x) = ⊥
IsToldAlone (i.Alter a x bs) = ⊥
IsToldAlone (i.Call n) = ⊥
IsToldAlone (i.Print n) = ⊥
IsToldAlone what = Unit {0}
