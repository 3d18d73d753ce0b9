-- Operators that charge nothing.
use Rattle.std.specs.Prelude.{◌≡◌, ℕ, Bool, true, false, List, [], ◌∷◌, drop, Some}
use Rattle.setl_value.specs.Datum.{Datum}
use Rattle.setl_operators_table.specs.declared.Operator.{Operator}
use Rattle.setl_operators_table.specs.Operators.{op_of, operand_count}
use Rattle.setl_operators_table.specs.Outcome.{Gives}
use Rattle.setl_model_runs.specs.Variable.{Variable}
use Rattle.setl_code.specs.Code.{Instr, Bracket, Alteration, Combining}
use Rattle.setl_code.specs.CodeCore.{There, Operand, Result as Holds, CodeCore, held}
use Rattle.setl_store.specs.Standing.{Standing}
use Rattle.setl_machine_control.specs.Declaring.{Modes, tested}
use Rattle.setl_machine_control.specs.Working.{WorksBy}
use Rattle.setl_machine_control.specs.declared.end.End.TheVariants as end

-- the operator has two operands, and of these it gives that for no turn, however many are left
abbrev pub GivesFreely : Operator → (a b d : Datum) → Type 0
GivesFreely o a b d = (operand_count o ≡ Some 2) × ((left : ℕ) → op_of o (Some a ∷ Some b ∷ []) left ≡ Gives (Some d) 0)

-- it gives this so of the two values on top
abbrev pub OnTop : Operator → List Operand → Datum → Type 0
OnTop o xs d = (a : Datum) × (b : Datum) × (xs ≡ Holds (Some b) ∷ Holds (Some a) ∷ drop 2 xs) × GivesFreely o a b d

-- the operator has one operand, and of it it gives that for no turn, however many are left
abbrev pub GivesAlone : Operator → (a d : Datum) → Type 0
GivesAlone o a d = (operand_count o ≡ Some 1) × ((left : ℕ) → op_of o (Some a ∷ []) left ≡ Gives (Some d) 0)

-- it gives this so of the value on top
abbrev pub OnTopAlone : Operator → List Operand → Datum → Type 0
OnTopAlone o xs d = (a : Datum) × (xs ≡ Holds (Some a) ∷ drop 1 xs) × GivesAlone o a d

-- an operator gives this so of what a variable holds and the value on top
abbrev pub InPlace : Operator → Variable → CodeCore → Datum → Type 0
InPlace o x k d = (a : Datum) × (b : Datum) × (held x k ≡ There (Some a)) × (k.now.operands ≡ Holds (Some b) ∷ drop 1 k.now.operands) × GivesFreely o a b d

-- an update without selectors combines so, and the variable takes what is given
abbrev pub AltersFreely : Modes → Alteration → Variable → List Bracket → CodeCore → Datum → Type 0
AltersFreely modes what x bs k d = (tested modes x (Some d) ≡ true) × (bs ≡ []) × ((o : Operator) × (what ≡ Combining o) × InPlace o x k d)

-- the instruction was done and the run goes on, or all is as before
abbrev pub WorksOrLeaves : Modes → Standing → ℕ → Instr → Standing → Bool → Type 0
WorksOrLeaves modes old line what new true = WorksBy modes old line what new end.Paused
WorksOrLeaves modes old line what new false = new ≡ old
