-- Operators on values in forms.
use Rattle.std.specs.Prelude.{◌≡◌, ℕ, Bool, List, [], ◌∷◌, drop, Option}
use Rattle.setl_value.specs.Datum.{Datum}
use Rattle.setl_operators_table.specs.declared.Operator.{Operator}
use Rattle.setl_operators_table.specs.Operators.{op_of}
use Rattle.setl_operators_table.specs.Outcome.{truth, value}
use Rattle.setl_code.specs.CodeCore.{Operand, Result as Holds}

-- an operator gives this truth value of the two results on top, for no turn, however many are left
abbrev pub TellsOfTwo : Operator → List Operand → Bool → Type 0
TellsOfTwo o xs t = (a b : Option Datum) × (xs ≡ Holds b ∷ Holds a ∷ drop 2 xs) × ((left : ℕ) → op_of o (a ∷ b ∷ []) left ≡ truth t)

-- it gives this value of the one on top so
abbrev pub GivesOfOne : Operator → List Operand → Datum → Type 0
GivesOfOne o xs d = (a : Option Datum) × (xs ≡ Holds a ∷ drop 1 xs) × ((left : ℕ) → op_of o (a ∷ []) left ≡ value d)
