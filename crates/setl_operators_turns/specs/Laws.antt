-- The law of the turns that are left.
use Rattle.std.specs.Prelude.{◌≤◌, ℕ, List, Option}
use Rattle.setl_value.specs.Datum.{Datum}
use Rattle.setl_operators_table.specs.declared.Operator.{Operator}
use Rattle.setl_operators_table.specs.Operators.{op_of}
use Rattle.setl_operators_turns.specs.Outcomes.{Keeps}

-- With more turns left each operator gives what it gives with fewer, where these cover its charge.
abbrev pub MoreTurnsKeepOutcomes : Type 0
MoreTurnsKeepOutcomes = (o : Operator) (vs : List (Option Datum)) (few many : ℕ) → few ≤ many → Keeps few (op_of o vs few) (op_of o vs many)
