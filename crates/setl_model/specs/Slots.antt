-- How a tuple is taken apart.
use Rattle.std.specs.Prelude.{List, [], ◌∷◌, Option, Some, None}
use Rattle.setl_value.specs.Datum.{Datum, tuple, part_list}
use Rattle.setl_operators_table.specs.Outcome.{Fault, OmFault, KindFault}
use Rattle.setl_program.specs.Program.{Slots}
use Rattle.setl_model_runs.specs.Variable.{Variable}
use Rattle.setl_model_runs.specs.Run.{Store}

-- The stores by which variables take their parts, or why there are none.
pub data Parting : Type 0 where
  Parted : List Store → Parting
  NotParted : Fault → Parting

-- a missing component is `om`, a further one is ignored, and `-` skips one
abbrev pub slot_stores : Slots → List (Option Datum) → List Store
slot_stores [] ps = []
slot_stores (None ∷ xs) [] = slot_stores xs []
slot_stores (Some x ∷ xs) [] = (x, None) ∷ slot_stores xs []
slot_stores (None ∷ xs) (p ∷ ps) = slot_stores xs ps
slot_stores (Some x ∷ xs) (p ∷ ps) = (x, p) ∷ slot_stores xs ps

-- only a tuple is taken apart
abbrev pub parting : Slots → Option Datum → Parting
parting xs (Some (tuple ps)) = Parted (slot_stores xs (part_list ps))
parting xs None = NotParted OmFault
parting xs (Some d) = NotParted KindFault

-- the variables that are named
abbrev pub variables_in : Slots → List Variable
variables_in [] = []
variables_in (None ∷ xs) = variables_in xs
variables_in (Some x ∷ xs) = x ∷ variables_in xs

-- the stores of `om` in all of these variables, from left to right
abbrev pub om_stores : List Variable → List Store
om_stores [] = []
om_stores (x ∷ xs) = (x, None) ∷ om_stores xs
