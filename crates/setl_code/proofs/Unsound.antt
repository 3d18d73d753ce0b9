-- Codes that are refused by the certificate that rounds over their steps make, and one that isn't.
use Rattle.std.proofs.Common.{◌≡◌, true, false, List, [], ◌∷◌, Some, None, refl}
use Rattle.std.specs.Prelude.{codes}
use Rattle.setl_value.specs.Datum.{bool}
use Rattle.setl_program.specs.declared.kinds.Collection.TheVariants.{OfSet}
use Rattle.setl_program.specs.declared.kinds.Source.TheVariants.{Values}
use Rattle.setl_program.specs.Program.{Members}
use Rattle.setl_code.specs.Code.{Push, DropTop, Unless, Jump, BeginOver, NextOr, BeginOf, AddBelow, PayRound, PrintTop, StopRun, Instr, Step, Code}
use Rattle.setl_code.proofs.ByRounds.{holds_by_rounds}

abbrev steps : List Instr → List Step
steps [] = []
steps (i ∷ is) = (1, i) ∷ steps is

abbrev code : List Instr → Code
code is = record { vars = []; bodies = record { name = codes "p"; parameters = []; names = []; steps = steps is } ∷ [] }

-- an operand is missing
missing : holds_by_rounds (code (PrintTop 1 ∷ StopRun ∷ [])) ≡ false
missing = refl

-- two paths meet with different numbers of operands
uneven : holds_by_rounds (code (Push (Some (bool true)) ∷ Unless 3 ∷ Push None ∷ StopRun ∷ [])) ≡ false
uneven = refl

-- a result is no collection
no_collection : holds_by_rounds (code (Push None ∷ Push None ∷ AddBelow 0 ∷ StopRun ∷ [])) ≡ false
no_collection = refl

-- a way round takes no turn
free : holds_by_rounds (code (Jump 0 ∷ [])) ≡ false
free = refl

paid : holds_by_rounds (code (PayRound ∷ Jump 0 ∷ [])) ≡ true
paid = refl

-- a collection serves as a result, and a step that isn't reached may be anything
collection : holds_by_rounds (code (BeginOf OfSet ∷ BeginOver (Members Values) 1 ∷ NextOr 5 ∷ DropTop ∷ Jump 2 ∷ StopRun ∷ AddBelow 3 ∷ StopRun ∷ [])) ≡ true
collection = refl
