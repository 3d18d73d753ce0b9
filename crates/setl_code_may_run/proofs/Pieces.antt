-- Pieces of code whose instructions are placed: each variable that one names has a place, and each operator its operands.
use Rattle.std.proofs.Common.{◌≡◌, ℕ, List, [], ◌∷◌, ◌++◌, Some}
use Rattle.setl_operators_table.specs.Operators.{operand_count, TakesOperands}
use Rattle.setl_program.specs.Placed.{PlacedVariable}
use Rattle.setl_code.specs.Code.{Alteration, Putting, Combining, TakingOut, Instr, Load, Take, StoreIn, Operate, Alter, Step}
use Rattle.setl_code.specs.Piece.{Piece, empty, step, jump_out, jump_on, join, ending_at, going_on_at, Labels, steps_of}

abbrev pub PlacedAlteration : Alteration → Type 0
PlacedAlteration Putting = Unit {0}
PlacedAlteration (Combining o) = operand_count o ≡ Some 2
PlacedAlteration (TakingOut k) = Unit {0}

module _ (vars : List (List ℕ)) where
  abbrev pub PlacedInstr : Instr → Type 0
  PlacedInstr (Load x) = PlacedVariable vars x
  PlacedInstr (Take x) = PlacedVariable vars x
  PlacedInstr (StoreIn x) = PlacedVariable vars x
  PlacedInstr (Operate o n) = TakesOperands o n
  PlacedInstr (Alter a x bs) = PlacedVariable vars x × PlacedAlteration a
  PlacedInstr i = Unit {0}

  abbrev pub PlacedSteps : List Step → Type 0
  PlacedSteps [] = Unit {0}
  PlacedSteps (s ∷ ss) = PlacedInstr s.1 × PlacedSteps ss

  abbrev pub PlacedPiece : Piece → Type 0
  PlacedPiece empty = Unit {0}
  PlacedPiece (step line i) = PlacedInstr i
  PlacedPiece (jump_out line) = Unit {0}
  PlacedPiece (jump_on line) = Unit {0}
  PlacedPiece (join p q) = PlacedPiece p × PlacedPiece q
  PlacedPiece (ending_at to p) = PlacedPiece p
  PlacedPiece (going_on_at to p) = PlacedPiece p

  joined : (ss ts : List Step) → PlacedSteps ss → PlacedSteps ts → PlacedSteps (ss ++ ts)
  joined [] ts h g = g
  joined (s ∷ ss) ts h g = (h.0, joined ss ts h.1 g)

  -- so are the steps of a placed piece
  pub steps_placed : (p : Piece) (l : Labels) → PlacedPiece p → PlacedSteps (steps_of l p)
  steps_placed empty l h = tt
  steps_placed (step line i) l h = (h, tt)
  steps_placed (jump_out line) l h = (tt, tt)
  steps_placed (jump_on line) l h = (tt, tt)
  steps_placed (join p q) l h = joined (steps_of l p) (steps_of l q) (steps_placed p l h.0) (steps_placed q l h.1)
  steps_placed (ending_at to p) l h = steps_placed p _ h
  steps_placed (going_on_at to p) l h = steps_placed p _ h
