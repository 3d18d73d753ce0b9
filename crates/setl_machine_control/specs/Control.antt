-- What contracts see of a control.
use Rattle.std.specs.Prelude.{◌≡◌, ℕ, ◌+◌, Bool, true, false, List, [], ◌++◌, Option, Some, None}
use Rattle.setl_io.specs.Source.{AreBytes}
use Rattle.setl_text.specs.code.Reads.{ReaderState}
use Rattle.setl_text.specs.declared.ReadFault.{ReadFault}
use Rattle.setl_model_runs.specs.Turns.{left_after}
use Rattle.setl_model.specs.World.{World}
use Rattle.setl_code.specs.CodeCore.{CodeCore}

-- the turns left, the next atom, whether a read met the end of the input, and the reader
pub record ControlState : Type 0 where
  pub turns : ℕ
  pub atom : ℕ
  pub eof : Bool
  pub reader : ReaderState

-- the bytes that are kept for the next read; behind a fault none is
abbrev pub kept_for : Option ReadFault → List ℕ → List ℕ
kept_for None kept = kept
kept_for (Some fault) kept = []

-- The world that a control stands for, where these bytes are still to come from the input behind those that the reader
-- keeps.
abbrev pub world_of : ControlState → List ℕ → World
world_of control rest = record { input = kept_for control.reader.fault control.reader.kept ++ rest; eof = control.eof; atom = control.atom; left = control.turns }

-- the same core in this world
abbrev pub in_world : World → CodeCore → CodeCore
in_world w k = record k { world = w }

-- the core that a store's core and a control stand for
abbrev pub stood_for : CodeCore → ControlState → List ℕ → CodeCore
stood_for core control rest = in_world (world_of control rest) core

-- where the bytes that are still to come are told, they are these; otherwise they are bytes
abbrev pub IsRest : Option (List ℕ) → List ℕ → Type 0
IsRest None rest = AreBytes rest
IsRest (Some left) rest = left ≡ rest

-- one turn was taken, or none is left
abbrev pub TakesTurn : ControlState → Bool → ControlState → Type 0
TakesTurn old true new = (left_after 1 old.turns ≡ Some new.turns) × (new ≡ record old { turns = new.turns })
TakesTurn old false new = (left_after 1 old.turns ≡ None) × (new ≡ old)

-- the same for an atom, which is the next one
abbrev pub TakesAtom : ControlState → Option ℕ → ControlState → Type 0
TakesAtom old (Some n) new = (left_after 1 old.turns ≡ Some new.turns) × (n ≡ old.atom) × (new ≡ record old { turns = new.turns; atom = old.atom + 1 })
TakesAtom old None new = (left_after 1 old.turns ≡ None) × (new ≡ old)
