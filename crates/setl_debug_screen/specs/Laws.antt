-- What a store shows is what is meant.
use Rattle.std.specs.Prelude.{◌≡◌, ℕ, ◌++◌}
use Rattle.setl_model_runs.specs.Events.{End}
use Rattle.setl_model_runs.specs.Variable.{Variable}
use Rattle.setl_program.specs.Program.{Program}
use Rattle.setl_model.specs.Core.{Core}
use Rattle.setl_code.specs.CodeCore.{CodeCore, held}
use Rattle.setl_code.specs.CodeOf.{code_of}
use Rattle.setl_code_simulation.specs.States.{IsBody, SameCore}
use Rattle.setl_store.specs.Operands.{IsThere}
use Rattle.setl_store.specs.Standing.{variables, variables_in}
use Rattle.setl_debug_screen.specs.Lines.{place_line}
use Rattle.setl_debug_screen.specs.Shown.{IsShown, procedure_in_hand}
use Rattle.setl_debug_screen.specs.code.Standing.{held_lines}

-- no slot of a core that is the same as one of the meaning was taken
abbrev pub NothingIsTaken : Type 0
NothingIsTaken = (p : Program) (k : CodeCore) (m : Core) → SameCore (code_of p) k m → (x : Variable) → IsThere (held x k)

-- the body at work is that of the procedure in hand
abbrev pub BodyIsInHand : Type 0
BodyIsInHand = (p : Program) (k : CodeCore) (m : Core) → SameCore (code_of p) k m → IsBody (code_of p) k.now.body (procedure_in_hand m.work)

-- the lines of its slots are those of the state
abbrev pub SlotsShowTheState : Type 0
SlotsShowTheState = (p : Program) (k : CodeCore) (m : Core) (turns : ℕ) (end : End) → variables k ≡ variables_in (code_of p) k.now.body → SameCore (code_of p) k m →
    IsShown p turns end m (place_line turns (procedure_in_hand m.work) end ++ (held_lines (variables k).global k ++ held_lines (variables k).own k))
