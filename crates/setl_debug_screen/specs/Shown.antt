-- What is shown of a state of the meaning.
use Rattle.std.specs.Prelude.{◌≡◌, ℕ, List, [], ◌∷◌, ◌++◌, slice_get, Option, Some, None}
use Rattle.setl_model_runs.specs.Events.{End}
use Rattle.setl_program.specs.Program.{Program}
use Rattle.setl_model.specs.Core.{Frame, InCall, Activation, Core, read_variable}
use Rattle.setl_code.specs.CodeOf.{code_of}
use Rattle.setl_code_simulation.specs.States.{IsBody}
use Rattle.setl_store.specs.Standing.{variables_by}
use Rattle.setl_debug_screen.specs.Lines.{place_line, variable_lines}

-- the procedure in hand; none is where the main program is
abbrev pub procedure_in_hand : List Frame → Option (List ℕ)
procedure_in_hand [] = None
procedure_in_hand (InCall (Activation name backs outer) ∷ work) = Some name
procedure_in_hand (f ∷ work) = procedure_in_hand work

-- The lines of a state: where it is, then the variables in `var`, and then the own ones of the body in hand, its parameters
-- first and the others by first appearance.
pub record IsShown (p : Program) (turns : ℕ) (end : End) (m : Core) (text : List ℕ) : Type 0 where
  pub body : ℕ
  pub number : IsBody (code_of p) body (procedure_in_hand m.work)
  pub lines : text ≡ place_line turns (procedure_in_hand m.work) end ++ (variable_lines (code_of p).vars (λ x. read_variable x m.shared) ++ variable_lines (variables_by body (slice_get (code_of p).bodies body)) (λ x. read_variable x m.shared))
