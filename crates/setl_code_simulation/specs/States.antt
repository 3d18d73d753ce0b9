-- What a state of the code and a state of the meaning have alike, and where both read and print.
use Rattle.std.specs.Prelude.{◌≡◌, ℕ, zero, suc, Bool, List, [], ◌∷◌, slice_get, Option, None, Some}
use Rattle.std.specs.Option.{option_map}
use Rattle.setl_value.specs.Datum.{Datum}
use Rattle.setl_text.specs.Texts.{print_line}
use Rattle.setl_model_runs.specs.Variable.{Variable, Environment, value_in}
use Rattle.setl_model_runs.specs.Run.{State, Goes, run}
use Rattle.setl_program.specs.Program.{no_expr, Print, Block, more_stmts, Program}
use Rattle.setl_model.specs.Core.{Hand, Execute, Result, Activation, PrintParts, Frame, InCall, InStmt, Core}
use Rattle.setl_model.specs.Step.{test_of}
use Rattle.setl_model.specs.Means.{Reaches, HasPrint, HasRead}
use Rattle.setl_code.specs.Code.{Instr, StoreIn, Code}
use Rattle.setl_code.specs.CodeCore.{There, Cells, held_in, Operand, Pops, popped, CodeCore}
use Rattle.setl_code.specs.CodeCore.{Activation as CodeActivation}
use Rattle.setl_code.specs.CodeOf.{code_of}
use Rattle.setl_code.specs.Machine.{fetch, machine}
use Rattle.setl_code.specs.CodeMeans.{code_first}
use Rattle.setl_code_simulation.specs.Follow.{Shares}

-- ---- values

-- the cells hold what the variables hold; a variable that was never stored is `om`
abbrev pub Alike : Cells → Environment → Type 0
Alike s e = (x : Variable) → held_in s x ≡ There (value_in e x)

-- A body at work in the meaning: the name of its procedure, which is none for the main program, and its variables.
pub record BodyAtWork : Type 0 where
  pub procedure : Option (List ℕ)
  pub own : Environment

-- the bodies at work, the one in hand first and the main program last
abbrev pub bodies_at_work : Environment → List Frame → List BodyAtWork
bodies_at_work own [] = record { procedure = None; own = own } ∷ []
bodies_at_work own (InCall (Activation name backs outer) ∷ work) = record { procedure = Some name; own = own } ∷ bodies_at_work outer work
bodies_at_work own (f ∷ work) = bodies_at_work own work

-- the body with this number is the main program's, or that of the procedure with this name
abbrev pub IsBody : Code → ℕ → Option (List ℕ) → Type 0
IsBody c zero None = Unit {0}
IsBody c (suc f) (Some name) = option_map (λ b. b.name) (slice_get c.bodies (suc f)) ≡ Some name
IsBody c n procedure = ⊥

-- an activation of the code is this body at work, with the same values
pub record SameActivation (c : Code) (a : CodeActivation) (b : BodyAtWork) : Type 0 where
  pub body : IsBody c a.body b.procedure
  pub values : Alike a.own b.own

-- and so it is with each, one by one
abbrev pub SameActivations : Code → List CodeActivation → List BodyAtWork → Type 0
SameActivations c [] [] = Unit {0}
SameActivations c (a ∷ more) (b ∷ bs) = SameActivation c a b × SameActivations c more bs
SameActivations c more bs = ⊥

-- The world is the same, the same body is in hand, and each value is the same: of the variables that all bodies see and,
-- activation by activation, of the parameters and own names, those of formers too.
pub record SameCore (c : Code) (k : CodeCore) (m : Core) : Type 0 where
  pub world : k.world ≡ m.shared.world
  pub globals : Alike k.globals m.shared.globals
  pub activations : SameActivations c (k.now ∷ k.callers) (bodies_at_work m.shared.own m.work)

-- and the same was written and told
abbrev pub SameState : Code → State CodeCore → State Core → Type 0
SameState c s t = Shares (SameCore c) s t

-- ---- states that are reached

-- the code of a program comes to this state
abbrev pub CodeReaches : Program → List ℕ → ℕ → Bool → State CodeCore → Type 0
CodeReaches p input turns based s = (n : ℕ) × (run (machine (code_of p)) (test_of p.modes based) n (code_first (code_of p) input turns) ≡ Goes s)

-- the program comes to a state that is the same
pub record ReachedAlike (p : Program) (input : List ℕ) (turns : ℕ) (based : Bool) (s : State CodeCore) : Type 0 where
  pub state : State Core
  pub reached : Reaches p input turns based state
  pub same : SameState (code_of p) s state

-- this instruction, which is of this line, is next
abbrev pub IsNext : Code → CodeCore → ℕ → Instr → Type 0
IsNext c k line i = fetch c k.now.body k.now.at ≡ Some (line, i)

-- Where the code is at a `read` of this line, the program comes to a state that is the same, in which that `read` is in
-- hand: it is of this line, and reads into the variable in which the code stores.
pub record ReadsAlike (p : Program) (input : List ℕ) (turns : ℕ) (based : Bool) (s : State CodeCore) (line : ℕ) : Type 0 where
  pub there : ReachedAlike p input turns based s
  pub in_hand : HasRead there.state
  pub line_same : in_hand.line ≡ line
  pub stores : fetch (code_of p) s.core.now.body (suc s.core.now.at) ≡ Some (line, StoreIn in_hand.variable)

-- a `print` of this line is in hand, and all its arguments have results
pub data IsPrintOf (line : ℕ) : Hand → List Frame → Type 0 where
  without_arguments : {rest : Block} {work : List Frame} → IsPrintOf line (Execute (more_stmts line (Print no_expr) rest)) work
  with_arguments : {v : Option Datum} {got : List (Option Datum)} {work : List Frame} → IsPrintOf line (Result v) (InStmt line (PrintParts got no_expr) ∷ work)

-- Where the code is at a `print` of this line over so many operands, these are there, and the program comes to a state
-- that is the same, in which that `print` is in hand with the text that they make.
pub record PrintsAlike (p : Program) (input : List ℕ) (turns : ℕ) (based : Bool) (s : State CodeCore) (line number : ℕ) : Type 0 where
  pub there : ReachedAlike p input turns based s
  pub values : List (Option Datum)
  pub others : List Operand
  pub operands : popped number [] s.core.now.operands ≡ Pops values others
  pub in_hand : HasPrint p there.state (print_line values)
  pub of_line : IsPrintOf line there.state.core.hand there.state.core.work
