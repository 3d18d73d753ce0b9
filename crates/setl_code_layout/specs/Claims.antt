-- The dump of a state of code is that of the state of the meaning for which it stands.
use Rattle.std.specs.Prelude.{◌≡◌, ℕ, Bool, true, List}
use Rattle.setl_model_runs.specs.Variable.{Variable}
use Rattle.setl_model_runs.specs.Events.{End}
use Rattle.setl_model_runs.specs.Run.{State}
use Rattle.setl_modes.specs.Modes.{Mode}
use Rattle.setl_modes_dump.specs.Dump.{Bases}
use Rattle.setl_program.specs.Program.{Program}
use Rattle.setl_program.specs.Formed.{Formed}
use Rattle.setl_model.specs.Core.{Core}
use Rattle.setl_model.specs.Means.{Means}
use Rattle.setl_model.specs.Entered.{entered}
use Rattle.setl_model.specs.Dump.{declared_value, layout}
use Rattle.setl_code.specs.Code.{Code}
use Rattle.setl_code.specs.Names.{is_among}
use Rattle.setl_code.specs.CodeCore.{There, main_held, CodeCore}
use Rattle.setl_code.specs.CodeOf.{code_of}
use Rattle.setl_code.specs.CodeMeans.{CodeMeans}
use Rattle.setl_code_simulation.specs.States.{SameState}
use Rattle.setl_code_marked.specs.Marked.{declared_in, Marked}
use Rattle.setl_code_marked_simulation.specs.States as marked
use Rattle.setl_code_layout.specs.Layout.{code_layout}

-- ---- states

-- Both states have the same dump, and each declared variable of the code has its value.
pub record SameLayout (modes : List (Variable × Mode)) (s : State CodeCore) (t : State Core) : Type 0 where
  pub values : (x : Variable) → is_among (declared_in modes) x ≡ true → main_held x s.core ≡ There (declared_value x t.core)
  pub dump : (names : List (List ℕ)) → layout names modes t ≡ code_layout names modes (λ b. entered modes b s.events) s.core

-- so it is with states that are the same
abbrev pub StatesLayOutAlike : Type 0
StatesLayOutAlike = (modes : List (Variable × Mode)) (c : Code) (s : State CodeCore) (t : State Core) → SameState c s t → SameLayout modes s t

-- or the same but for variables that were taken, none of which is declared
abbrev pub MarkedStatesLayOutAlike : Type 0
MarkedStatesLayOutAlike = (modes : List (Variable × Mode)) (c : Code) (s : State CodeCore) (t : State Core) → marked.SameState (declared_in modes) c s t → SameLayout modes s t

-- no more of a core is seen than the variables: not the places and operands, the copies and the world
abbrev pub LaysOutVariablesAlone : Type 0
LaysOutVariablesAlone = (names : List (List ℕ)) (modes : List (Variable × Mode)) (bases : Bases) (a b : CodeCore) → b.globals ≡ a.globals → b.now.own ≡ a.now.own → b.callers ≡ a.callers → code_layout names modes bases b ≡ code_layout names modes bases a

-- ---- ends

-- The program ends so after this output, and its last state has the dump of this state of the code.
pub record EndsWithLayout (p : Program) (input : List ℕ) (turns : ℕ) (based : Bool) (out : List ℕ) (end : End) (last : State CodeCore) : Type 0 where
  pub means : Means p input turns based out end
  pub same : (meant : Means p input turns based out end) → SameLayout p.modes last meant.last

-- wherever a run of a code ends, the program ends so, with the same dump
abbrev pub LaysOut : Program → Code → Type 0
LaysOut p c = (input : List ℕ) (turns : ℕ) (based : Bool) (out : List ℕ) (end : End) → (done : CodeMeans c p.modes input turns based out end) → EndsWithLayout p input turns based out end done.last

-- that holds of the code of a formed program
abbrev pub CodeEndsWithLayout : Type 0
CodeEndsWithLayout = (p : Program) → Formed p → LaysOut p (code_of p)

-- and of its marked code, in which no declared variable is taken
abbrev pub MarkedCodeEndsWithLayout : Type 0
MarkedCodeEndsWithLayout = (p : Program) → Formed p → (m : Code) → Marked (declared_in p.modes) (code_of p) m → LaysOut p m
