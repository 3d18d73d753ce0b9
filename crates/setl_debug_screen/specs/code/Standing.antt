-- What the calls of this crate add, by what they are handed.
use Rattle.std.specs.Prelude.{ℕ, List, [], ◌∷◌, ◌++◌, flat_map}
use Rattle.setl_model_runs.specs.Variable.{Variable, Global, Own, Bound}
use Rattle.setl_model_runs.specs.Events as run
use Rattle.setl_code.specs.CodeCore.{Held, There, Gone, CodeCore, held}
use Rattle.setl_machine_control.specs.Answers.{kind_of}
use Rattle.setl_machine_control.specs.Declaring.{Modes}
use Rattle.setl_machine_control.specs.declared.end.End.{End}
use Rattle.setl_machine_control.specs.declared.end.End.TheVariants as end
use Rattle.setl_debug_screen.specs.Lines.{state_line, shown_value}

-- how a run of the machine stands, where these variables are declared
abbrev pub state_by : Modes → End → List ℕ
state_by modes end.Spent = state_line run.Spent
state_by modes end.Done = state_line run.Done
state_by modes (end.Stopped why line) = state_line (run.Stopped (kind_of modes why) line)
state_by modes e = []

-- a name with what its slot holds
abbrev pub named_line : List ℕ → Held → List ℕ
named_line name (There v) = name ++ 32 ∷ shown_value v ++ 10 ∷ []
named_line name Gone = []

-- the line of a variable of a core; a former's own name has none
abbrev pub held_line : CodeCore → Variable → List ℕ
held_line k (Global name) = named_line name (held (Global name) k)
held_line k (Own body name) = named_line name (held (Own body name) k)
held_line k (Bound former name) = []

-- the lines of some variables of a core
abbrev pub held_lines : List Variable → CodeCore → List ℕ
held_lines xs k = flat_map (held_line k) xs
