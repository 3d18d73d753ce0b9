-- The lines that are shown of a state.
use Rattle.std.specs.Prelude.{◌≡◌, refl, ℕ, List, [], ◌∷◌, ◌++◌, codes, decimal, Option, Some, None}
use Rattle.setl_value.specs.Datum.{Datum, text}
use Rattle.setl_text.specs.Texts.{inner_text}
use Rattle.setl_model_runs.specs.Variable.{Variable, Global, Own, Bound}
use Rattle.setl_model_runs.specs.Events.{End, Done, Stopped, Spent, Stuck}
use Rattle.setl_top_status.specs.Ends.{error_line}

-- how a run stands, with byte 10; no accepted program is stuck
abbrev pub state_line : End → List ℕ
state_line Spent = codes "running\n"
state_line Done = codes "done\n"
state_line (Stopped why line) = error_line (Stopped why line)
state_line Stuck = []

-- the name of a body at work: of the main program, or of a procedure
abbrev pub place_name : Option (List ℕ) → List ℕ
place_name None = codes "main"
place_name (Some name) = name

-- after how many turns it is, where, and how it stands
abbrev pub place_text : (turns : ℕ) (name state : List ℕ) → List ℕ
place_text turns name state = codes "turn " ++ decimal turns ++ codes " in " ++ name ++ codes ": " ++ state

abbrev pub place_line : (turns : ℕ) → Option (List ℕ) → End → List ℕ
place_line turns procedure end = place_text turns (place_name procedure) (state_line end)

-- a value as it stands inside another one, and `*` for `om`
abbrev pub shown_value : Option Datum → List ℕ
shown_value None = 42 ∷ []
shown_value (Some d) = inner_text d

-- a variable with what it holds; a former's own name has no line
abbrev pub variable_line : Variable → Option Datum → List ℕ
variable_line (Global name) v = name ++ 32 ∷ shown_value v ++ 10 ∷ []
variable_line (Own body name) v = name ++ 32 ∷ shown_value v ++ 10 ∷ []
variable_line (Bound former name) v = []

-- the lines of variables in their order, by what each holds
abbrev pub variable_lines : List Variable → (Variable → Option Datum) → List ℕ
variable_lines [] holds = []
variable_lines (x ∷ xs) holds = variable_line x (holds x) ++ variable_lines xs holds

-- ---- worked rows

-- two variables of the main program without values, and a former's own name between them
two_variables : variable_lines (Own 0 (codes "s") ∷ Bound 1 (codes "x") ∷ Own 0 (codes "i") ∷ []) (λ x. None) ≡ codes "s *\ni *\n"
two_variables = refl

a_text : variable_lines (Global (codes "t") ∷ []) (λ x. Some (text (codes "a b"))) ≡ codes "t 'a b'\n"
a_text = refl

in_a_procedure : place_name (Some (codes "sort")) ≡ codes "sort"
in_a_procedure = refl
