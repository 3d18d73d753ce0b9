-- The variables of a body by slots, as a generator knows them.
use Rattle.std.specs.Prelude.{ℕ, List, [], ◌∷◌, ◌++◌, map, cond}
use Rattle.setl_tree.specs.declared.tree.Param.{Param}
use Rattle.setl_model_runs.specs.Variable.{Variable, Global, Own}
use Rattle.setl_program.specs.ProgramOf.{parameter_of}
use Rattle.setl_code.specs.Names.{is_own, is_among}
use Rattle.setl_code.specs.Plain.{Variables}

-- The number of the body, the names in `var`, the parameters, and the own names so far.
pub record Table : Type 0 where
  pub body : ℕ
  pub vars : List (List ℕ)
  pub parameters : List Param
  pub names : List Variable

abbrev pub own_variables : Table → List Variable
own_variables t = map (λ p. Own t.body p.name) t.parameters ++ t.names

-- the variables that slots stand for
abbrev pub variables : Table → Variables
variables t = record { global = map Global t.vars; own = own_variables t }

-- the own names with one that stands in the body, where it is one and isn't there
abbrev pub with_own : List Param → List Variable → Variable → List Variable
with_own ps names x = cond (is_own (map parameter_of ps) x) (cond (is_among names x) names (names ++ x ∷ [])) names

abbrev pub with_all : List Param → List Variable → List Variable → List Variable
with_all ps names [] = names
with_all ps names (x ∷ xs) = with_all ps (with_own ps names x) xs

-- with more variables of the body's
abbrev pub noted : Variable → Table → Table
noted x t = record t { names = with_own t.parameters t.names x }

abbrev pub all_noted : List Variable → Table → Table
all_noted xs t = record t { names = with_all t.parameters t.names xs }
