-- Which own slots of the main program are declared.
use Rattle.std.specs.Prelude.{◌≡◌, ℕ, zero, suc, ◌<◌, Bool, false, List, [], ◌∷◌, ◌++◌, length, map, get_or, Option, Some, None}
use Rattle.setl_tree.specs.declared.tree.Param.{Param}
use Rattle.setl_names.specs.Names.{Name, has, with_name}
use Rattle.setl_model_runs.specs.Variable.{Variable, Global, Own, Bound}
use Rattle.setl_code.specs.Names.{is_among}
use Rattle.setl_code.specs.declared.code.OwnName.{OwnName}
use Rattle.setl_code.specs.declared.code.OwnName.TheVariants as name
use Rattle.setl_code.specs.declared.code.Body.{Body}
use Rattle.setl_code.specs.Plain.{own_variables, variable_at}

-- No variable of a procedure or a former is declared: a `repr` section names only the main program's own variables and those
-- of the whole program.
pub record OnlyMain (declared : List Variable) : Type 0 where
  pub procedures : (n : ℕ) (name : List ℕ) → is_among declared (Own (suc n) name) ≡ false
  pub formers : (former : ℕ) (name : List ℕ) → is_among declared (Bound former name) ≡ false

-- the table tells which own slots of the main program are declared
abbrev pub TellsDeclared : List Variable → Option Body → List Bool → Type 0
TellsDeclared declared None table = Unit {0}
TellsDeclared declared (Some b) table = (k : ℕ) → k < length (own_variables 0 b.parameters b.names) → get_or table k false ≡ is_among declared (variable_at (own_variables 0 b.parameters b.names) k)

-- ---- how the code finds them

-- the names, with that of one more declared variable, if it is the main program's own
abbrev pub with_main : List Name → Variable → List Name
with_main names (Global x) = names
with_main names (Own zero x) = with_name names x
with_main names (Own (suc n) x) = names
with_main names (Bound former x) = names

abbrev pub with_all_main : List Name → List Variable → List Name
with_all_main names [] = names
with_all_main names (x ∷ xs) = with_all_main (with_main names x) xs

-- whether an own name of the main program is among these; a former's isn't
abbrev pub is_named : List Name → OwnName → Bool
is_named names (name.Body x) = has names x
is_named names (name.Former former x) = false

-- the table of a main program with these parameters and names
abbrev pub table_by : List Name → List Param → List OwnName → List Bool
table_by names ps ns = map (λ p. has names p.name) ps ++ map (is_named names) ns
