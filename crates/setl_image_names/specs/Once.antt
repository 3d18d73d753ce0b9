-- Names that stand once.
use Rattle.std.specs.Prelude.{◌≡◌, ℕ, zero, suc, Bool, true, false, not, ◌&&◌, List, [], ◌∷◌, ◌++◌, map, cond}
use Rattle.std.specs.List.{list_all}
use Rattle.std.specs.Borrow.{Bor}
use Rattle.setl_names.specs.Names.{Name, has, with_name}
use Rattle.setl_modes.specs.declared.mode.NamedMode.{NamedMode}
use Rattle.setl_model_runs.specs.Variable.{Variable, Global, Own, Bound}
use Rattle.setl_code.specs.Names.{is_among}
use Rattle.setl_code.specs.declared.code.OwnName.{OwnName}
use Rattle.setl_code.specs.declared.code.OwnName.TheVariants as own

-- the names of a body's own variables that aren't those of formers
abbrev pub names_in : List OwnName → List Name
names_in [] = []
names_in (own.Body x ∷ names) = x ∷ names_in names
names_in (own.Former k x ∷ names) = names_in names

-- A name stands among the names in `var` or among the own names of the main body, and not among both. Where no name stands
-- twice in either, this is once in all.
abbrev pub StandsOnce : (vars : List Name) → (main : List OwnName) → Name → Type 0
StandsOnce vars main x = has (names_in main) x ≡ not (has vars x)

-- the variable of a declared name, by the names in `var`
abbrev pub variable_of : (vars : List Name) → Name → Variable
variable_of vars x = cond (has vars x) (Global x) (Own 0 x)

-- ---- how the code finds it

-- those of some names that are the main program's own, behind others
abbrev pub own_after : (vars names : List Name) → List Name → List Name
own_after vars names [] = names
own_after vars names (x ∷ xs) = own_after vars (cond (has vars x) names (with_name names x)) xs

abbrev pub is_once : (in_vars in_mine : Bool) → Bool
is_once in_vars in_mine = cond in_vars (not in_mine) in_mine

-- whether each name is in `var` or among these, and not in both
abbrev pub all_once : (vars mine : List Name) → List Name → Bool
all_once vars mine xs = list_all (λ x. is_once (has vars x) (has mine x)) xs

abbrev pub declared_names : List NamedMode → List Name
declared_names ds = map (λ d. d.name) ds

-- 0 and a name, or one more than the number of a former and a name
abbrev pub own_variable : (body : ℕ) → ℕ → Name → Variable
own_variable body zero name = Own body name
own_variable body (suc former) name = Bound former name

abbrev pub Key : Type 0
Key = ℕ × Bor (List ℕ)

abbrev pub key_variable : (body : ℕ) → Key → Variable
key_variable body key = own_variable body key.0 key.1.now

-- the variables of keys
abbrev pub variables_seen : (body : ℕ) → List Key → List Variable
variables_seen body keys = map (key_variable body) keys

-- whether variables differ from each other and from those before
abbrev pub are_new : (seen : List Variable) → List Variable → Bool
are_new seen [] = true
are_new seen (x ∷ xs) = not (is_among seen x) && are_new (seen ++ x ∷ []) xs
