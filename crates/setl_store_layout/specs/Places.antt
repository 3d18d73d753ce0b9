-- The places of variables by their names. No public clause cites this module.
use Rattle.std.specs.Prelude.{◌≡◌, ℕ, suc, List, [], ◌∷◌, cond, Option, Some, None}
use Rattle.std.specs.Global.{Vec}
use Rattle.indexmap.specs.IndexMap.{IndexMap}
use Rattle.setl_names.specs.ByName.{value_at}
use Rattle.setl_model_runs.specs.Variable.{Variable, Global, Own, is_variable}
use Rattle.setl_code.specs.declared.code.Code.{Code}
use Rattle.setl_store.specs.MainProgram.{main_variables}
use Rattle.setl_store_layout.specs.declared.places.Places.{Places}

-- the place of a variable among others, counted from n, if it is there
abbrev pub place_from : ℕ → List Variable → Variable → Option ℕ
place_from n [] x = None
place_from n (y ∷ ys) x = cond (is_variable x y) (Some n) (place_from (suc n) ys x)

-- a table gives the places of names among variables, counted from n, where `as_name` makes a name a variable
abbrev pub Finds : {S : Type 0} → (as_name : List ℕ → Variable) → ℕ → List Variable → IndexMap (Vec ℕ) ℕ S → Type 0
Finds as_name n xs table = (x : List ℕ) → value_at table x ≡ place_from n xs (as_name x)

-- the tables give the places of the main program's variables
pub record Knows (c : Code) (p : Places) : Type 0 where
  pub globals : Finds Global 0 (main_variables c).global p.globals
  pub own : Finds (Own 0) 0 (main_variables c).own p.own
