-- The tables of declarations as the code keeps them. No public clause cites this module.
use Rattle.std.specs.Prelude.{◌≡◌, ℕ, List, [], map, cond, slice_get, Option, Some, None, bytes_eq}
use Rattle.std.specs.Global.{Vec}
use Rattle.indexmap.specs.IndexMap.{IndexMap}
use Rattle.setl_names.specs.ByName.{value_at}
use Rattle.setl_model_runs.specs.Variable.{Global, Own}
use Rattle.setl_code.specs.declared.code.Body.{Body}
use Rattle.setl_code.specs.declared.code.Code.{Code}
use Rattle.setl_code.specs.declared.code.OwnName.{OwnName}
use Rattle.setl_code.specs.declared.code.OwnName.TheVariants as name
use Rattle.setl_machine_control.specs.Declaring.{Modes, place_from, place_of}

-- these tables give the places of the declarations of the variables that all bodies see and of the main body's own, where
-- the places are counted from n
abbrev pub Finds : {S T : Type 0} → ℕ → Modes → IndexMap (Vec ℕ) ℕ S → IndexMap (Vec ℕ) ℕ T → Type 0
Finds n modes globals own = (x : List ℕ) → (value_at globals x ≡ place_from n modes (Global x)) × (value_at own x ≡ place_from n modes (Own 0 x))

-- the place is put at the name
abbrev pub Puts : {S T : Type 0} → List ℕ → ℕ → IndexMap (Vec ℕ) ℕ S → IndexMap (Vec ℕ) ℕ T → Type 0
Puts name at old new = (x : List ℕ) → value_at new x ≡ cond (bytes_eq name x) (Some at) (value_at old x)

-- the place of a name of a body's own by those of its variables; a former's variable is not declared
abbrev pub name_place : (List ℕ → Option ℕ) → OwnName → Option ℕ
name_place place (name.Body x) = place x
name_place place (name.Former former x) = None

abbrev pub names_by : Option Body → List OwnName
names_by None = []
names_by (Some b) = b.names

-- for each slot of a code, of the variables that all bodies see and of the main body's names, the place of its declaration
pub record KnowsSlots (code : Code) (modes : Modes) (globals own : List (Option ℕ)) : Type 0 where
  pub seen : globals ≡ map (λ x. place_of modes (Global x)) code.vars
  pub main : own ≡ map (name_place (λ x. place_of modes (Own 0 x))) (names_by (slice_get code.bodies 0))
