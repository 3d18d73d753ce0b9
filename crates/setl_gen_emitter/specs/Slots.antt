-- Tables of slots.
use Rattle.std.specs.Prelude.{◌≡◌, ℕ, zero, suc, Bool, List, [], ◌∷◌, ◌++◌, ◌||◌, map, slice_get, Some, false}
use Rattle.std.specs.Borrow.{Bor}
use Rattle.setl_tree.specs.declared.tree.Param.{Param}
use Rattle.setl_model_runs.specs.Variable.{Variable, Global, Own, Bound, is_variable}
use Rattle.setl_code.specs.Names.{is_among}

-- ---- the variables of keys

abbrev pub global_key : Bor (List ℕ) → Variable
global_key name = Global name.now

-- 0 and a name, or one more than the number of a former and a name
abbrev pub own_variable : (body : ℕ) → ℕ → List ℕ → Variable
own_variable body zero name = Own body name
own_variable body (suc former) name = Bound former name

abbrev pub own_key : (body : ℕ) → ℕ × Bor (List ℕ) → Variable
own_key body key = own_variable body key.0 key.1.now

-- ---- tables

module _ {K : Type 0} (variable_of : K → Variable) where
  -- each key has the slot of its variable
  abbrev pub AreSlots : List Variable → List (K × ℕ) → Type 0
  AreSlots xs [] = Unit {0}
  AreSlots xs (e ∷ es) = (slice_get xs e.1 ≡ Some (variable_of e.0)) × AreSlots xs es

  -- whether a variable has a key
  abbrev pub is_key : List (K × ℕ) → Variable → Bool
  is_key [] x = false
  is_key (e ∷ es) x = is_variable x (variable_of e.0) || is_key es x

  -- the slot of a variable, wherever the table has the slots of some variables
  abbrev pub IsSlot : List (K × ℕ) → Variable → ℕ → Type 0
  IsSlot es x slot = (xs : List Variable) → AreSlots xs es → slice_get xs slot ≡ Some x

  -- whether each of the variables has a key
  abbrev pub AreAll : List Variable → List (K × ℕ) → Type 0
  AreAll xs es = (x : Variable) → is_among xs x ≡ is_key es x

  -- a table with the slot of one more variable
  pub record IsAdded (es : List (K × ℕ)) (y : Variable) (slot : ℕ) (more : List (K × ℕ)) : Type 0 where
    pub slots : (xs : List Variable) → slice_get xs slot ≡ Some y → AreSlots xs es → AreSlots xs more
    pub keys : (x : Variable) → is_key more x ≡ (is_key es x || is_variable x y)

-- the slots of a body's own variables
pub record AreOwn (body : ℕ) (xs : List Variable) (es : List ((ℕ × Bor (List ℕ)) × ℕ)) : Type 0 where
  pub slots : AreSlots (own_key body) xs es
  pub all : AreAll (own_key body) xs es

abbrev pub own_of : (body : ℕ) → List Param → List Variable → List Variable
own_of body ps names = map (λ p. Own body p.name) ps ++ names
