-- Variables, and the values that they have.
use Rattle.std.specs.Prelude.{ℕ, Bool, false, List, [], ◌∷◌, nat_eq, cond, ◌&&◌, Option, None, bytes_eq}
use Rattle.setl_value.specs.Datum.{Datum}

-- A variable that all bodies see; one of a single body, where 0 is the main program and the procedures follow in their
-- order from 1; or one of a former, which is counted in its body.
pub data Variable : Type 0 where
  Global : (name : List ℕ) → Variable
  Own : (body : ℕ) (name : List ℕ) → Variable
  Bound : (former : ℕ) (name : List ℕ) → Variable

-- whether two variables are one
abbrev pub is_variable : Variable → Variable → Bool
is_variable (Global a) (Global b) = bytes_eq a b
is_variable (Own n a) (Own m b) = nat_eq n m && bytes_eq a b
is_variable (Bound n a) (Bound m b) = nat_eq n m && bytes_eq a b
is_variable a b = false

-- the name as the source has it
abbrev pub name_of : Variable → List ℕ
name_of (Global name) = name
name_of (Own body name) = name
name_of (Bound former name) = name

-- The variables that were stored, with what each holds, which is `None` for `om`.
abbrev pub Environment : Type 0
Environment = List (Variable × Option Datum)

-- what a variable holds; one that was never stored is `om`
abbrev pub value_in : Environment → Variable → Option Datum
value_in [] x = None
value_in (b ∷ bs) x = cond (is_variable b.0 x) b.1 (value_in bs x)

-- the environment in which a variable holds this, and all others what they held
abbrev pub with_value : Environment → Variable → Option Datum → Environment
with_value [] x v = (x, v) ∷ []
with_value (b ∷ bs) x v = cond (is_variable b.0 x) ((x, v) ∷ bs) (b ∷ with_value bs x v)
