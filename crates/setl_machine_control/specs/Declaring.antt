-- Declared variables, and how they are tested.
use Rattle.std.specs.Prelude.{◌≡◌, ℕ, zero, suc, true, false, List, [], ◌∷◌, map, cond, slice_get, Option, Some, None, IfSome}
use Rattle.std.specs.Option.{option_map}
use Rattle.setl_value.specs.Datum.{Datum}
use Rattle.setl_modes.specs.Modes.{Mode, mode_of}
use Rattle.setl_model_runs.specs.Run.{Test}
use Rattle.setl_model_runs.specs.Variable.{Variable, Global, Own, Bound, is_variable}
use Rattle.setl_program.specs.declared.program.Declared.{Declared}
use Rattle.setl_program.specs.code.Plain.{plain_declared}
use Rattle.setl_model.specs.Step.{test_of, declared_mode}
use Rattle.setl_code.specs.declared.code.Code as code
use Rattle.setl_code.specs.Code.{Code}
use Rattle.setl_code.specs.Plain.{variable_at, plain_code}
use Rattle.setl_code_declared.specs.Fitting.{Fitting}
use Rattle.setl_store.specs.Standing.{Standing}
use Rattle.setl_machine_control.specs.declared.declaration.Declaration.{Declaration}

-- the declared variables with their modes, in the order of the declarations
abbrev pub Modes : Type 0
Modes = List (Variable × Mode)

-- the test of stores by these declarations
abbrev pub tested : Modes → Test
tested modes = test_of modes true

-- What contracts see of a table of declarations: the code whose slots it knows, and the declarations.
pub record DeclarationTable : Type 0 where
  pub code : code.Code
  pub declared : List Declared

-- its declarations as plain data
abbrev pub modes_of : DeclarationTable → Modes
modes_of d = map plain_declared d.declared

-- the variable of the declaration at a place, from 0
abbrev pub declared_at : Modes → ℕ → Variable
declared_at modes k = variable_at (map (λ m. m.0) modes) k

-- the place of the declaration of a variable, counted from n, if it has one
abbrev pub place_from : ℕ → Modes → Variable → Option ℕ
place_from n [] x = None
place_from n (m ∷ ms) x = cond (is_variable m.0 x) (Some n) (place_from (suc n) ms x)

abbrev pub place_of : Modes → Variable → Option ℕ
place_of modes x = place_from 0 modes x

-- ---- what a table serves

-- it is a variable that all bodies see or one of the main body's own
abbrev pub IsOfMain : Variable → Type 0
IsOfMain (Global name) = Unit {0}
IsOfMain (Own zero name) = Unit {0}
IsOfMain (Own (suc n) name) = ⊥
IsOfMain (Bound former name) = ⊥

abbrev pub AreOfMain : Modes → Type 0
AreOfMain [] = Unit {0}
AreOfMain (m ∷ ms) = IsOfMain m.0 × AreOfMain ms

-- the main body has no parameters
abbrev pub IsBare : Code → Type 0
IsBare c = IfSome (slice_get c.bodies 0) (λ b. b.parameters ≡ [])

-- A table serves a store: it is of the store's code, whose main body has no parameters, no own variable of another body is
-- declared, and what each declared variable holds fits its mode.
pub record Serves (d : DeclarationTable) (s : Standing) : Type 0 where
  pub same : d.code ≡ s.code
  pub bare : IsBare (plain_code s.code)
  pub main : AreOfMain (modes_of d)
  pub fitting : Fitting (modes_of d) s.core

-- ---- tests

-- the value fits, or the declaration at this place, which is the variable's, refuses it
abbrev pub Tests : Modes → Variable → Option Datum → Option ℕ → Type 0
Tests modes x v None = tested modes x v ≡ true
Tests modes x v (Some k) = (tested modes x v ≡ false) × (declared_at modes k ≡ x) × IsOfMain x

-- the mode of a declaration, where there is one
abbrev pub mode_by : Option Declaration → Option Mode
mode_by d = option_map (λ (d : Declaration). mode_of d.mode.now) d

-- it is the declaration of this variable, if it has one
abbrev pub IsDeclared : Modes → Variable → Option Declaration → Type 0
IsDeclared modes x None = declared_mode modes x ≡ None
IsDeclared modes x (Some d) = (declared_mode modes x ≡ Some (mode_of d.mode.now)) × (declared_at modes d.place ≡ x) × IsOfMain x

-- what a variable held is kept until its new whole was tested; where nothing is kept, the variable takes the new whole
-- without a test
abbrev pub Keeps : Modes → Variable → (old new : Option Datum) → (kept : Option (Option Datum)) → Type 0
Keeps modes x old new None = tested modes x new ≡ true
Keeps modes x old new (Some kept) = kept ≡ old
