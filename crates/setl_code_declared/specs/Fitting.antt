-- Cores of the stack machine in which what each declared variable holds fits its mode.
use Rattle.std.specs.Prelude.{◌≡◌, ℕ, true, List, Option, None}
use Rattle.std.specs.List.{AllByRecursion}
use Rattle.setl_modes.specs.Modes.{Mode}
use Rattle.setl_modes.specs.Fits.{is_taken}
use Rattle.setl_model_runs.specs.Variable.{Variable, Bound}
use Rattle.setl_model.specs.Step.{declared_mode}
use Rattle.setl_code.specs.CodeCore.{Held, There, Gone, Cells, Activation, Copy, CodeCore}

-- the declared variables with their modes
abbrev pub Modes : Type 0
Modes = List (Variable × Mode)

-- it was taken out, or a variable with this declaration takes it
abbrev pub IsFitting : Option Mode → Held → Type 0
IsFitting m Gone = Unit {0}
IsFitting m (There v) = is_taken m v ≡ true

abbrev pub CellsFit : Modes → Cells → Type 0
CellsFit modes cells = AllByRecursion (λ c. IsFitting (declared_mode modes c.0) c.1) cells

abbrev pub ActivationsFit : Modes → List Activation → Type 0
ActivationsFit modes as' = AllByRecursion (λ a. CellsFit modes a.own) as'

abbrev pub CopyFits : Modes → Copy → Type 0
CopyFits modes c = CellsFit modes c.globals × CellsFit modes c.now.own × ActivationsFit modes c.callers

-- what all bodies see, what the body at work has, what waits for it, and what `fail` brings back
abbrev pub Fitting : Modes → CodeCore → Type 0
Fitting modes k = CellsFit modes k.globals × CellsFit modes k.now.own × ActivationsFit modes k.callers × AllByRecursion (CopyFits modes) k.kept

-- no variable of a former is declared
abbrev pub NoFormers : Modes → Type 0
NoFormers modes = (former : ℕ) (name : List ℕ) → declared_mode modes (Bound former name) ≡ None
