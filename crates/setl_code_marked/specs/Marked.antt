-- Code in which the last uses of variables take what these hold.
use Rattle.std.specs.Prelude.{◌≡◌, ℕ, suc, true, List, map, ◌⊎◌, slice_get, Option, Some, None}
use Rattle.setl_model_runs.specs.Variable.{Variable}
use Rattle.setl_modes.specs.Modes.{Mode}
use Rattle.setl_code.specs.Code.{Instr, Load, Take, Step, Body, Code}
use Rattle.setl_code.specs.Sound.{ReadLater, may_take}

-- the declared variables, in the order of the declarations
abbrev pub declared_in : List (Variable × Mode) → List Variable
declared_in modes = map (λ m. m.0) modes

-- the step at this place loads a variable that may be taken, and no path from the step behind it reaches a read of that
-- variable before a write of it
abbrev pub LastUse : List Variable → ℕ → Body → ℕ → Instr → Type 0
LastUse declared n b at (Load x) = (may_take declared x ≡ true) × (ReadLater n b x (suc at) → ⊥)
LastUse declared n b at i = ⊥

abbrev pub as_take : Instr → Instr
as_take (Load x) = Take x
as_take i = i

-- a last use becomes a take, and any other instruction stays
abbrev pub Marks : List Variable → ℕ → Body → ℕ → Instr → Instr → Type 0
Marks declared n b at i j = (LastUse declared n b at i × (j ≡ as_take i)) ⊎ ((LastUse declared n b at i → ⊥) × (j ≡ i))

abbrev pub MarksStep : List Variable → ℕ → Body → ℕ → Option Step → Option Step → Type 0
MarksStep declared n b at None None = Unit {0}
MarksStep declared n b at (Some s) (Some t) = (t.0 ≡ s.0) × Marks declared n b at s.1 t.1
MarksStep declared n b at s t = ⊥

-- A body with its number, and what it becomes: all is as before but for the steps, and these are one for one.
pub record MarksBody (declared : List Variable) (n : ℕ) (b d : Body) : Type 0 where
  pub rest : d ≡ record b { steps = d.steps }
  pub steps : (at : ℕ) → MarksStep declared n b at (slice_get b.steps at) (slice_get d.steps at)

abbrev pub MarksBodies : List Variable → ℕ → Option Body → Option Body → Type 0
MarksBodies declared n None None = Unit {0}
MarksBodies declared n (Some b) (Some d) = MarksBody declared n b d
MarksBodies declared n b d = ⊥

-- The second code is the first with `take` for `load` exactly at the last uses.
pub record Marked (declared : List Variable) (c m : Code) : Type 0 where
  pub vars : m.vars ≡ c.vars
  pub bodies : (n : ℕ) → MarksBodies declared n (slice_get c.bodies n) (slice_get m.bodies n)
