-- What a state of the marked code of a program and a state of the program have alike.
use Rattle.std.specs.Prelude.{◌≡◌, ◌⊎◌, true, List, [], ◌∷◌}
use Rattle.setl_model_runs.specs.Variable.{Variable, Environment, value_in}
use Rattle.setl_model_runs.specs.Run.{State}
use Rattle.setl_model.specs.Core.{Core}
use Rattle.setl_code.specs.Code.{Code}
use Rattle.setl_code.specs.CodeCore.{There, Gone, Cells, held_in, CodeCore}
use Rattle.setl_code.specs.CodeCore.{Activation as CodeActivation}
use Rattle.setl_code.specs.Sound.{may_take}
use Rattle.setl_code_simulation.specs.Follow.{Shares}
use Rattle.setl_code_simulation.specs.States.{Alike, BodyAtWork, bodies_at_work, IsBody}

-- the cells hold what the variables hold, but for variables that may be taken and were
abbrev pub AlikeButTaken : List Variable → Cells → Environment → Type 0
AlikeButTaken declared s e = (x : Variable) → (held_in s x ≡ There (value_in e x)) ⊎ ((held_in s x ≡ Gone) × (may_take declared x ≡ true))

pub record SameActivation (declared : List Variable) (c : Code) (a : CodeActivation) (b : BodyAtWork) : Type 0 where
  pub body : IsBody c a.body b.procedure
  pub values : AlikeButTaken declared a.own b.own

abbrev pub SameActivations : List Variable → Code → List CodeActivation → List BodyAtWork → Type 0
SameActivations declared c [] [] = Unit {0}
SameActivations declared c (a ∷ more) (b ∷ bs) = SameActivation declared c a b × SameActivations declared c more bs
SameActivations declared c more bs = ⊥

-- The world, the body in hand and each value that wasn't taken are the same.
pub record SameCore (declared : List Variable) (c : Code) (k : CodeCore) (m : Core) : Type 0 where
  pub world : k.world ≡ m.shared.world
  pub globals : Alike k.globals m.shared.globals
  pub activations : SameActivations declared c (k.now ∷ k.callers) (bodies_at_work m.shared.own m.work)

-- and the same was written and told
abbrev pub SameState : List Variable → Code → State CodeCore → State Core → Type 0
SameState declared c s t = Shares (SameCore declared c) s t
