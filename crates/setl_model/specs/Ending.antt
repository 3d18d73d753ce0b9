-- That every run ends. These are statements alone; they are proved above, by the runs of code.
use Rattle.std.specs.Prelude.{ℕ, Bool, List}
use Rattle.setl_model_runs.specs.Events.{End, Stuck}
use Rattle.setl_program.specs.Program.{Program}
use Rattle.setl_program.specs.Formed.{Formed}
use Rattle.setl_model.specs.Means.{Means}

-- What a run wrote and how it ended.
pub record Ending (p : Program) (input : List ℕ) (turns : ℕ) (based : Bool) : Type 0 where
  pub out : List ℕ
  pub end : End
  pub means : Means p input turns based out end

-- a formed program has an output and an end, for every input and bound on turns, whether declarations count or not
abbrev pub EveryRunEnds : Type 0
EveryRunEnds = (p : Program) → Formed p → (input : List ℕ) (turns : ℕ) (based : Bool) → Ending p input turns based

-- and none of its runs is stuck
abbrev pub NoneIsStuck : Type 0
NoneIsStuck = (p : Program) → Formed p → (input : List ℕ) (turns : ℕ) (based : Bool) (out : List ℕ) → Means p input turns based out Stuck → ⊥
