use Rattle.std.proofs.Common.{◌<◌, inl, inr}
use Rattle.setl_advise_flows.specs.Flow.{Flow, join, Below}
use Rattle.setl_advise_conditions.specs.Rank.{rank}
use Rattle.setl_advise_conditions.specs.RankLaws.{Rises, rises, bounded}
use Rattle.setl_advise_conditions.proofs.flows_rise_to_an_end.Goals as goal

pub returns-clause-rise : goal.returns-clause-rise
returns-clause-rise c = λ f g w v new. by f g new (rises 3 f g w v)
  where
    by : (f g : Flow) → (Below f g → ⊥) → Rises 3 g (join f g) → rank 3 g < rank 3 (join f g)
    by f g new (inl e) = absurd (new e)
    by f g new (inr l) = l

pub returns-clause-bounded : goal.returns-clause-bounded
returns-clause-bounded c = λ f. bounded 3 f
