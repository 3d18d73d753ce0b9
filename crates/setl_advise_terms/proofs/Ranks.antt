-- A join that changes a flow raises its rank.
use Rattle.std.proofs.Common.{◌≡◌, ◌<◌, subst, inl, inr}
use Rattle.setl_advise_flows.specs.Flow as plain
use Rattle.setl_advise_flows.specs.Flow.{join, capped, Below}
use Rattle.setl_advise_lattice.specs.declared.level.Flat.{Flat}
use Rattle.setl_advise_lattice.specs.declared.level.Level.{Level}
use Rattle.setl_advise_lattice.specs.code.Levels.{flat_flow, level_flow, flow_of}
use Rattle.setl_advise_lattice.specs.code.Within.{within_flat, within_level}
use Rattle.setl_advise_conditions.specs.Rank.{rank}
use Rattle.setl_advise_conditions.specs.RankLaws.{Rises, rises}

within : (f : Level (Level (Level Flat))) → capped 3 (flow_of f) ≡ flow_of f
within = within_level 2 (level_flow (level_flow flat_flow)) (within_level 1 (level_flow flat_flow) (within_level 0 flat_flow within_flat))

by_change : (f g : plain.Flow) → (Below f g → ⊥) → Rises 3 g (join f g) → rank 3 g < rank 3 (join f g)
by_change f g new (inl same) = absurd (new same)
by_change f g new (inr less) = less

pub risen : (f g : Level (Level (Level Flat))) (h : plain.Flow) → flow_of g ≡ h → (join (flow_of f) (flow_of g) ≡ flow_of g → ⊥) → rank 3 h < rank 3 (join (flow_of f) h)
risen f g h is new =
    subst (λ h. rank 3 h < rank 3 (join (flow_of f) h)) is
    (by_change (flow_of f) (flow_of g) new (rises 3 (flow_of f) (flow_of g) (within f) (within g)))
