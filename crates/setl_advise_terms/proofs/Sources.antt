-- Sources of another number of parts than one.
use Rattle.std.proofs.Common.{◌≡◌, refl, List, [], ◌∷◌, length}
use Rattle.setl_program.specs.Program.{Points}
use Rattle.setl_advise_flows.specs.Flow.{Any}
use Rattle.setl_advise_flows.specs.Operators.{flows}
use Rattle.setl_advise_flows.specs.Expressions.{source_flow}
use Rattle.setl_advise_lattice.specs.declared.shape.Shape.{Shape}
use Rattle.setl_advise_lattice.specs.code.Levels.{shapes_of}

pub not_whole : (ws : List Shape) → (length ws ≡ 1 → ⊥) → Any ≡ source_flow Points (flows (shapes_of ws))
not_whole [] h = refl
not_whole (a ∷ []) h = absurd (h refl)
not_whole (a ∷ b ∷ ws) h = refl
