-- An operator over another number of operands than it needs.
use Rattle.std.proofs.Common.{◌≡◌, refl, List, [], ◌∷◌, length}
use Rattle.setl_advise_flows.specs.Flow as plain
use Rattle.setl_advise_flows.specs.Operators.{flows, one_flow, two_flows, three_flows}
use Rattle.setl_advise_lattice.specs.declared.shape.Shape.{Shape}
use Rattle.setl_advise_lattice.specs.code.Levels.{shapes_of}

pub not_one : (ws : List Shape) → (length ws ≡ 1 → ⊥) → (t : plain.Flow → plain.Flow) → one_flow t (flows (shapes_of ws)) ≡ plain.Any
not_one [] h t = refl
not_one (a ∷ []) h t = absurd (h refl)
not_one (a ∷ b ∷ ws) h t = refl

pub not_two : (ws : List Shape) → (length ws ≡ 2 → ⊥) → (t : plain.Flow → plain.Flow → plain.Flow) → two_flows t (flows (shapes_of ws)) ≡ plain.Any
not_two [] h t = refl
not_two (a ∷ []) h t = refl
not_two (a ∷ b ∷ []) h t = absurd (h refl)
not_two (a ∷ b ∷ c ∷ ws) h t = refl

pub not_three : (ws : List Shape) → (length ws ≡ 3 → ⊥) → (t : plain.Flow → plain.Flow → plain.Flow → plain.Flow) → three_flows t (flows (shapes_of ws)) ≡ plain.Any
not_three [] h t = refl
not_three (a ∷ []) h t = refl
not_three (a ∷ b ∷ []) h t = refl
not_three (a ∷ b ∷ c ∷ []) h t = absurd (h refl)
not_three (a ∷ b ∷ c ∷ d ∷ ws) h t = refl
