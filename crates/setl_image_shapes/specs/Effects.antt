-- What a step does with the operands, and where it leads.
use Rattle.std.specs.Prelude.{◌≡◌, ◌<◌, ℕ, suc, [], ◌∷◌, List, length, get_or, Option, Some, None}
use Rattle.setl_code.specs.Shapes.{AResult, Shape, without_results, without_levels, if_collection, after, Outs, lead, on_to, next_outs}
use Rattle.setl_image_shapes.specs.declared.effect.Effect.{Effect}
use Rattle.setl_image_shapes.specs.declared.effect.Effect.TheVariants.{Results, Puts, Calls, Begins, Jumps, Tests, Decides, Next, Adds, Leaves, Ends, Lacks}
use Rattle.setl_image_shapes.specs.declared.effect.Ways.{Ways}
use Rattle.setl_image_shapes.specs.declared.effect.Ways.TheVariants.{Nowhere, One, Two}
use Rattle.setl_image_shapes.specs.Runs.{plain_kind, Grown}

-- where a step leads from a shape; `at` is the next step
abbrev pub leads : Effect → ℕ → Shape → Outs
leads (Results n m) at s = on_to at m (without_results n s)
leads (Puts n) at s = on_to at 0 (after (without_results n s) (without_results 1))
leads (Calls n m) at s = on_to at (suc m) (without_results n s)
leads (Begins n k) at s = lead (without_results n s) (λ t. (at, plain_kind k ∷ t) ∷ [])
leads (Jumps to) at s = Some ((to, s) ∷ [])
leads (Tests to) at s = lead (without_results 1 s) (λ t. (at, t) ∷ (to, t) ∷ [])
leads (Decides to) at s = lead (without_results 1 s) (λ t. (at, t) ∷ (to, AResult ∷ t) ∷ [])
leads (Next to) at s = next_outs at to s
leads (Adds n) at s = on_to at 0 (after (without_results 1 s) (λ t. after (without_levels n t) (λ u. if_collection u (Some t))))
leads (Leaves n) at s = on_to at 0 (without_levels n s)
leads (Ends n) at s = lead (without_results n s) (λ t. [])
leads Lacks at s = None

-- the steps where ways lead, with their shapes
abbrev pub outs_of : List Shape → Ways → List (ℕ × Shape)
outs_of stacks Nowhere = []
outs_of stacks (One p) = (p.step, get_or stacks p.stack []) ∷ []
outs_of stacks (Two p q) = (p.step, get_or stacks p.stack []) ∷ (q.step, get_or stacks q.stack []) ∷ []

-- the stacks of ways are there
abbrev pub AreWays : List Shape → Ways → Type 0
AreWays stacks Nowhere = Unit {0}
AreWays stacks (One p) = p.stack < length stacks
AreWays stacks (Two p q) = (p.stack < length stacks) × (q.stack < length stacks)

-- the ways are found, if the step lacks nothing
abbrev pub AreOuts : List Shape → Option Ways → Outs → Type 0
AreOuts stacks None outs = outs ≡ None
AreOuts stacks (Some ways) outs = AreWays stacks ways × (outs ≡ Some (outs_of stacks ways))

-- the ways are found on stacks that grew
abbrev pub Led : (old new : List Shape) → Option Ways → Outs → Type 0
Led old new found outs = Grown old new × AreOuts new found outs
