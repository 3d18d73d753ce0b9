-- Selectors by their flows, each with the flow of what it selects from.
use Rattle.std.specs.Prelude.{◌≡◌, refl, List, [], ◌∷◌}
use Rattle.std.proofs.Common.{ap}
use Rattle.setl_program.specs.declared.stmt.Selector.{Selector}
use Rattle.setl_program.specs.declared.stmt.Selector.TheVariants as s
use Rattle.setl_program.specs.code.Plain.{plain_expr}
use Rattle.setl_advise_flows.specs.Flow.{Flow}
use Rattle.setl_advise_flows.specs.Operators.{get_flow, images_flow, put_flow, put_images_flow}
use Rattle.setl_advise_flows.specs.Expressions.{Flows, flow_at, At, RoundAt, BraceAt, whole_flow}

-- a selector by the flow of its expression
abbrev pub at_of : Flows → Selector → At
at_of f (s.Round e) = RoundAt (flow_at f (plain_expr e))
at_of f (s.Brace e) = BraceAt (flow_at f (plain_expr e))

-- what a selector selects from a flow
abbrev pub inner : At → Flow → Flow
inner (RoundAt x) f = get_flow f
inner (BraceAt x) f = images_flow f

-- the whole after the part that a selector selects from a flow has another one
abbrev pub put_in : At → Flow → Flow → Flow
put_in (RoundAt x) f y = put_flow f x y
put_in (BraceAt x) f y = put_images_flow f x y

-- selectors from the outside in
abbrev pub levels_of : List At → Flow → List (At × Flow)
levels_of [] f = []
levels_of (a ∷ ats) f = (a, f) ∷ levels_of ats (inner a f)

-- the whole after the innermost part has this flow
abbrev pub rebuilt : List (At × Flow) → Flow → Flow
rebuilt [] y = y
rebuilt (l ∷ ls) y = put_in l.0 l.1 (rebuilt ls y)

-- that is how wholes are defined
pub rebuilt_is : (ats : List At) (f y : Flow) → rebuilt (levels_of ats f) y ≡ whole_flow ats f y
rebuilt_is [] f y = refl
rebuilt_is (RoundAt x ∷ ats) f y = ap (put_flow f x) (rebuilt_is ats (get_flow f) y)
rebuilt_is (BraceAt x ∷ ats) f y = ap (put_images_flow f x) (rebuilt_is ats (images_flow f) y)
