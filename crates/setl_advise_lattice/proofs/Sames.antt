-- The test of flows tells whether they are one.
use Rattle.std.proofs.Common.{◌≡◌, ◌∙◌, refl, ap, sym, Bool, true, false}
use Rattle.std.specs.Prelude.{◌&&◌}
use Rattle.setl_advise_flows.specs.Flow.{Kind, Whole, Letters, Truth, Token, Flow, Nothing, Scalar, Set, Tuple, Map, Any, is_kind}
use Rattle.setl_advise_lattice.specs.Same.{is_flow}

same_kind : (k l : Kind) → is_kind k l ≡ true → k ≡ l
same_kind Whole Whole h = refl
same_kind Letters Letters h = refl
same_kind Truth Truth h = refl
same_kind Token Token h = refl
same_kind k l h = cc

kind_itself : (k : Kind) → is_kind k k ≡ true
kind_itself Whole = refl
kind_itself Letters = refl
kind_itself Truth = refl
kind_itself Token = refl

both_true : (a b : Bool) → (a && b) ≡ true → (a ≡ true) × (b ≡ true)
both_true true b h = (refl, h)
both_true false b h = cc

pub same_flow : (f g : Flow) → is_flow f g ≡ true → f ≡ g
same_flow Nothing Nothing h = refl
same_flow (Scalar k) (Scalar l) h = ap Scalar (same_kind k l h)
same_flow (Set f) (Set g) h = ap Set (same_flow f g h)
same_flow (Tuple f) (Tuple g) h = ap Tuple (same_flow f g h)
same_flow (Map f g) (Map h k) e =
    let b = both_true (is_flow f h) (is_flow g k) e in
    let l = same_flow f h b.0 in
    let r = same_flow g k b.1 in
    λ i. Map (l i) (r i)
same_flow Any Any h = refl
same_flow f g h = cc

both : (a b : Bool) → a ≡ true → b ≡ true → (a && b) ≡ true
both true b h k = k
both false b h k = cc

pub flow_itself : (f : Flow) → is_flow f f ≡ true
flow_itself Nothing = refl
flow_itself (Scalar k) = kind_itself k
flow_itself (Set f) = flow_itself f
flow_itself (Tuple f) = flow_itself f
flow_itself (Map f g) = both (is_flow f f) (is_flow g g) (flow_itself f) (flow_itself g)
flow_itself Any = refl

pub other_flow : (f g : Flow) → is_flow f g ≡ false → f ≡ g → ⊥
other_flow f g h e = let t : is_flow f g ≡ true = ap (is_flow f) (sym e) ∙ flow_itself f in cc
