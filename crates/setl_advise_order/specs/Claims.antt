-- What the order of flows says of joins.
use Rattle.std.specs.Prelude.{◌≡◌, List}
use Rattle.setl_advise_flows.specs.Flow.{Flow, join, Below}
use Rattle.setl_advise_flows.specs.Expressions.{Flows}
use Rattle.setl_advise_conditions.specs.Conditions.{Condition, MeetsAll}
use Rattle.setl_advise_conditions.specs.Grown.{Grown}
use Rattle.setl_advise_order.specs.Order.{Le, Within, AreBelow, AreWithin}

-- it is an order
pub record LeIsOrder : Type 0 where
  pub itself : (f : Flow) → Le f f
  pub through : (f g h : Flow) → Le f g → Le g h → Le f h
  pub same : (f g : Flow) → Le f g → Le g f → f ≡ g

-- a join is above both flows
abbrev pub JoinIsAbove : Type 0
JoinIsAbove = (f g : Flow) → Le f (join f g) × Le g (join f g) × Within 3 (join f g)

-- and it is the least such flow within three places
abbrev pub JoinIsLeast : Type 0
JoinIsLeast = (f g h : Flow) → Within 3 h → Le f h → Le g h → Le (join f g) h

-- a flow is below another one, within three places, where their join is the other one, and only there
abbrev pub BelowIsLe : Type 0
BelowIsLe = (f g : Flow) → (Below f g → Le f g × Within 3 g) × (Le f g → Within 3 g → Below f g)

-- flows that come from no values by what conditions store have no more than any flows that meet these
abbrev pub GrownIsLeast : Type 0
GrownIsLeast = (cs : List Condition) (s u : Flows) → AreWithin u → Grown cs s → MeetsAll u cs → AreBelow s u
