-- How high a flow stands among those of some places for constructors: it grows with each join that changes the flow.
use Rattle.std.specs.Prelude.{ℕ, zero, suc, ◌+◌, ◌-◌, List, [], ◌∷◌}
use Rattle.setl_advise_flows.specs.Flow.{Flow, Nothing, Scalar, Set, Tuple, Map, Any}
use Rattle.setl_advise_flows.specs.Expressions.{Flows}
use Rattle.setl_advise_conditions.specs.Conditions.{Condition, target_flow}

-- the rank of all values
abbrev pub height : ℕ → ℕ
height zero = 2
height (suc n) = 4 + (height n + height n + height n)

-- the rank of sets: the empty set alone is below the maps
abbrev pub set_rank : ℕ → Flow → ℕ → ℕ
set_rank h Nothing r = 1
set_rank h f r = 3 + (h + h) + r

abbrev pub rank : ℕ → Flow → ℕ
rank n Nothing = 0
rank n (Scalar k) = 1
rank zero (Set f) = 2
rank zero (Tuple f) = 2
rank zero (Map f g) = 2
rank (suc n) (Set f) = set_rank (height n) f (rank n f)
rank (suc n) (Tuple f) = 1 + rank n f
rank (suc n) (Map f g) = 2 + rank n f + rank n g
rank n Any = height n

-- how far the targets of conditions can still rise
abbrev pub room : List Condition → Flows → ℕ
room [] s = 0
room (c ∷ cs) s = (height 3 - rank 3 (target_flow s c.target)) + room cs s
