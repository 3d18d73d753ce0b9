use Rattle.std.proofs.Common.{◌≡◌, ℕ, ◌-◌, length, get_or}
use Rattle.setl_store_environment.proofs.environment.fill.Given as goal

-- only zeros were added
abbrev pub invariant-loop-stamps : goal.invariant-loop-stamps
invariant-loop-stamps l = (at : ℕ) → get_or l.stamps.items at 0 ≡ get_or l.fn.stamps.items at 0

abbrev pub decreases-loop-stamps : goal.decreases-loop-stamps
decreases-loop-stamps l = l.n - length l.stamps.items
