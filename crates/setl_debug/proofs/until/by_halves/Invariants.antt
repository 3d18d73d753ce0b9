use Rattle.std.proofs.Common.{◌≡◌, ◌<◌, ◌≤◌, ◌-◌}
use Rattle.setl_debug.specs.code.Hits.{IsHigh, IsLow}
use Rattle.setl_debug.proofs.until.by_halves.Given as goal

abbrev pub invariant-loop-over : goal.invariant-loop-over
invariant-loop-over g l = record {
  order : l.under < l.over;
  above : l.fn.low ≤ l.under;
  within : l.over ≤ l.fn.high;
  run : g.T.Target.run l.target ≡ g.T.Target.run l.fn.target;
  low : IsLow (g.T.Target.shows (g.T.Target.run l.fn.target)) l.line l.hits l.under;
  high : IsHigh (g.T.Target.shows (g.T.Target.run l.fn.target)) l.line l.hits l.over;
}

abbrev pub decreases-loop-over : goal.decreases-loop-over
decreases-loop-over g l = l.over - l.under
