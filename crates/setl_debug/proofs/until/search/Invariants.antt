use Rattle.std.proofs.Common.{◌≡◌}
use Rattle.setl_debug.specs.code.Hits.{IsLow}
use Rattle.setl_debug.proofs.until.search.Given as goal

abbrev pub invariant-loop-k : goal.invariant-loop-k
invariant-loop-k g l = record {
  run : g.T.Target.run l.target ≡ g.T.Target.run l.fn.target;
  low : IsLow (g.T.Target.shows (g.T.Target.run l.fn.target)) l.line l.hits l.k;
}
