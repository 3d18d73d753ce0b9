use Rattle.std.proofs.Common.{◌≤◌, drop, length}
use Rattle.setl_names.specs.code.Tables.{Finds}
use Rattle.setl_names.proofs.procs.Procs.new.Given as goal

abbrev pub decreases-loop-at : goal.decreases-loop-at
decreases-loop-at l = l.at

abbrev pub invariant-loop-at : goal.invariant-loop-at
invariant-loop-at l = record {
  within : l.at ≤ length l.procs;
  finds : Finds l.table (λ r. (r.0, r.1.now)) l.at (drop l.at l.procs);
}
