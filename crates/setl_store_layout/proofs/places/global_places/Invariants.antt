use Rattle.std.proofs.Common.{◌≤◌, drop, length, map}
use Rattle.setl_model_runs.specs.Variable.{Global}
use Rattle.setl_store_layout.specs.Places.{Finds}
use Rattle.setl_store_layout.proofs.places.global_places.Given as goal

abbrev pub decreases-loop-at : goal.decreases-loop-at
decreases-loop-at l = l.at

abbrev pub invariant-loop-at : goal.invariant-loop-at
invariant-loop-at l = record {
  within : l.at ≤ length l.names;
  finds : Finds Global l.at (drop l.at (map Global l.names)) l.table;
}
