use Rattle.std.proofs.Common.{◌≤◌, ◌+◌, drop, length}
use Rattle.setl_code.specs.Plain.{own_variables}
use Rattle.setl_model_runs.specs.Variable.{Own}
use Rattle.setl_store_layout.specs.Places.{Finds}
use Rattle.setl_store_layout.proofs.places.own_places.Given as goal

abbrev pub decreases-loop-at : goal.decreases-loop-at
decreases-loop-at l = l.at

abbrev pub invariant-loop-at : goal.invariant-loop-at
invariant-loop-at l = record {
  within : l.at ≤ length l.parameters + length l.names;
  finds : Finds (Own 0) l.at (drop l.at (own_variables 0 l.parameters l.names)) l.table;
}
