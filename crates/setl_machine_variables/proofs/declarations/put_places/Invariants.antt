use Rattle.std.proofs.Common.{◌≤◌, drop, length, map}
use Rattle.setl_program.specs.code.Plain.{plain_declared}
use Rattle.setl_machine_variables.specs.Tables.{Finds}
use Rattle.setl_machine_variables.proofs.declarations.put_places.Given as goal

abbrev pub decreases-loop-at : goal.decreases-loop-at
decreases-loop-at l = l.at

abbrev pub invariant-loop-at : goal.invariant-loop-at
invariant-loop-at l = record {
  within : l.at ≤ length l.declared;
  finds : Finds l.at (map plain_declared (drop l.at l.declared)) l.globals l.own;
}
