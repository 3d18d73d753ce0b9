use Rattle.std.proofs.Common.{◌≡◌, ◌≤◌}
use Rattle.setl_explain_places.specs.Places as spec
use Rattle.setl_explain_places.proofs.line_start.Given as goal

abbrev pub invariant-loop-start : goal.invariant-loop-start
invariant-loop-start l = (spec.line_start l.source l.start ≡ spec.line_start l.source l.at) × (l.start ≤ l.at)

abbrev pub decreases-loop-start : goal.decreases-loop-start
decreases-loop-start l = l.start
