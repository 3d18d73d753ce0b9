use Rattle.std.proofs.Common.{◌≡◌, ◌+◌, ◌≤◌}
use Rattle.setl_operators_enumerations.specs.Counts.{choose}
use Rattle.setl_operators_enumerations.proofs.counts.subset_count.Given as goal

abbrev pub invariant-loop-i : goal.invariant-loop-i
invariant-loop-i l = (l.count ≡ choose (l.others + l.i) l.i) × (l.count ≤ l.turns)
