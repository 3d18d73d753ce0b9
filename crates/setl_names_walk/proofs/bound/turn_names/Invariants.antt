use Rattle.std.proofs.Common.{◌≡◌, ◌++◌, drop, map}
use Rattle.setl_names.specs.Occurrences as spec
use Rattle.setl_names_walk.proofs.bound.turn_names.Given as goal

abbrev pub invariant-loop-x : goal.invariant-loop-x
invariant-loop-x l = l.names ++ spec.names_of_turns (map spec.turn (drop l.x-index l.turns)) ≡ spec.names_of_turns (map spec.turn l.turns)
