use Rattle.std.proofs.Common.{◌≡◌, drop}
use Rattle.setl_names_walk.specs.Breaking as spec
use Rattle.setl_names_walk.proofs.breaking.in_occurrences.Given as goal

abbrev pub invariant-loop-i : goal.invariant-loop-i
invariant-loop-i l = spec.in_occurrences l.procs l.found (drop l.i l.occurrences) ≡ spec.in_occurrences l.procs l.found l.occurrences
