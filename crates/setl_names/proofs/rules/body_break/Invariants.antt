use Rattle.std.proofs.Common.{◌≡◌, drop, fold}
use Rattle.setl_names.specs.Breaks as spec
use Rattle.setl_names.specs.Breaks.{earlier}
use Rattle.setl_names.proofs.rules.body_break.Given as goal

abbrev pub invariant-loop-occurrence : goal.invariant-loop-occurrence
invariant-loop-occurrence l = fold earlier l.first (spec.all_occurrence_breaks l.procs (drop l.occurrence-index l.occurrences)) ≡ fold earlier l.initial.first (spec.all_occurrence_breaks l.procs l.occurrences)
