use Rattle.std.proofs.Common.{◌≡◌, drop}
use Rattle.setl_names.specs.Names.{with_names}
use Rattle.setl_names.specs.Variables.{of_body, variables}
use Rattle.setl_names_walk.proofs.bodies.add_slots.Given as goal

abbrev pub invariant-loop-occurrence : goal.invariant-loop-occurrence
invariant-loop-occurrence l = record {
  same : l.all ≡ l.seen;
  names : with_names l.seen (of_body l.params l.vars (variables l.procs (drop l.occurrence-index l.occurrences))) ≡ with_names l.initial.seen (of_body l.params l.vars (variables l.procs l.occurrences));
}
