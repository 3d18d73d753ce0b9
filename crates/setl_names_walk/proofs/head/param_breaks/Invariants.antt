use Rattle.std.proofs.Common.{◌≡◌, drop, fold}
use Rattle.setl_names.specs.Breaks as spec
use Rattle.setl_names.specs.Breaks.{earlier}
use Rattle.setl_names_walk.proofs.head.param_breaks.Given as goal

abbrev pub invariant-loop-proc : goal.invariant-loop-proc
invariant-loop-proc l = fold earlier l.first (spec.param_breaks l.table (drop l.proc-index l.procs)) ≡ fold earlier l.initial.first (spec.param_breaks l.table l.procs)
