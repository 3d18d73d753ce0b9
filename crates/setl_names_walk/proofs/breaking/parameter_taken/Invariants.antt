use Rattle.std.proofs.Common.{◌≡◌, drop}
use Rattle.setl_names_walk.specs.Breaking as spec
use Rattle.setl_names_walk.proofs.breaking.parameter_taken.Given as goal

abbrev pub invariant-loop-proc : goal.invariant-loop-proc
invariant-loop-proc l = spec.parameter_taken l.table l.line (drop l.proc-index l.procs) ≡ spec.parameter_taken l.table l.line l.procs
