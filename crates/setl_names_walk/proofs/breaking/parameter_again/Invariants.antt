use Rattle.std.proofs.Common.{◌≡◌, drop}
use Rattle.setl_names_walk.specs.Breaking as spec
use Rattle.setl_names_walk.proofs.breaking.parameter_again.Given as goal

abbrev pub invariant-loop-proc : goal.invariant-loop-proc
invariant-loop-proc l = spec.parameter_again l.line (drop l.proc-index l.procs) ≡ spec.parameter_again l.line l.procs
