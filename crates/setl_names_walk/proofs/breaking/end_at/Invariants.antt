use Rattle.std.proofs.Common.{◌≡◌, drop}
use Rattle.setl_names_walk.specs.Breaking as spec
use Rattle.setl_names_walk.proofs.breaking.end_at.Given as goal

abbrev pub invariant-loop-proc : goal.invariant-loop-proc
invariant-loop-proc l = spec.end_at l.line (drop l.proc-index l.procs) ≡ spec.end_at l.line l.procs
