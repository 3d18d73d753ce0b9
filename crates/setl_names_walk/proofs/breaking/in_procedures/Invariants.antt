use Rattle.std.proofs.Common.{◌≡◌, drop, map}
use Rattle.setl_names.specs.Bodies.{proc_body}
use Rattle.setl_names_walk.specs.Breaking as spec
use Rattle.setl_names_walk.proofs.breaking.in_procedures.Given as goal

abbrev pub invariant-loop-proc : goal.invariant-loop-proc
invariant-loop-proc l = spec.in_bodies l.table l.found (map proc_body (drop l.proc-index l.procs)) ≡ spec.in_bodies l.table l.found (map proc_body l.procs)
