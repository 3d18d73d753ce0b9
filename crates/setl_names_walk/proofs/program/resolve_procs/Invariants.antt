use Rattle.std.proofs.Common.{◌≡◌, drop, map}
use Rattle.setl_names.specs.Bodies.{proc_body}
use Rattle.setl_names_walk.specs.Found.{with_bodies}
use Rattle.setl_names_walk.proofs.program.resolve_procs.Given as goal

abbrev pub invariant-loop-proc : goal.invariant-loop-proc
invariant-loop-proc l = with_bodies l.table l.vars (map proc_body (drop l.proc-index l.procs)) l.found ≡ with_bodies l.table l.vars (map proc_body l.procs) l.initial.found
