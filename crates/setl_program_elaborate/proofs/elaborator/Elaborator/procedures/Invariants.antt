use Rattle.std.proofs.Common.{◌≡◌, ◌++◌, suc, drop, map}
use Rattle.setl_program.specs.code.Plain.{plain_procedure}
use Rattle.setl_program.specs.ProgramOf.{procedures_from}
use Rattle.setl_program_elaborate.proofs.elaborator.Elaborator.procedures.Given as goal

abbrev pub invariant-loop-proc : goal.invariant-loop-proc
invariant-loop-proc l = map plain_procedure l.all ++ procedures_from l.self.scope (suc l.self.scope.body) (drop l.proc-index l.procs) ≡ procedures_from l.initial.self.scope (suc l.initial.self.scope.body) l.procs
