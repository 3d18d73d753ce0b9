use Rattle.std.proofs.Common.{drop, map}
use Rattle.setl_program.specs.code.Plain.{plain_declared}
use Rattle.setl_advise_section.specs.code.Numbers.{bases_of}
use Rattle.setl_advise_terms.specs.code.Plain.{flows_of}
use Rattle.setl_advise_checked.specs.Checked.{AreAdvised}
use Rattle.setl_advise_checked.proofs.programs.are_advised.Given as goal

abbrev pub invariant-loop-d : goal.invariant-loop-d
invariant-loop-d l = AreAdvised (bases_of l.numbers) (flows_of l.table) (map plain_declared (drop l.d-index l.declared)) → AreAdvised (bases_of l.numbers) (flows_of l.table) (map plain_declared l.declared)
