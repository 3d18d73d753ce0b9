use Rattle.std.proofs.Common.{◌≡◌, ◌++◌, drop, map}
use Rattle.setl_program.specs.code.Plain.{plain_variable}
use Rattle.setl_advise_gathering.specs.Walked.{all_read}
use Rattle.setl_advise_gathering.specs.code.Plain.{listed}
use Rattle.setl_advise_gathering.proofs.stmts.reads.Given as goal

abbrev pub invariant-loop-x : goal.invariant-loop-x
invariant-loop-x l = listed l.all.items ++ all_read (map plain_variable (drop l.x-index l.xs)) ≡ listed l.initial.all.items ++ all_read (map plain_variable l.xs)
