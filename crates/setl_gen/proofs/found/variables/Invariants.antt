use Rattle.std.proofs.Common.{◌≡◌, ◌++◌, drop, map}
use Rattle.setl_program.specs.code.Plain.{plain_variable}
use Rattle.setl_gen.proofs.found.variables.Given as goal

abbrev pub invariant-loop-x : goal.invariant-loop-x
invariant-loop-x l = l.all ++ map plain_variable (drop l.x-index l.xs) ≡ l.initial.all ++ map plain_variable l.xs
