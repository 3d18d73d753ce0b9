use Rattle.std.proofs.Common.{◌≡◌, map, take}
use Rattle.setl_program.specs.code.Plain.{plain_variable}
use Rattle.setl_program.specs.Scope.{variable_of}
use Rattle.setl_program_scope.proofs.scope.Scope.variables.Given as goal

abbrev pub invariant-loop-name : goal.invariant-loop-name
invariant-loop-name l = map plain_variable l.all ≡ map (variable_of l.self) (take l.name-index l.names)
