use Rattle.std.proofs.Common.{◌≡◌, ◌++◌, map, drop}
use Rattle.setl_program.specs.Scope.{variable_of}
use Rattle.setl_program.specs.code.Plain.{plain_variable}
use Rattle.setl_advise.proofs.variables.push_named.Given as goal

abbrev pub invariant-loop-name : goal.invariant-loop-name
invariant-loop-name l = map plain_variable l.all ++ map (variable_of l.scope) (drop l.name-index l.names) ≡ map plain_variable l.initial.all ++ map (variable_of l.scope) l.names
