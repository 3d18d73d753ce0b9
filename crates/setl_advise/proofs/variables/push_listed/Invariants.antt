use Rattle.std.proofs.Common.{◌≡◌, ◌++◌, map, drop}
use Rattle.setl_names.specs.Variables.{var_names}
use Rattle.setl_program.specs.Scope.{variable_of}
use Rattle.setl_program.specs.code.Plain.{plain_variable}
use Rattle.setl_advise.proofs.variables.push_listed.Given as goal

abbrev pub invariant-loop-name : goal.invariant-loop-name
invariant-loop-name l = map plain_variable l.all ++ map (variable_of l.scope) (var_names (drop l.name-index l.listed)) ≡ map plain_variable l.initial.all ++ map (variable_of l.scope) (var_names l.listed)
