use Rattle.std.proofs.Common.{◌≡◌, drop}
use Rattle.setl_names.specs.Names.{with_names}
use Rattle.setl_modes_declarations.specs.code.Taken.{names_of_all, variable_names}
use Rattle.setl_modes_declarations.proofs.taken.variable_names.Given as goal

abbrev pub invariant-loop-body : goal.invariant-loop-body
invariant-loop-body l = with_names l.names (names_of_all (drop l.body-index l.bodies)) ≡ variable_names l.vars l.bodies
