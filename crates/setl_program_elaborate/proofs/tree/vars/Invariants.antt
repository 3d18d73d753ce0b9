use Rattle.std.proofs.Common.{◌≡◌, take}
use Rattle.setl_names.specs.Variables.{var_names}
use Rattle.setl_program_elaborate.proofs.tree.vars.Given as goal

abbrev pub invariant-loop-name : goal.invariant-loop-name
invariant-loop-name l = l.all ≡ var_names (take l.name-index l.declared)
