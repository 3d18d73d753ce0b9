use Rattle.std.proofs.Common.{◌≡◌, ◌++◌, drop}
use Rattle.setl_modes_declarations.specs.Rules as spec
use Rattle.setl_modes_declarations.proofs.listed.declared_variables.Given as goal

abbrev pub invariant-loop-line : goal.invariant-loop-line
invariant-loop-line l = l.all ++ spec.declared_variables (drop l.line-index l.lines) ≡ spec.declared_variables l.lines
