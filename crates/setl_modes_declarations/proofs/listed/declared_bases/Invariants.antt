use Rattle.std.proofs.Common.{◌≡◌, ◌++◌, drop}
use Rattle.setl_modes_declarations.specs.Rules as spec
use Rattle.setl_modes_declarations.proofs.listed.declared_bases.Given as goal

abbrev pub invariant-loop-line : goal.invariant-loop-line
invariant-loop-line l = l.all ++ spec.declared_bases (drop l.line-index l.lines) ≡ spec.declared_bases l.lines
