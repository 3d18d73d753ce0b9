use Rattle.std.proofs.Common.{◌≡◌, [], drop}
use Rattle.setl_modes_declarations.specs.Breaking as spec
use Rattle.setl_modes_declarations.proofs.breaking.unknown_base.Given as goal

abbrev pub invariant-loop-line : goal.invariant-loop-line
invariant-loop-line l = spec.unknown_from l.at l.known (drop l.line-index l.lines) ≡ spec.unknown_from l.at [] l.lines
