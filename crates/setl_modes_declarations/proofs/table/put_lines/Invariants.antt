use Rattle.std.proofs.Common.{◌≡◌, ◌++◌, drop}
use Rattle.setl_modes.specs.Declarations.{bases_from, variables_from}
use Rattle.setl_modes_declarations.specs.Declares.{named_modes}
use Rattle.setl_modes_declarations.specs.code.Elements.{Finds}
use Rattle.setl_modes_declarations.proofs.table.put_lines.Given as goal

abbrev pub invariant-loop-line : goal.invariant-loop-line
invariant-loop-line l = record {
  bases : bases_from (named_modes l.bases.modes) (drop l.line-index l.lines) ≡ bases_from (named_modes l.initial.bases.modes) l.lines;
  vars : named_modes l.vars ++ variables_from (named_modes l.bases.modes) (drop l.line-index l.lines) ≡ named_modes l.initial.vars ++ variables_from (named_modes l.initial.bases.modes) l.lines;
  finds : Finds l.bases.numbers (named_modes l.bases.modes);
}
