use Rattle.std.proofs.Common.{◌≡◌, drop, fold}
use Rattle.std.specs.List.{list_any}
use Rattle.setl_names.specs.Breaks.{earlier, tagged}
use Rattle.setl_modes_declarations.specs.Rules as spec
use Rattle.setl_modes_written.specs.code.Tests as tests
use Rattle.setl_modes_declarations.proofs.rules.test_breaks.Given as goal

abbrev pub invariant-loop-line : goal.invariant-loop-line
invariant-loop-line l = fold earlier l.first (tagged l.rule (spec.lines_where (λ k. list_any (tests.passes l.test) (spec.line_parts k)) (drop l.line-index l.lines))) ≡ fold earlier l.initial.first (tagged l.rule (spec.lines_where (λ k. list_any (tests.passes l.test) (spec.line_parts k)) l.lines))
