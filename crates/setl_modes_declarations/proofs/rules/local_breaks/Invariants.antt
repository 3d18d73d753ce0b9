use Rattle.std.proofs.Common.{◌≡◌, drop, fold}
use Rattle.setl_names.specs.Breaks.{earlier, tagged}
use Rattle.setl_modes_declarations.specs.Rules as spec
use Rattle.setl_modes_declarations.proofs.rules.local_breaks.Given as goal

abbrev pub invariant-loop-line : goal.invariant-loop-line
invariant-loop-line l = fold earlier l.first (tagged 25 (spec.rule_25 (drop l.line-index l.lines))) ≡ fold earlier l.initial.first (tagged 25 (spec.rule_25 l.lines))
