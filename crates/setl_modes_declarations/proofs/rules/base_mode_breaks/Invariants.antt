use Rattle.std.proofs.Common.{◌≡◌, drop, fold}
use Rattle.setl_names.specs.Breaks.{earlier, tagged}
use Rattle.setl_modes_declarations.specs.Rules as spec
use Rattle.setl_modes_declarations.proofs.rules.base_mode_breaks.Given as goal

abbrev pub invariant-loop-line : goal.invariant-loop-line
invariant-loop-line l = fold earlier l.first (tagged 22 (spec.rule_22 (drop l.line-index l.lines))) ≡ fold earlier l.initial.first (tagged 22 (spec.rule_22 l.lines))
