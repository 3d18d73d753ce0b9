use Rattle.std.proofs.Common.{[], fold}
use Rattle.setl_names.specs.Breaks.{earlier, tagged}
use Rattle.setl_modes_declarations.specs.Rules.{rule_21}
use Rattle.setl_modes_declarations.proofs.Appends.{line_unknown}
use Rattle.setl_modes_declarations.proofs.rules.element_breaks.Goals as goal

pub loop-line-preserved : goal.loop-line-preserved
loop-line-preserved c =
    line_unknown c.args.lines.now c.loop-line.line-index c.line-item.result c.loop-line.first c.unknown_in_line-first.result (fold earlier c.args.first (tagged 21 (rule_21 [] c.args.lines.now))) c.loop-line.known c.put_bases.new.known
    c.loop-line-test.true c.line-item.is c.loop-line.invariant c.unknown_in_line-first.ensures c.in_ok-put_bases.ensures
