use Rattle.std.proofs.Common.{◌∙◌, ◌-◌, drop, ap, sym, arith}
use Rattle.setl_store_operands.specs.Operands.{operand_of}
use Rattle.setl_store.specs.HasValues.{has_values}
use Rattle.setl_store.proofs.HasValues.{at_from_top, too_few_left, values_more, values_end}
use Rattle.setl_store.proofs.store.Store.has_values.Goals as goal

pub returns-then-operands-lowest : goal.returns-then-operands-lowest
returns-then-operands-lowest c =
    too_few_left c.self.inside.code.now c.self.inside.bases c.self.inside.at c.self.inside.environment.now c.self.inside.environment.kept c.args.self.now c.self.view_is c.operands-operands.result c.lowest.result c.args.count
    c.operands-operands.ensures c.lowest.ensures c.if-operands-lowest.true

pub loop-k-init : goal.loop-k-init
loop-k-init c = ap (λ n. has_values n c.args.self.now.core.now.operands) {x = c.args.count} {y = c.args.count - 0} (omega arith)

pub loop-k-preserved : goal.loop-k-preserved
loop-k-preserved c =
    c.loop-k.invariant
    ∙ values_more c.args.count c.loop-k.k c.args.self.now.core.now.operands (operand_of c.self.inside.bases c.self.inside.environment.now.members c.operand.result.now) c.loop-k-test.true
    (at_from_top c.self.inside.code.now c.self.inside.bases c.self.inside.at c.self.inside.environment.now c.self.inside.environment.kept c.args.self.now c.self.invariant.1 c.self.view_is c.operands-operands.result c.lowest.result c.loop-k.k c.operand.result.now
    c.operands-operands.ensures c.lowest.ensures (omega (arith, c.loop-k-test.true, c.if-operands-lowest.false)) c.operand.ensures)
    (sym (c.is_value.ensures c.self.inside.bases c.self.inside.environment.now.members) ∙ c.if-not-is_value.false)

pub returns-then-not-is_value : goal.returns-then-not-is_value
returns-then-not-is_value c =
    sym (c.loop-k.invariant
    ∙ values_end c.args.count c.loop-k.k c.args.self.now.core.now.operands (operand_of c.self.inside.bases c.self.inside.environment.now.members c.operand.result.now) c.loop-k-test.true
    (at_from_top c.self.inside.code.now c.self.inside.bases c.self.inside.at c.self.inside.environment.now c.self.inside.environment.kept c.args.self.now c.self.invariant.1 c.self.view_is c.operands-operands.result c.lowest.result c.loop-k.k c.operand.result.now
    c.operands-operands.ensures c.lowest.ensures (omega (arith, c.loop-k-test.true, c.if-operands-lowest.false)) c.operand.ensures)
    (sym (c.is_value.ensures c.self.inside.bases c.self.inside.environment.now.members) ∙ c.if-not-is_value.true))

pub returns : goal.returns
returns c = sym (c.loop-k.invariant ∙ ap (λ n. has_values n (drop c.loop-k.k c.args.self.now.core.now.operands)) {x = c.args.count - c.loop-k.k} {y = 0} (omega (arith, c.loop-k-test.false)))
