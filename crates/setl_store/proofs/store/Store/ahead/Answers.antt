use Rattle.setl_store.proofs.IteratorSteps.{end_on_top, item_on_top, no_iterator_on_top}
use Rattle.setl_store.proofs.store.Store.ahead.Goals as goal

pub returns-then-is_at_end : goal.returns-then-is_at_end
returns-then-is_at_end c =
    end_on_top c.self.inside.code.now c.self.inside.bases c.self.inside.keeps c.self.inside.at c.self.inside.environment.now c.self.inside.environment.kept c.args.self.now c.operands-count.result c.lowest.result c.operand.result.now
    c.self.invariant c.self.view_is c.operands-count.ensures c.lowest.ensures c.if-count-lowest.false c.operand.ensures
    c.in-Iterator.iterator c.is_at_end.result c.in-Iterator.is c.is_at_end.ensures c.if-is_at_end.true

pub returns-else-is_at_end : goal.returns-else-is_at_end
returns-else-is_at_end c =
    item_on_top c.self.inside.code.now c.self.inside.bases c.self.inside.keeps c.self.inside.at c.self.inside.environment.now c.self.inside.environment.kept c.args.self.now c.operands-count.result c.lowest.result c.operand.result.now
    c.self.invariant c.self.view_is c.operands-count.ensures c.lowest.ensures c.if-count-lowest.false c.operand.ensures
    c.in-Iterator.iterator c.is_at_end.result c.in-Iterator.is c.is_at_end.ensures c.if-is_at_end.false

pub returns-in_default : goal.returns-in_default
returns-in_default c =
    no_iterator_on_top c.self.inside.code.now c.self.inside.bases c.self.inside.keeps c.self.inside.at c.self.inside.environment.now c.self.inside.environment.kept c.args.self.now c.operands-count.result c.lowest.result c.operand.result.now
    c.self.invariant c.self.view_is c.operands-count.ensures c.lowest.ensures c.if-count-lowest.false c.operand.ensures
    c.in_default.not-Iterator
