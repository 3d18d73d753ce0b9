use Rattle.std.proofs.Common.{◌≡◌, ◌∙◌, ◌-◌, ◌+◌, ◌∷◌, drop, ap, arith}
use Rattle.setl_code.specs.CodeCore.{without_iterators}
use Rattle.setl_store_operands.specs.Operands.{operand_of}
use Rattle.setl_store.proofs.HasValues.{at_from_top}
use Rattle.setl_store.proofs.Dropping.{few_left, one_off, none_off}
use Rattle.setl_store.proofs.store.Store.has_iterators.Goals as goal
use Rattle.setl_store.proofs.store.Store.has_iterators.Goals.{After-operand}

pub returns-then-operands-lowest : goal.returns-then-operands-lowest
returns-then-operands-lowest c =
    few_left c.self.inside.code.now c.self.inside.bases c.self.inside.at c.self.inside.environment.now c.self.inside.environment.kept c.args.self.now c.self.view_is c.operands-operands.result c.lowest.result c.args.count
    c.operands-operands.ensures c.lowest.ensures c.if-operands-lowest.true

pub loop-k-init : goal.loop-k-init
loop-k-init c = ap (λ n. without_iterators n c.args.self.now.core.now.operands) {x = c.args.count} {y = c.args.count - 0} (omega arith)

-- the k-th from the top
there : (c : After-operand) → drop c.loop-k.k c.args.self.now.core.now.operands ≡ operand_of c.self.inside.bases c.self.inside.environment.now.members c.operand.result.now ∷ drop (c.loop-k.k + 1) c.args.self.now.core.now.operands
there c =
    at_from_top c.self.inside.code.now c.self.inside.bases c.self.inside.at c.self.inside.environment.now c.self.inside.environment.kept c.args.self.now c.self.invariant.1 c.self.view_is c.operands-operands.result c.lowest.result c.loop-k.k c.operand.result.now
    c.operands-operands.ensures c.lowest.ensures (omega (arith, c.loop-k-test.true, c.if-operands-lowest.false)) c.operand.ensures

pub loop-k-preserved : goal.loop-k-preserved
loop-k-preserved c =
    c.loop-k.invariant
    ∙ one_off c.self.inside.bases c.args.count c.loop-k.k c.self.inside.environment.now.members c.operand.result.now c.args.self.now.core.now.operands c.loop-k-test.true (there (goal.at.loop-k-preserved c).After-operand) c.if-is_value.ensures

pub returns-then-is_value : goal.returns-then-is_value
returns-then-is_value c =
    c.loop-k.invariant
    ∙ none_off c.self.inside.bases c.args.count c.loop-k.k c.self.inside.environment.now.members c.operand.result.now c.args.self.now.core.now.operands c.loop-k-test.true (there (goal.at.returns-then-is_value c).After-operand) c.if-is_value.ensures

pub returns : goal.returns
returns c =
    let ops = c.args.self.now.core.now.operands in
    let all : c.loop-k.k ≡ c.args.count = omega (arith, c.loop-k.auto.k-end, c.loop-k-test.false) in
    c.loop-k.invariant
    ∙ (λ i. without_iterators (c.args.count - all i) (drop (all i) ops))
    ∙ ap (λ n. without_iterators n (drop c.args.count ops)) {x = c.args.count - c.args.count} {y = 0} (omega arith)
