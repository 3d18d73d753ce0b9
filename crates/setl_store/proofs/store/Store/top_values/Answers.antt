use Rattle.std.proofs.Common.{◌≡◌, ◌∙◌, ◌+◌, ◌-◌, List, Option, drop, ap, sym, map, reverse, arith}
use Rattle.setl_value.specs.declared.Value.{Value}
use Rattle.setl_value.specs.code.DatumOf.{part}
use Rattle.setl_code.specs.CodeCore.{Pops, popped}
use Rattle.setl_store.proofs.Lists.{map_reverse}
use Rattle.setl_store.proofs.Serving.{one_more_copied, top_serves, values_there}
use Rattle.setl_store.proofs.store.Store.top_values.Goals as goal

pub overflow_sub-operands : goal.overflow_sub-operands
overflow_sub-operands c =
    omega (arith, c.loop-k-test.true, c.operands-operands.ensures, values_there c.self.inside.code.now c.self.inside.bases c.self.inside.at c.self.inside.environment.now c.self.inside.environment.kept c.args.self.now c.self.view_is c.args.count c.requires)

pub overflow_sub-operands-in-loop-k : goal.overflow_sub-operands-in-loop-k
overflow_sub-operands-in-loop-k c =
    omega (arith, c.loop-k-test.true, c.operands-operands.ensures, values_there c.self.inside.code.now c.self.inside.bases c.self.inside.at c.self.inside.environment.now c.self.inside.environment.kept c.args.self.now c.self.view_is c.args.count c.requires)

pub operand-operand-requires : goal.operand-operand-requires
operand-operand-requires c =
    omega (arith, c.loop-k-test.true, c.operands-operands.ensures, values_there c.self.inside.code.now c.self.inside.bases c.self.inside.at c.self.inside.environment.now c.self.inside.environment.kept c.args.self.now c.self.view_is c.args.count c.requires)

pub served-requires : goal.served-requires
served-requires c =
    top_serves c.self.inside.code.now c.self.inside.bases c.self.inside.at c.self.inside.environment.now c.self.inside.environment.kept c.args.self.now c.self.invariant.1 c.self.view_is
    c.operands-operands.result c.args.count c.loop-k.k c.operand-operand.result.now c.operands-operands.ensures c.loop-k-test.true c.requires c.operand-operand.ensures

pub loop-k-preserved : goal.loop-k-preserved
loop-k-preserved c =
    c.loop-k.invariant
    ∙ one_more_copied c.self.inside.code.now c.self.inside.bases c.self.inside.at c.self.inside.environment.now c.self.inside.environment.kept c.args.self.now c.self.invariant.1 c.self.view_is
    c.operands-operands.result c.args.count c.loop-k.k c.operand-operand.result.now c.operands-operands.ensures c.loop-k-test.true c.requires c.operand-operand.ensures
    c.loop-k.values.items c.in_ok-served.field-0 c.in_ok-served.ensures
    ∙ ap (λ l. popped (c.args.count - (c.loop-k.k + 1)) (reverse (map part l)) (drop (c.loop-k.k + 1) c.args.self.now.core.now.operands)) (sym {A = List (Option Value)} c.in_ok-push.ensures.items)

pub returns : goal.returns
returns c =
    let ops = c.args.self.now.core.now.operands in
    let all : c.loop-k.k ≡ c.args.count = omega (arith, c.loop-k.auto.k-end, c.loop-k-test.false) in
    c.loop-k.invariant
    ∙ (λ i. popped (c.args.count - all i) (reverse (map part c.loop-k.values.items)) (drop (all i) ops))
    ∙ ap (λ n. popped n (reverse (map part c.loop-k.values.items)) (drop c.args.count ops)) {x = c.args.count - c.args.count} {y = 0} (omega arith)
    ∙ ap (λ l. Pops l (drop c.args.count ops)) (sym (ap (map part) c.reverse.ensures.items ∙ map_reverse part c.loop-k.values.items))
