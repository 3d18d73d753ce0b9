use Rattle.std.proofs.Common.{◌≡◌, drop, map}
use Rattle.setl_tree.specs.Canonical as spec
use Rattle.setl_tree.specs.Canonical.{shown, tokens_of, iter_tokens, selector_tokens}
use Rattle.setl_show.specs.Text.{with_tokens}
use Rattle.setl_show.proofs.expressions.+showing.Given as goal

abbrev pub invariant-operands-loop-op : goal.invariant-operands-loop-op
invariant-operands-loop-op l = with_tokens l.to (spec.operand_tokens (map (λ x. (x.0, shown x.1)) (drop l.op-index l.others))) ≡ with_tokens l.initial.to (spec.operand_tokens (map (λ x. (x.0, shown x.1)) l.others))

abbrev pub invariant-exprs-loop-i : goal.invariant-exprs-loop-i
invariant-exprs-loop-i l = with_tokens l.to (spec.behind_commas (tokens_of (map shown (drop l.i l.xs)))) ≡ with_tokens l.initial.to (spec.behind_commas (tokens_of (map shown (drop 1 l.xs))))

abbrev pub invariant-iters_behind-loop-i : goal.invariant-iters_behind-loop-i
invariant-iters_behind-loop-i l = with_tokens l.to (spec.behind_commas (map iter_tokens (drop l.i l.xs))) ≡ with_tokens l.initial.to (spec.behind_commas (map iter_tokens (drop 1 l.xs)))

abbrev pub invariant-selectors-loop-x : goal.invariant-selectors-loop-x
invariant-selectors-loop-x l = with_tokens l.to (spec.all_of (map selector_tokens (drop l.x-index l.xs))) ≡ with_tokens l.initial.to (spec.all_of (map selector_tokens l.xs))
