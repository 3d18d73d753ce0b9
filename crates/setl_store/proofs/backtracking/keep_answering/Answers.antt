use Rattle.std.proofs.Common.{◌≡◌, ◌∙◌}
use Rattle.setl_store.specs.Flat.{with_operand}
use Rattle.setl_store.proofs.Keeping.{replaced}
use Rattle.setl_store.proofs.backtracking.keep_answering.Goals as goal

pub returns-clause-now : goal.returns-clause-now
returns-clause-now c =
    let same : c.reserve_operands.new.self.now ≡ c.args.environment.now.now = c.in_ok-reserve_operands.ensures.now ∙ c.in_ok-reserve.ensures.now in
    replaced c.args.environment.now.now c.keep.new.self.now c.set_operand.new.self.now c.operands-top.result c.truth-2.result
    (c.keep.ensures.now ∙ c.push_operand.ensures.now ∙ (λ i. with_operand (same i) (c.truth.ensures i)))
    c.operands-top.ensures c.truth-2.ensures c.set_operand.ensures.now
