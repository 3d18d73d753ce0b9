use Rattle.std.proofs.Common.{◌∙◌, ◌-◌, ap, sym}
use Rattle.std.specs.Prelude.{slice_get}
use Rattle.setl_store.specs.Small.{is_small}
use Rattle.setl_store.proofs.SmallOnes.{still}
use Rattle.setl_store.proofs.changes.drop_operand.Goals as goal

pub let_go-requires : goal.let_go-requires
let_go-requires c =
    let xs = c.args.environment.now.now.operands in
    still is_small c.in-Some.operand c.operand.result.now (slice_get xs (c.operands-last.result - 1)) c.is_small.result
    (c.in-Some.ensures.value ∙ ap (λ k. slice_get xs (k - 1)) (sym c.operands-last.ensures)) c.operand.ensures c.is_small.ensures c.if-not-is_small.false
