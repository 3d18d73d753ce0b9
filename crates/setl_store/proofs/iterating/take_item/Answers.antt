use Rattle.std.proofs.Common.{◌≡◌, ◌∙◌, ◌-◌, ap}
use Rattle.std.specs.Prelude.{slice_get, slice_set}
use Rattle.setl_store_operands.specs.declared.cells.Operand.TheVariants.{Om}
use Rattle.setl_store.specs.Flat.{Here}
use Rattle.setl_store.proofs.IteratorSteps.{item_moved, item_refused}
use Rattle.setl_store.proofs.iterating.take_item.Goals as goal
use Rattle.setl_store.proofs.iterating.take_item.Goals.{After-put_back}

-- the operands are reserved, and nothing else changes
same : (c : After-put_back) → c.reserve_operands.new.self.now ≡ c.args.environment.now.now
same c = c.in_ok-reserve_operands.ensures.now ∙ c.in_ok-reserve.ensures.now

pub returns-clause-now : goal.returns-clause-now
returns-clause-now c =
    item_moved c.args.environment.now.now c.replace_operand.new.self.now c.put_back.new.environment.now (c.operands-at.result - 1) c.in_ok-replace_operand.field-0 c.iterator_in-iterator.result c.advance-item.new.self c.advance-item.result
    (ap (λ k. k - 1) c.operands-at.ensures) (c.in_ok-replace_operand.ensures.value ∙ ap (λ (e : Here). slice_get e.operands (c.operands-at.result - 1)) (same c)) c.iterator_in-iterator.ensures
    (c.in_ok-replace_operand.ensures.now ∙ ap (λ (e : Here). record e { operands = slice_set e.operands (c.operands-at.result - 1) Om }) (same c)) c.put_back.ensures.now c.advance-item.ensures.first c.advance-item.ensures.pairs

pub returns-clause-refused : goal.returns-clause-refused
returns-clause-refused c =
    item_refused c.args.environment.now.now c.replace_operand.new.self.now c.put_back.new.environment.now (c.operands-at.result - 1) c.in_ok-replace_operand.field-0 c.iterator_in-iterator.result c.advance-item.new.self c.advance-item.result
    (c.in_ok-replace_operand.ensures.value ∙ ap (λ (e : Here). slice_get e.operands (c.operands-at.result - 1)) (same c)) c.iterator_in-iterator.ensures
    (c.in_ok-replace_operand.ensures.now ∙ ap (λ (e : Here). record e { operands = slice_set e.operands (c.operands-at.result - 1) Om }) (same c)) c.put_back.ensures.now c.advance-item.ensures.refused
