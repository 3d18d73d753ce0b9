use Rattle.std.proofs.Common.{◌∙◌, ◌-◌, ap, reverse, length, arith}
use Rattle.setl_store_environment.specs.Undo.{parts}
use Rattle.setl_store_environment.proofs.Parts.{IsNoted, cut_unseen, operands_unseen}
use Rattle.setl_store_environment.proofs.environment.Environment.pop_unnoted_operand.Goals as goal
use Rattle.setl_store_environment.proofs.environment.Environment.pop_unnoted_operand.Goals.{After-take_last}

-- the operand came later than what was kept
here : (g : _) (c : After-take_last g) → IsNoted (parts c.self.inside.slots c.self.inside.operands c.self.inside.activations c.self.inside.members c.self.inside.fields) (parts c.self.inside.slots c.take_last.new.self c.self.inside.activations c.self.inside.members c.self.inside.fields) c.self.inside.base c.self.inside.base (reverse c.self.inside.bases.items) c.self.inside.trail.items c.self.inside.trail.items (reverse c.self.inside.records.items)
here g c =
    let t = c.self.inside in
    let count = ap (λ e. length e.now.operands) c.self.view_is in
    operands_unseen (parts t.slots t.operands t.activations t.members t.fields) t.base (reverse t.bases.items) c.take_last.new.self t.trail.items (reverse t.records.items)
    (cut_unseen t.base.operands (length t.operands.items - 1) t.operands c.take_last.new.self c.take_last.ensures.taken c.take_last.ensures.room (omega (arith, count, c.operands-last.ensures, c.if-last-self.false)) (omega arith)) c.self.invariant.0

pub invariant_of-self : goal.invariant_of-self
invariant_of-self g c = ((here g c).undoable, c.self.invariant.1, c.self.invariant.2)

pub returns-else-last-self-clause-kept : goal.returns-else-last-self-clause-kept
returns-else-last-self-clause-kept g c = (here g c).kept ∙ ap (λ e. e.kept) c.self.view_is
