use Rattle.std.proofs.Common.{◌∙◌, ap, reverse, length, arith}
use Rattle.setl_store_environment.specs.Undo.{parts}
use Rattle.setl_store_environment.proofs.Parts.{IsNoted, left_unseen, operands_unseen}
use Rattle.setl_store_environment.proofs.environment.Environment.pop_operands.Goals as goal
use Rattle.setl_store_environment.proofs.environment.Environment.pop_operands.Goals.{After-split_off}

-- the operands came later than what was kept
here : (g : _) (c : After-split_off g) → IsNoted (parts c.self.inside.slots c.self.inside.operands c.self.inside.activations c.self.inside.members c.self.inside.fields) (parts c.self.inside.slots c.split_off.new.self c.self.inside.activations c.self.inside.members c.self.inside.fields) c.self.inside.base c.self.inside.base (reverse c.self.inside.bases.items) c.self.inside.trail.items c.self.inside.trail.items (reverse c.self.inside.records.items)
here g c =
    let t = c.self.inside in
    let count = ap (λ e. length e.now.operands) c.self.view_is in
    operands_unseen (parts t.slots t.operands t.activations t.members t.fields) t.base (reverse t.bases.items) c.split_off.new.self t.trail.items (reverse t.records.items)
    (left_unseen t.base.operands c.args.n t.operands c.split_off.new.self c.split_off.result c.split_off.ensures.taken c.split_off.ensures.refused c.split_off.ensures.room (omega (arith, c.if-n-self.false)) (omega (arith, count, c.requires.fewer))) c.self.invariant.0

pub invariant_of-self : goal.invariant_of-self
invariant_of-self g c = ((here g c).undoable, c.self.invariant.1, c.self.invariant.2)

pub returns-else-n-self-clause-kept : goal.returns-else-n-self-clause-kept
returns-else-n-self-clause-kept g c = (here g c).kept ∙ ap (λ e. e.kept) c.self.view_is
