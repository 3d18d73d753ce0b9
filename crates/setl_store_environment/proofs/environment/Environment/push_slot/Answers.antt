use Rattle.std.proofs.Common.{◌∙◌, ap, reverse}
use Rattle.setl_store_environment.specs.Undo.{parts}
use Rattle.setl_store_environment.proofs.Parts.{IsNoted, added_unseen, slots_unseen}
use Rattle.setl_store_environment.proofs.environment.Environment.push_slot.Goals as goal
use Rattle.setl_store_environment.proofs.environment.Environment.push_slot.Goals.{After-add}

-- it came later than what was kept
here : (g : _) (c : After-add g) → IsNoted (parts c.self.inside.slots c.self.inside.operands c.self.inside.activations c.self.inside.members c.self.inside.fields) (parts c.add.new.self c.self.inside.operands c.self.inside.activations c.self.inside.members c.self.inside.fields) c.self.inside.base c.self.inside.base (reverse c.self.inside.bases.items) c.self.inside.trail.items c.self.inside.trail.items (reverse c.self.inside.records.items)
here g c =
    let t = c.self.inside in
    slots_unseen (parts t.slots t.operands t.activations t.members t.fields) t.base (reverse t.bases.items) c.add.new.self t.trail.items (reverse t.records.items) (added_unseen t.base.slots c.args.value t.slots c.add.new.self c.add.ensures.added c.add.ensures.room c.self.invariant.0.0.slots) c.self.invariant.0

pub invariant_of-self : goal.invariant_of-self
invariant_of-self g c = ((here g c).undoable, (here g c).marks ∙ c.self.invariant.1, c.self.invariant.2)

pub returns-clause-kept : goal.returns-clause-kept
returns-clause-kept g c = (here g c).kept ∙ ap (λ e. e.kept) c.self.view_is
