use Rattle.std.proofs.Common.{◌∙◌, ap, sym, reverse}
use Rattle.setl_store_environment.specs.Undo.{parts}
use Rattle.setl_store_environment.proofs.Parts.{IsNoted}
use Rattle.setl_store_environment.proofs.Stamping.{slot_put}
use Rattle.setl_store_environment.proofs.environment.Environment.replace_unnoted_slot.Goals as goal
use Rattle.setl_store_environment.proofs.environment.Environment.replace_unnoted_slot.Goals.{After-replace}

-- the old one came later than what was kept, or is noted already
here : (g : _) (c : After-replace g) → IsNoted (parts c.self.inside.slots c.self.inside.operands c.self.inside.activations c.self.inside.members c.self.inside.fields) (parts c.replace.new.self c.self.inside.operands c.self.inside.activations c.self.inside.members c.self.inside.fields) c.self.inside.base c.self.inside.base (reverse c.self.inside.bases.items) c.self.inside.trail.items c.self.inside.trail.items (reverse c.self.inside.records.items)
here g c =
    let t = c.self.inside in
    slot_put t.clock (parts t.slots t.operands t.activations t.members t.fields) t.base c.args.at c.args.value (reverse t.bases.items) c.replace.new.self t.trail.items (reverse t.records.items) t.slot_stamps.items t.operand_stamps.items
    (sym c.is_unnoted.ensures ∙ c.if-is_unnoted.false) c.replace.ensures.set c.replace.ensures.room c.self.invariant.0 c.self.invariant.2

pub invariant_of-self : goal.invariant_of-self
invariant_of-self g c = ((here g c).undoable, c.self.invariant.1, c.self.invariant.2)

pub returns-else-is_unnoted-clause-kept : goal.returns-else-is_unnoted-clause-kept
returns-else-is_unnoted-clause-kept g c = (here g c).kept ∙ ap (λ e. e.kept) c.self.view_is
