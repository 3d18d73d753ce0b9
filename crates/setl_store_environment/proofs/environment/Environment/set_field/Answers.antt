use Rattle.std.proofs.Common.{◌∙◌, refl, ap, reverse}
use Rattle.setl_store_environment.specs.declared.environment.Old.TheVariants as old
use Rattle.setl_store_environment.specs.Undo.{parts}
use Rattle.setl_store_environment.proofs.Parts.{IsNoted, field_changed}
use Rattle.setl_store_environment.proofs.Stamping.{passed_stamped}
use Rattle.setl_store_environment.proofs.environment.Environment.set_field.Goals as goal
use Rattle.setl_store_environment.proofs.environment.Environment.set_field.Goals.{After-note}

-- the change is noted
here : (g : _) (c : After-note g) → IsNoted (parts c.self.inside.slots c.self.inside.operands c.self.inside.activations c.self.inside.members c.self.inside.fields) (parts c.self.inside.slots c.self.inside.operands c.self.inside.activations c.self.inside.members c.put_field-before.new.fields) c.self.inside.base c.self.inside.base (reverse c.self.inside.bases.items) c.self.inside.trail.items c.note.new.trail.items (reverse c.self.inside.records.items)
here g c =
    let t = c.self.inside in
    field_changed (parts t.slots t.operands t.activations t.members t.fields) t.base (reverse t.bases.items) c.put_field-before.new.fields c.put_field-before.result t.trail.items c.note.new.trail.items (reverse t.records.items) c.put_field-before.ensures.back c.note.ensures.noted c.self.invariant.0

pub invariant_of-self : goal.invariant_of-self
invariant_of-self g c =
    let t = c.self.inside in (
      (here g c).undoable,
      (here g c).marks ∙ c.self.invariant.1,
      passed_stamped t.clock t.base t.base (reverse t.bases.items) (old.Field c.put_field-before.result) t.trail.items c.note.new.trail.items t.slot_stamps.items t.operand_stamps.items (λ at. refl) (λ at. refl) refl refl refl c.note.ensures.noted c.self.invariant.2,
    )

pub returns-clause-kept : goal.returns-clause-kept
returns-clause-kept g c = (here g c).kept ∙ ap (λ e. e.kept) c.self.view_is
