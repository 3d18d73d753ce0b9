use Rattle.std.proofs.Common.{◌≡◌, ◌∙◌, ◌<◌, refl, ap, sym, set, get_or, reverse, length, arith}
use Rattle.std.proofs.lemmas.List.{length-set}
use Rattle.setl_store_environment.specs.Undo.{parts}
use Rattle.setl_store_environment.proofs.Parts.{IsNoted, set_led, operand_noted}
use Rattle.setl_store_environment.proofs.Stamping.{marked, operand_set_stamped, operand_put, unnoted_low}
use Rattle.setl_store_environment.proofs.environment.Environment.set_operand.Goals as goal
use Rattle.setl_store_environment.proofs.environment.Environment.set_operand.Goals.{After-note, After-put}

low : (g : _) (c : After-note g) → c.args.at < c.self.inside.base.operands
low g c = unnoted_low c.args.at c.self.inside.base.operands _ c.self.inside.base.since (sym c.is_unnoted.ensures ∙ c.if-is_unnoted.true)

-- the change is noted
here : (g : _) (c : After-note g) → IsNoted (parts c.self.inside.slots c.self.inside.operands c.self.inside.activations c.self.inside.members c.self.inside.fields) (parts c.self.inside.slots c.set-before.new.self c.self.inside.activations c.self.inside.members c.self.inside.fields) c.self.inside.base c.self.inside.base (reverse c.self.inside.bases.items) c.self.inside.trail.items c.note.new.trail.items (reverse c.self.inside.records.items)
here g c =
    let t = c.self.inside in
    operand_noted (parts t.slots t.operands t.activations t.members t.fields) t.base t.base.operands (reverse t.bases.items) c.set-before.new.self c.set-before.result c.stamp-stamp.result t.trail.items c.note.new.trail.items (reverse t.records.items)
    (set_led t.base.operands t.operands c.set-before.new.self c.set-before.result c.set-before.ensures.back (omega (arith, c.set-before.ensures.at, low g c)) (ap length c.set-before.ensures.set ∙ length-set t.operands.items c.args.at c.args.value) c.self.invariant.0.0.operands)
    c.note.ensures.noted c.self.invariant.0

-- or the old one came later than what was kept, or is noted already
above : (g : _) (c : After-put g) → IsNoted (parts c.self.inside.slots c.self.inside.operands c.self.inside.activations c.self.inside.members c.self.inside.fields) (parts c.self.inside.slots c.put.new.self c.self.inside.activations c.self.inside.members c.self.inside.fields) c.self.inside.base c.self.inside.base (reverse c.self.inside.bases.items) c.self.inside.trail.items c.self.inside.trail.items (reverse c.self.inside.records.items)
above g c =
    let t = c.self.inside in
    operand_put t.clock (parts t.slots t.operands t.activations t.members t.fields) t.base c.args.at c.args.value (reverse t.bases.items) c.put.new.self t.trail.items (reverse t.records.items) t.slot_stamps.items t.operand_stamps.items
    (sym c.is_unnoted.ensures ∙ c.if-is_unnoted.false) c.put.ensures.set c.put.ensures.room c.self.invariant.0 c.self.invariant.2

pub invariant_of-self : goal.invariant_of-self
invariant_of-self g c =
    let t = c.self.inside in
    let at = sym c.set-before.ensures.at in (
      (here g c).undoable,
      (here g c).marks ∙ c.self.invariant.1,
      operand_set_stamped t.clock t.base (reverse t.bases.items) c.set-before.result c.stamp-stamp.result t.trail.items c.note.new.trail.items t.slot_stamps.items t.operand_stamps.items c.restamp.new.stamps.items
          (marked (λ b. b.operands) (parts t.slots t.operands t.activations t.members t.fields) t.base (reverse t.bases.items) t.trail.items c.args.at refl (low g c) c.self.invariant.0) (c.stamp-stamp.ensures ∙ ap (λ i. get_or t.operand_stamps.items i 0) at)
          (c.restamp.ensures ∙ ap (λ i. set t.operand_stamps.items i t.base.since) at) c.note.ensures.noted c.self.invariant.2,
    )

pub returns-then-is_unnoted-clause-kept : goal.returns-then-is_unnoted-clause-kept
returns-then-is_unnoted-clause-kept g c = (here g c).kept ∙ ap (λ e. e.kept) c.self.view_is

pub invariant_of-self-else-is_unnoted : goal.invariant_of-self-else-is_unnoted
invariant_of-self-else-is_unnoted g c = ((above g c).undoable, (above g c).marks ∙ c.self.invariant.1, c.self.invariant.2)

pub returns-else-is_unnoted-clause-kept : goal.returns-else-is_unnoted-clause-kept
returns-else-is_unnoted-clause-kept g c = (above g c).kept ∙ ap (λ e. e.kept) c.self.view_is
