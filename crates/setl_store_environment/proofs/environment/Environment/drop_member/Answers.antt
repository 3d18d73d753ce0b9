use Rattle.std.proofs.Common.{◌≡◌, ◌∙◌, ◌-◌, refl, ap, sym, subst, get_or, reverse, length, arith}
use Rattle.std.proofs.lemmas.List.{length-take-le}
use Rattle.setl_store_environment.specs.declared.environment.Old.TheVariants as old
use Rattle.setl_store_environment.specs.Undo.{parts}
use Rattle.setl_store_environment.proofs.Parts.{IsNoted, popped_led, cut_unseen, member_noted, members_unseen}
use Rattle.setl_store_environment.proofs.Stamping.{passed_stamped}
use Rattle.setl_store_environment.proofs.environment.Environment.drop_member.Goals as goal
use Rattle.setl_store_environment.proofs.environment.Environment.drop_member.Goals.{After-note, After-drop_last}

same_place : (g : _) (c : After-note g) → c.len-last.result - 1 ≡ c.pop-before.result.at
same_place g c =
    let xs = c.self.inside.members.items in
    omega (arith, ap length c.pop-before.ensures.popped ∙ length-take-le (length xs - 1) xs (omega arith), c.pop-before.ensures.at, c.len-last.ensures)

-- the change is noted
here : (g : _) (c : After-note g) → IsNoted (parts c.self.inside.slots c.self.inside.operands c.self.inside.activations c.self.inside.members c.self.inside.fields) (parts c.self.inside.slots c.self.inside.operands c.self.inside.activations c.pop-before.new.self c.self.inside.fields) c.self.inside.base (record c.self.inside.base { members = c.len-last.result - 1 }) (reverse c.self.inside.bases.items) c.self.inside.trail.items c.note.new.trail.items (reverse c.self.inside.records.items)
here g c =
    let t = c.self.inside in
    let now = member_noted (parts t.slots t.operands t.activations t.members t.fields) t.base c.pop-before.result.at (reverse t.bases.items) c.pop-before.new.self c.pop-before.result t.trail.items c.note.new.trail.items (reverse t.records.items)
    (popped_led t.base.members t.members c.pop-before.new.self c.pop-before.result c.pop-before.ensures.back (omega (arith, same_place g c, c.if-last-self.true)) c.pop-before.ensures.at (omega (arith, same_place g c, c.self.invariant.0.0.members, c.len-last.ensures, c.if-last-self.true)))
    c.note.ensures.noted c.self.invariant.0 in
    subst (λ m. IsNoted (parts t.slots t.operands t.activations t.members t.fields) (parts t.slots t.operands t.activations c.pop-before.new.self t.fields) t.base (record t.base { members = m }) (reverse t.bases.items) t.trail.items c.note.new.trail.items (reverse t.records.items)) (sym (same_place g c)) now

-- or the member came later than what was kept
above : (g : _) (c : After-drop_last g) → IsNoted (parts c.self.inside.slots c.self.inside.operands c.self.inside.activations c.self.inside.members c.self.inside.fields) (parts c.self.inside.slots c.self.inside.operands c.self.inside.activations c.drop_last.new.self c.self.inside.fields) c.self.inside.base c.self.inside.base (reverse c.self.inside.bases.items) c.self.inside.trail.items c.self.inside.trail.items (reverse c.self.inside.records.items)
above g c =
    let t = c.self.inside in
    members_unseen (parts t.slots t.operands t.activations t.members t.fields) t.base (reverse t.bases.items) c.drop_last.new.self t.trail.items (reverse t.records.items)
    (cut_unseen t.base.members (length t.members.items - 1) t.members c.drop_last.new.self c.drop_last.ensures.dropped c.drop_last.ensures.room (omega (arith, c.len-last.ensures, c.if-last-self.false)) (omega arith)) c.self.invariant.0

pub invariant_of-self : goal.invariant_of-self
invariant_of-self g c =
    let t = c.self.inside in (
      (here g c).undoable,
      (here g c).marks ∙ c.self.invariant.1,
      passed_stamped t.clock t.base (record t.base { members = c.len-last.result - 1 }) (reverse t.bases.items) (old.Member c.pop-before.result) t.trail.items c.note.new.trail.items t.slot_stamps.items t.operand_stamps.items (λ at. refl) (λ at. refl) refl refl refl c.note.ensures.noted c.self.invariant.2,
    )

pub returns-then-last-self-clause-kept : goal.returns-then-last-self-clause-kept
returns-then-last-self-clause-kept g c = (here g c).kept ∙ ap (λ e. e.kept) c.self.view_is

pub invariant_of-self-else-last-self : goal.invariant_of-self-else-last-self
invariant_of-self-else-last-self g c = ((above g c).undoable, (above g c).marks ∙ c.self.invariant.1, c.self.invariant.2)

pub returns-else-last-self-clause-kept : goal.returns-else-last-self-clause-kept
returns-else-last-self-clause-kept g c = (above g c).kept ∙ ap (λ e. e.kept) c.self.view_is
