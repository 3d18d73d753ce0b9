use Rattle.std.specs.Prelude.{IsTrue}
use Rattle.std.specs.FinSet as set
use Rattle.std.proofs.Common.{subst, ◌≡◌, ◌∙◌, [], ◌∷◌, ◌++◌, sym, ap, length, reverse, arith}
use Rattle.std.proofs.lemmas.List.{length_push, reverse-append}
use Rattle.setl_trail.specs.Trail.{entry, mark, mark_count}
use Rattle.setl_store_environment.specs.Undo.{parts, contents_of, kept_contents, undone, cut, ready_of, room_of}
use Rattle.setl_store_environment.proofs.Undoing.{none_kept, no_items, entry_latest, mark_latest}
use Rattle.setl_store_environment.proofs.Parts.{state, step_back, step_begun, at_mark}
use Rattle.setl_store_environment.proofs.Stamping.{begun_stamped, back_stamped, at_mark_stamped}
use Rattle.setl_store_environment.proofs.environment.Environment.back.Goals as goal

pub returns-in_default-clause-nothing : goal.returns-in_default-clause-nothing
returns-in_default-clause-nothing g c =
    let t = c.self.inside in
    let before = no_items t.records.items _ t.records.ok.0 c.in_default.ensures.cases.0 in
    let after = no_items c.pop.new.self.items _ c.pop.new.self.ok.0 c.in_default.ensures.cases.1 in
    let q = parts t.slots t.operands t.activations t.members t.fields in (
      sym (ap (λ e. e.kept) c.self.view_is) ∙ ap (λ ks. kept_contents q t.base (reverse t.bases.items) t.trail.items (reverse ks)) before ∙ none_kept undone cut _ (cut t.base (contents_of q)) t.trail.items (reverse t.bases.items),
      ap (λ ks. state (contents_of q) (kept_contents q t.base (reverse t.bases.items) t.trail.items (reverse ks)) (ready_of (mark_count t.trail.items) t.trail.spare) (room_of q)) (after ∙ sym before) ∙ c.self.view_is,
    )

pub loop-old-preserved : goal.loop-old-preserved
loop-old-preserved g c =
    let t = c.loop-old.self-inside in
    let i = c.loop-old.invariant in
    let p = c.put_back in
    let is = entry_latest t.trail.items c.in-Some-pop.old (sym c.pop-in-loop-old.ensures.entry ∙ c.in-Some-pop.is) in
    let h = step_back (parts t.slots t.operands t.activations t.members t.fields) (parts p.new.slots p.new.operands p.new.activations p.new.members p.new.fields) t.base (reverse t.bases.items) c.in-Some-pop.old t.trail.items c.pop-in-loop-old.new.self.items (c.in-Some.beside ∷ reverse t.records.items)
    (is ∙ ap (λ l. entry c.in-Some-pop.old ∷ l) (sym c.pop-in-loop-old.ensures.rest)) p.ensures.undone
    (record { slots = omega (arith, p.ensures.slots); operands = omega (arith, p.ensures.operands); activations = omega (arith, p.ensures.activations); members = omega (arith, p.ensures.members); fields = λ k there. subst (λ r. IsTrue (set.contains r k)) (sym p.ensures.fields) there }) i.undoable in
    record {
      undoable = h.undoable;
      marks = h.marks ∙ i.marks;
      kept = h.kept ∙ i.kept;
      stamps = back_stamped t.clock t.base (reverse t.bases.items) c.in-Some-pop.old t.trail.items c.pop-in-loop-old.new.self.items t.slot_stamps.items p.new.slot_stamps.items t.operand_stamps.items p.new.operand_stamps.items
          (is ∙ ap (λ l. entry c.in-Some-pop.old ∷ l) (sym c.pop-in-loop-old.ensures.rest)) p.ensures.slot_stamps p.ensures.operand_stamps i.stamps;
    }

pub loop-old-init : goal.loop-old-init
loop-old-init g c =
    let t = c.self.inside in
    let q = parts t.slots t.operands t.activations t.members t.fields in
    let left = c.pop.new.self.items in
    let records : t.records.items ≡ left ++ c.in-Some.beside ∷ [] = c.in-Some.ensures.items in
    let begun = step_begun q t.base (reverse t.bases.items) c.cut.new.self c.cut-2.new.self c.cut-3.new.self c.cut-4.new.self t.trail.items (c.in-Some.beside ∷ reverse left) c.cut.ensures.cut c.cut.ensures.room c.cut-2.ensures.cut c.cut-2.ensures.room c.cut-3.ensures.cut c.cut-3.ensures.room c.cut-4.ensures.cut c.cut-4.ensures.room c.self.invariant.0 in
    record {
      undoable = begun.undoable;
      marks = omega (arith, c.self.invariant.1, ap length records, length_push left c.in-Some.beside);
      kept = begun.kept ∙ ap (kept_contents q t.base (reverse t.bases.items) t.trail.items) (sym (ap reverse records ∙ reverse-append left (c.in-Some.beside ∷ []))) ∙ ap (λ e. e.kept) c.self.view_is;
      stamps = begun_stamped t.clock t.base (reverse t.bases.items) t.trail.items t.slot_stamps.items t.operand_stamps.items c.self.invariant.2;
    }

pub invariant_of-self-2 : goal.invariant_of-self-2
invariant_of-self-2 g c =
    let t = c.loop-old.self-inside in
    let i = c.loop-old.invariant in
    let kept_last = at_mark (parts t.slots t.operands t.activations t.members t.fields) t.base c.pop_base-self-inside.result (reverse c.pop_base-self-inside.new.bases.items) (reverse t.bases.items) t.trail.items c.pop-in-loop-old.new.self.items c.in-Some.beside (reverse t.records.items)
    (sym c.pop-in-loop-old.ensures.entry ∙ c.in_default-pop.is) (omega (arith, i.marks)) c.pop-in-loop-old.ensures.rest c.pop_base-self-inside.ensures.base c.pop_base-self-inside.ensures.rest i.undoable in
    let is : t.trail.items ≡ mark ∷ c.pop-in-loop-old.new.self.items = mark_latest t.trail.items (sym c.pop-in-loop-old.ensures.entry ∙ c.in_default-pop.is) (omega (arith, i.marks)) ∙ ap (λ l. mark ∷ l) (sym c.pop-in-loop-old.ensures.rest) in (
      kept_last.undoable,
      omega (arith, kept_last.marks, i.marks),
      at_mark_stamped t.clock t.base c.pop_base-self-inside.result (reverse c.pop_base-self-inside.new.bases.items) (reverse t.bases.items) t.trail.items c.pop-in-loop-old.new.self.items t.slot_stamps.items t.operand_stamps.items is c.pop_base-self-inside.ensures.base c.pop_base-self-inside.ensures.rest i.stamps,
    )

pub returns-clause-back : goal.returns-clause-back
returns-clause-back g c =
    let t = c.loop-old.self-inside in
    let i = c.loop-old.invariant in
    let kept_last = at_mark (parts t.slots t.operands t.activations t.members t.fields) t.base c.pop_base-self-inside.result (reverse c.pop_base-self-inside.new.bases.items) (reverse t.bases.items) t.trail.items c.pop-in-loop-old.new.self.items c.in-Some.beside (reverse t.records.items)
    (sym c.pop-in-loop-old.ensures.entry ∙ c.in_default-pop.is) (omega (arith, i.marks)) c.pop-in-loop-old.ensures.rest c.pop_base-self-inside.ensures.base c.pop_base-self-inside.ensures.rest i.undoable in
    sym i.kept ∙ kept_last.kept
