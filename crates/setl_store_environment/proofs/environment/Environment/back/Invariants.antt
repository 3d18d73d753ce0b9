use Rattle.std.proofs.Common.{◌≡◌, suc, ◌∷◌, length, reverse}
use Rattle.setl_trail.specs.Trail.{mark_count}
use Rattle.setl_store_environment.specs.Kept.{IsUndoable, kept_of}
use Rattle.setl_store_environment.specs.Undo.{parts, contents_of, undone, cut, Reaches, FitsIn}
use Rattle.setl_store_environment.proofs.Stamping.{StampsLeadOn}
use Rattle.setl_store_environment.proofs.environment.Environment.back.Given as goal

-- the entries left lead to what was kept, and the mark of the record that was taken off is among the items
abbrev pub invariant-loop-old : goal.invariant-loop-old
invariant-loop-old g l =
    let e = l.self-inside in
    let q = parts e.slots e.operands e.activations e.members e.fields in
    record {
      undoable : IsUndoable undone cut Reaches (FitsIn q) e.base (contents_of q) e.trail.items (reverse e.bases.items);
      marks : mark_count e.trail.items ≡ suc (length e.records.items);
      kept : kept_of undone cut (contents_of q) e.trail.items (reverse e.bases.items) (l.beside ∷ reverse e.records.items) ≡ l.fn.self.kept;
      stamps : StampsLeadOn e.clock e.base (reverse e.bases.items) e.trail.items e.slot_stamps.items e.operand_stamps.items;
    }

abbrev pub decreases-loop-old : goal.decreases-loop-old
decreases-loop-old g l = length l.self-inside.trail.items
