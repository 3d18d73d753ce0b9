use Rattle.std.proofs.Common.{◌∙◌, sym, ap, reverse, length}
use Rattle.std.proofs.lemmas.List.{length-reverse}
use Rattle.setl_store_environment.specs.Undo.{parts, contents_of, undone, cut}
use Rattle.setl_store_environment.proofs.Undoing.{kept_counted}
use Rattle.setl_store_environment.proofs.environment.Environment.reserve.Goals as goal

pub returns-clause-unkept : goal.returns-clause-unkept
returns-clause-unkept g c unkept =
    let t = c.self.inside in
    c.reserve_entries.ensures.unkept (sym (kept_counted undone cut (cut t.base (contents_of (parts t.slots t.operands t.activations t.members t.fields))) t.trail.items (reverse t.bases.items) (reverse t.records.items) (c.self.invariant.1 ∙ sym (length-reverse t.records.items))) ∙ ap (λ e. length e.kept) c.self.view_is ∙ unkept)
