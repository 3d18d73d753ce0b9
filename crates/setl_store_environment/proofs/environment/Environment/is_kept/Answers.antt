use Rattle.std.specs.Prelude.{nat_lt}
use Rattle.std.proofs.Common.{◌∙◌, sym, ap, reverse, length}
use Rattle.std.proofs.lemmas.List.{length-reverse}
use Rattle.setl_store_environment.specs.Undo.{parts, contents_of, undone, cut}
use Rattle.setl_store_environment.proofs.Undoing.{kept_counted}
use Rattle.setl_store_environment.proofs.environment.Environment.is_kept.Goals as goal

pub returns : goal.returns
returns g c =
    let t = c.self.inside in
    ap (nat_lt 0) (c.marks.ensures ∙ sym (kept_counted undone cut (cut t.base (contents_of (parts t.slots t.operands t.activations t.members t.fields))) t.trail.items (reverse t.bases.items) (reverse t.records.items) (c.self.invariant.1 ∙ sym (length-reverse t.records.items))) ∙ ap (λ e. length e.kept) c.self.view_is)
