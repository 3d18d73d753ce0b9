use Rattle.std.proofs.Common.{◌∙◌, sym, ap, map}
use Rattle.std.specs.Option.{option_map}
use Rattle.setl_remote.specs.Slots.{slot_at}
use Rattle.setl_sparse.specs.Entries.{content_at}
use Rattle.setl_rep_forms.specs.FormOf.{form, of_remote_map, of_sparse_map}
use Rattle.setl_rep_maps.specs.Contents.{content_of}
use Rattle.setl_rep_maps.proofs.Entries.{lent_is, contents, slots}
use Rattle.setl_rep_maps.proofs.contents.content.Goals as goal

pub returns-in-RemoteMap : goal.returns-in-RemoteMap
returns-in-RemoteMap c =
    let n = c.args.block in
    let cs = c.in-RemoteMap.slots in
    lent_is c.get.result
    ∙ ap (option_map form) (c.get.ensures.content ∙ ap (λ s. slot_at s n) c.deref.ensures)
    ∙ sym (slots cs.value n)
    ∙ sym ((c.slots_are_keyed.ensures (map (option_map form) cs.value)).1 n)
    ∙ ap (λ f. content_of f n) (sym (of_remote_map c.in-RemoteMap.field-0 c.in-RemoteMap.field-1 cs))
    ∙ ap (λ h. content_of (form h) n) (sym c.in-RemoteMap.is)

pub returns-in-SparseMap : goal.returns-in-SparseMap
returns-in-SparseMap c =
    let n = c.args.block in
    let cs = c.in-SparseMap.table in
    lent_is c.get-in-SparseMap.result
    ∙ ap (option_map form) (c.get-in-SparseMap.ensures.content ∙ ap (λ s. content_at s n) c.deref-in-SparseMap.ensures)
    ∙ sym (contents cs.value n)
    ∙ ap (λ f. content_of f n) (sym (of_sparse_map c.in-SparseMap.field-0 c.in-SparseMap.field-1 cs))
    ∙ ap (λ h. content_of (form h) n) (sym c.in-SparseMap.is)
