use Rattle.std.proofs.Common.{◌∙◌, ap, map, sym}
use Rattle.std.specs.Prelude.{is_some}
use Rattle.std.specs.Option.{option_map}
use Rattle.setl_remote.specs.Slots.{slot_at}
use Rattle.setl_sparse.specs.Entries.{content_at}
use Rattle.setl_rep_forms.specs.FormOf.{form, of_remote_map, of_sparse_map}
use Rattle.setl_rep_maps.specs.Contents.{content_of}
use Rattle.setl_rep_layout.specs.Listing.{has_content}
use Rattle.setl_rep_layout.proofs.Slots.{mapped_test, same_test, sparse_test}
use Rattle.setl_rep_layout.proofs.Words.{both, if_ok}
use Rattle.setl_rep_layout.proofs.numbers.numbers_of.Goals as goal

pub returns-in-RemoteMap : goal.returns-in-RemoteMap
returns-in-RemoteMap c =
    let cs = c.in-RemoteMap.slots in
    let e = ap form c.in-RemoteMap.is ∙ of_remote_map c.in-RemoteMap.field-0 c.in-RemoteMap.field-1 cs in
    if_ok c.slot_numbers.result
    (λ list x. same_test (λ n. is_some (slot_at c.deref.result.now n)) (has_content (form c.args.map.now)) list.items (λ n.
    ap (λ s. is_some (slot_at s n)) c.deref.ensures
    ∙ mapped_test cs.value n
    ∙ ap is_some (sym ((c.slots_are_keyed.ensures (map (option_map form) cs.value)).1 n))
    ∙ ap (λ f. is_some (content_of f n)) (sym e)) x)
    c.slot_numbers.ensures

pub returns-in-SparseMap : goal.returns-in-SparseMap
returns-in-SparseMap c =
    let es = c.in-SparseMap.table in
    let e = ap form c.in-SparseMap.is ∙ of_sparse_map c.in-SparseMap.field-0 c.in-SparseMap.field-1 es in
    both c.numbers.result c.numbers.ensures.rising c.numbers.ensures.members (λ list r h. record {
      rising = r;
      members = λ n. h n ∙ ap (λ s. is_some (content_at s n)) c.deref-in-SparseMap.ensures ∙ sparse_test es.value n ∙ ap (λ f. is_some (content_of f n)) (sym e);
    })
