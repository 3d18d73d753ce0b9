use Rattle.std.proofs.Common.{◌≡◌, ◌∙◌, ◌≤◌, ◌+◌, Some, ap, sym, subst, arith}
use Rattle.std.specs.Prelude.{option_copied}
use Rattle.setl_value.specs.Datum.{depth, part_depth, set_of}
use Rattle.setl_set.specs.Sets.{set_from}
use Rattle.setl_rep_bases.specs.Bases.{base_at}
use Rattle.setl_rep_forms.specs.Form.{table, remote, sparse}
use Rattle.setl_rep_forms.specs.FormOf.{form, of_remote_map, of_sparse_map}
use Rattle.setl_rep_forms.specs.Stands.{stands, value_at, pairs_in, IsOver}
use Rattle.setl_rep_plain.specs.Entries.{remote_entries, sparse_entries}
use Rattle.setl_rep_plain.proofs.Depths.{entry_depth, gathered_depth, image_depth}
use Rattle.setl_rep_plain.proofs.Sizes.{size, entry_over, entry_size}
use Rattle.setl_rep_plain.proofs.Walking.{slot_entry, sparse_entry, sparse_next}
use Rattle.setl_rep_plain.proofs.values.+plain.Goals as goal

-- ---- maps

pub plain-set_of_pairs-requires : goal.plain-set_of_pairs-requires
plain-set_of_pairs-requires t c =
    let m = c.in-RemoteMap in
    let e : form c.args.h.now ≡ table remote m.b m.many (remote_entries c.deref-in-RemoteMap.result.now) =
    ap form m.is ∙ of_remote_map m.b m.many m.slots ∙ ap (λ l. table remote m.b m.many (remote_entries l)) (sym c.deref-in-RemoteMap.ensures)
    in
    subst (λ l. depth (set_of (set_from l)) ≤ 500) (sym c.in_ok-pairs-in-RemoteMap.ensures) (subst (λ f. part_depth (stands c.args.bases.now f) ≤ 500) e c.requires.shallow)

pub plain-returns-in_ok-set_of_pairs-in-RemoteMap : goal.plain-returns-in_ok-set_of_pairs-in-RemoteMap
plain-returns-in_ok-set_of_pairs-in-RemoteMap t c =
    let m = c.in-RemoteMap in
    let e : form c.args.h.now ≡ table remote m.b m.many (remote_entries c.deref-in-RemoteMap.result.now) =
    ap form m.is ∙ of_remote_map m.b m.many m.slots ∙ ap (λ l. table remote m.b m.many (remote_entries l)) (sym c.deref-in-RemoteMap.ensures)
    in
    ap (λ l. Some (set_of l)) c.in_ok-set_of_pairs-in-RemoteMap.ensures ∙ ap (λ l. Some (set_of (set_from l))) c.in_ok-pairs-in-RemoteMap.ensures ∙ sym (ap (stands c.args.bases.now) e)

pub plain-sparse_pairs-requires : goal.plain-sparse_pairs-requires
plain-sparse_pairs-requires t c =
    let m = c.in-SparseMap in
    let e : form c.args.h.now ≡ table sparse m.b m.many (sparse_entries c.deref-in-SparseMap.result.now) =
    ap form m.is ∙ of_sparse_map m.b m.many m.entries ∙ ap (λ l. table sparse m.b m.many (sparse_entries l)) (sym c.deref-in-SparseMap.ensures)
    in
    let over = subst (IsOver c.args.bases.now) e c.requires.over in
    (omega (arith, ap size e), (over.0, (over.1, subst (λ f. part_depth (stands c.args.bases.now f) ≤ 500) e c.requires.shallow)))

pub plain-set_of_pairs-requires-in-SparseMap : goal.plain-set_of_pairs-requires-in-SparseMap
plain-set_of_pairs-requires-in-SparseMap t c =
    let m = c.in-SparseMap in
    let e : form c.args.h.now ≡ table sparse m.b m.many (sparse_entries c.deref-in-SparseMap.result.now) =
    ap form m.is ∙ of_sparse_map m.b m.many m.entries ∙ ap (λ l. table sparse m.b m.many (sparse_entries l)) (sym c.deref-in-SparseMap.ensures)
    in
    subst (λ l. depth (set_of (set_from l)) ≤ 500) (sym c.in_ok-pairs-in-SparseMap.ensures) (subst (λ f. part_depth (stands c.args.bases.now f) ≤ 500) e c.requires.shallow)

pub plain-returns-in_ok-set_of_pairs-in-SparseMap : goal.plain-returns-in_ok-set_of_pairs-in-SparseMap
plain-returns-in_ok-set_of_pairs-in-SparseMap t c =
    let m = c.in-SparseMap in
    let e : form c.args.h.now ≡ table sparse m.b m.many (sparse_entries c.deref-in-SparseMap.result.now) =
    ap form m.is ∙ of_sparse_map m.b m.many m.entries ∙ ap (λ l. table sparse m.b m.many (sparse_entries l)) (sym c.deref-in-SparseMap.ensures)
    in
    ap (λ l. Some (set_of l)) c.in_ok-set_of_pairs-in-SparseMap.ensures ∙ ap (λ l. Some (set_of (set_from l))) c.in_ok-pairs-in-SparseMap.ensures ∙ sym (ap (stands c.args.bases.now) e)

-- ---- entries

pub push_entry-plain-requires : goal.push_entry-plain-requires
push_entry-plain-requires t c =
    let bs = c.args.bases.now in (
      omega arith,
      (c.requires.over.1, image_depth c.args.many (value_at (base_at bs c.args.b) c.args.n) (stands bs (form c.args.content.now)) c.requires.over.0 c.requires.over.2 c.requires.shallow),
    )

pub remote_pairs-push_entry-requires : goal.remote_pairs-push_entry-requires
remote_pairs-push_entry-requires t c =
    let bs = c.args.bases.now in
    let b = base_at bs c.args.b in
    let es = remote_entries c.args.slots.now in
    let n = c.loop-n.n + 1 in
    let f = form c.in-Some.content.now in
    let entry = slot_entry c.args.slots.now n c.in-Some.content.now (sym c.get.ensures.content ∙ ap option_copied c.in-Some.is) in (
      omega (arith, entry_size es n f entry),
      (
        c.requires.there,
        (
          entry_over bs b c.args.many es n f c.requires.over entry,
          omega (
            arith,
            entry_depth bs b c.args.many es n f entry,
            gathered_depth c.tests_are_exact.ensures.membership c.operations_have_their_members.ensures.gather (pairs_in bs b c.args.many es),
            c.requires.shallow,
          ),
        ),
      ),
    )

pub sparse_pairs-push_entry-requires : goal.sparse_pairs-push_entry-requires
sparse_pairs-push_entry-requires t c =
    let bs = c.args.bases.now in
    let b = base_at bs c.args.b in
    let es = sparse_entries c.args.entries.now in
    let n = c.at-n.result.0 in
    let f = form c.at-n.result.1.now in
    let entry = sparse_entry c.args.entries.now c.loop-i.i n c.at-n.result.1.now c.at-n.ensures in (
      omega (arith, entry_size es n f entry),
      (
        c.requires.there,
        (
          entry_over bs b c.args.many es n f c.requires.over entry,
          omega (
            arith,
            entry_depth bs b c.args.many es n f entry,
            gathered_depth c.tests_are_exact.ensures.membership c.operations_have_their_members.ensures.gather (pairs_in bs b c.args.many es),
            c.requires.shallow,
          ),
        ),
      ),
    )

pub sparse_pairs-loop-i-preserved : goal.sparse_pairs-loop-i-preserved
sparse_pairs-loop-i-preserved t c =
    let bs = c.args.bases.now in
    let b = base_at bs c.args.b in
    sparse_next bs b c.args.many c.args.entries.now c.loop-i.i c.at-n.result.0 c.at-n.result.1.now _ _ (pairs_in bs b c.args.many (sparse_entries c.args.entries.now)) c.at-n.ensures c.in_ok-push_entry.ensures c.loop-i.invariant
