use Rattle.std.proofs.Common.{◌≡◌, ◌+◌, ◌++◌, map, drop}
use Rattle.setl_value.specs.code.DatumOf.{datum}
use Rattle.setl_rep_bases.specs.Bases.{base_at}
use Rattle.setl_rep_forms.specs.FormOf.{form}
use Rattle.setl_rep_forms.specs.Stands.{pairs_in}
use Rattle.setl_rep_plain.specs.Entries.{remote_entries, sparse_entries}
use Rattle.setl_rep_plain.proofs.Sizes.{size, sizes}
use Rattle.setl_rep_plain.proofs.Walking.{later}
use Rattle.setl_rep_plain.proofs.values.+plain.Given as goal

abbrev pub decreases-plain : goal.decreases-plain
decreases-plain l = size (form l.h.now)

abbrev pub decreases-remote_pairs : goal.decreases-remote_pairs
decreases-remote_pairs l = sizes (remote_entries l.slots.now) + 2

abbrev pub decreases-sparse_pairs : goal.decreases-sparse_pairs
decreases-sparse_pairs l = sizes (sparse_entries l.entries.now) + 2

abbrev pub decreases-push_entry : goal.decreases-push_entry
decreases-push_entry l = size (form l.content.now) + 1

abbrev pub invariant-remote_pairs-loop-n : goal.invariant-remote_pairs-loop-n
invariant-remote_pairs-loop-n l =
    let pairs = pairs_in l.bases (base_at l.bases l.b) l.many in
    map datum l.pairs.items ++ pairs (later l.slots (l.n + 1)) ≡ pairs (remote_entries l.slots)

abbrev pub invariant-sparse_pairs-loop-i : goal.invariant-sparse_pairs-loop-i
invariant-sparse_pairs-loop-i l =
    let pairs = pairs_in l.bases (base_at l.bases l.b) l.many in
    map datum l.pairs.items ++ pairs (sparse_entries (drop l.i l.entries)) ≡ pairs (sparse_entries l.entries)
