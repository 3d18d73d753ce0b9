use Rattle.std.proofs.Common.{◌≡◌, ◌+◌, ◌++◌, drop}
use Rattle.setl_modes.specs.Modes.{mode_of}
use Rattle.setl_rep_forms.specs.FormOf.{form}
use Rattle.setl_rep_layout.specs.Texts.{after_blanks, entry_texts}
use Rattle.setl_rep_layout.proofs.Tables.{inside, size}
use Rattle.setl_rep_layout.proofs.parts.+parts.Given as goal

abbrev pub decreases-push_part : goal.decreases-push_part
decreases-push_part l = size (form l.h.now)

abbrev pub decreases-push_map : goal.decreases-push_map
decreases-push_map l = inside (form l.map.now) + 5

abbrev pub decreases-push_each_entry : goal.decreases-push_each_entry
decreases-push_each_entry l = inside (form l.map.now) + 3

abbrev pub decreases-push_entries : goal.decreases-push_entries
decreases-push_entries l = inside (form l.map.now) + 4

abbrev pub decreases-push_entry : goal.decreases-push_entry
decreases-push_entry l = inside (form l.map.now) + 2

abbrev pub decreases-push_content : goal.decreases-push_content
decreases-push_content l = inside (form l.map.now) + 1

abbrev pub invariant-push_each_entry-loop-n : goal.invariant-push_each_entry-loop-n
invariant-push_each_entry-loop-n l =
    let texts = entry_texts l.bases (mode_of l.mode) (form l.map) in
    l.into.items ++ after_blanks (texts (drop l.n-index l.list)) ≡ l.initial.into.items ++ after_blanks (texts l.list)
