-- The entries of slots and of sparse tables.
use Rattle.std.specs.Prelude.{◌≡◌, ℕ, ◌==◌, cond, List, map, Option}
use Rattle.std.specs.Option.{option_map}
use Rattle.setl_rep_forms.specs.declared.held.Held.{Held}
use Rattle.setl_rep_forms.specs.Form.{Form, Entries, entries_of, slots_from}
use Rattle.setl_rep_forms.specs.FormOf.{form}
use Rattle.setl_rep_tables.specs.Tables.{content_in}

abbrev pub sparse_entries : List (ℕ × Held) → Entries
sparse_entries es = entries_of (map (λ e. (e.0, form e.1)) es)

abbrev pub remote_entries : List (Option Held) → Entries
remote_entries cs = slots_from 0 (map (option_map form) cs)

-- the number n has the content c, or none, and each other number has what it had
abbrev pub PutsEntry : ℕ → Option Form → Entries → Entries → Type 0
PutsEntry n c old new = (q : ℕ) → content_in new q ≡ cond (n == q) c (content_in old q)
