-- The entries of maps.
use Rattle.std.specs.Prelude.{ℕ, Bool, List, map, Option, IsSome}
use Rattle.std.specs.Option.{option_map}
use Rattle.setl_base.specs.Base.{BaseState}
use Rattle.setl_rep_bases.specs.Bases.{BasesState}
use Rattle.setl_rep_forms.specs.declared.held.Held.{Held}
use Rattle.setl_rep_forms.specs.Form.{Form, Entries, entries_of, slots_from}
use Rattle.setl_rep_forms.specs.FormOf.{form}
use Rattle.setl_rep_forms.specs.Stands.{value_at, stands, IsOver, IsContent}

abbrev pub sparse_entries : List (ℕ × Held) → Entries
sparse_entries es = entries_of (map (λ e. (e.0, form e.1)) es)

abbrev pub remote_entries : List (Option Held) → Entries
remote_entries cs = slots_from 0 (map (option_map form) cs)

-- an entry of a map over bases: its number lives, and its content is a value
abbrev pub IsEntryOver : BasesState → BaseState → (many : Bool) → ℕ → Form → Type 0
IsEntryOver bs b many n c = IsSome (value_at b n) × IsOver bs c × IsContent many (stands bs c)
