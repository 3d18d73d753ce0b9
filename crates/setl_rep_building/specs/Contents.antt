-- The contents of maps.
use Rattle.std.specs.Prelude.{◌≡◌, ℕ, nat_eq, cond, List, map, Some}
use Rattle.std.specs.Option.{option_map}
use Rattle.setl_value.specs.Datum.{Datum}
use Rattle.setl_value.specs.Pairs.{images}
use Rattle.setl_modes.specs.Modes.{Mode}
use Rattle.setl_rep_bases.specs.declared.BaseId.{BaseId}
use Rattle.setl_rep_bases.specs.Bases.{BasesState}
use Rattle.setl_rep_forms.specs.Form.{Form, Layout, remote, sparse, Entries, entries_of, slots_from}
use Rattle.setl_rep_forms.specs.FormOf.{form}
use Rattle.setl_rep_forms.specs.Stands.{stands, IsOver, IsContent}
use Rattle.setl_rep_tables.specs.Tables.{content_in, images_of}
use Rattle.setl_rep_building.specs.HasForm.{HasForm, keeps_sets, content_mode}
use Rattle.setl_rep_building.specs.declared.table.Lying.{Lying}
use Rattle.setl_rep_building.specs.declared.table.Lying.TheVariants as lying
use Rattle.setl_rep_building.specs.declared.table.Table.{Table}
use Rattle.setl_rep_building.specs.declared.table.Table.TheVariants as code

-- f is a content for the point x of the map ds of this mode
pub record IsContentOf (bs : BasesState) (name : ℕ → BaseId) (m : Mode) (ds : List Datum) (x : Datum) (f : Form) : Type 0 where
  pub value : Datum
  pub is : stands bs f ≡ Some value
  pub images : images_of (keeps_sets m) (Some value) ≡ images x ds
  pub content : IsContent (keeps_sets m) (Some value)
  pub over : IsOver bs f
  pub form : HasForm name (content_mode m) f

-- ---- tables under construction

abbrev pub layout : Lying → Layout
layout lying.Remote = remote
layout lying.Sparse = sparse

abbrev pub table_layout : Table → Layout
table_layout (code.Remote slots) = remote
table_layout (code.Sparse entries) = sparse

abbrev pub entries_in : Table → Entries
entries_in (code.Remote slots) = slots_from 0 (map (option_map form) slots)
entries_in (code.Sparse entries) = entries_of (map (λ e. (e.0, form e.1)) entries)

-- the number n has the content f, and each other number has what it had
abbrev pub PutsEntry : ℕ → Form → Entries → Entries → Type 0
PutsEntry n f old new = (q : ℕ) → content_in new q ≡ cond (nat_eq n q) (Some f) (content_in old q)

abbrev pub place : Lying × ℕ → Layout × ℕ
place p = (layout p.0, p.1)
