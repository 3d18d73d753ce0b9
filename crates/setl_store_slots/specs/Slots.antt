-- What slots hold, over bases.
use Rattle.std.specs.Prelude.{List, [], ◌∷◌, Option, Some, None}
use Rattle.setl_value.specs.Datum.{Datum}
use Rattle.setl_value.specs.code.DatumOf.{datum}
use Rattle.setl_rep_bases.specs.Bases.{BasesState}
use Rattle.setl_modes.specs.Modes.{mode_of}
use Rattle.setl_rep_forms.specs.FormOf.{form}
use Rattle.setl_rep_updates.specs.InForm.{IsInForm}
use Rattle.setl_rep_plain.specs.Standing.{held_value, IsHeldOver}
use Rattle.setl_store_slots.specs.declared.cells.Held.{Held}
use Rattle.setl_store_slots.specs.declared.cells.Held.TheVariants as held

-- the value, or `om`, that a slot holds; one whose value was taken holds nothing
abbrev pub content_of : BasesState → Held → Option (Option Datum)
content_of bs held.Om = Some None
content_of bs (held.Value v) = Some (Some (datum v))
content_of bs held.Taken = None
content_of bs (held.Based m h) = Some (held_value bs h)

-- the form of what it holds stands over these bases, and is that in which the main program holds a value of the mode beside it
abbrev pub IsStanding : BasesState → Held → Type 0
IsStanding bs held.Om = Unit {0}
IsStanding bs (held.Value v) = Unit {0}
IsStanding bs held.Taken = Unit {0}
IsStanding bs (held.Based m h) = IsHeldOver bs h × IsInForm bs 0 (mode_of m) (form h)

abbrev pub AreStanding : BasesState → List Held → Type 0
AreStanding bs [] = Unit {0}
AreStanding bs (h ∷ hs) = IsStanding bs h × AreStanding bs hs
