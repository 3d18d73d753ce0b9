-- A value, or `om`, held in the form of a mode.
use Rattle.std.specs.Prelude.{◌≡◌, ℕ, true, Option, Some, None}
use Rattle.setl_value.specs.Datum.{Datum}
use Rattle.setl_value.specs.WellFormed.{IsValue}
use Rattle.setl_modes.specs.Modes.{Mode}
use Rattle.setl_modes.specs.Fits.{fits}
use Rattle.setl_rep_bases.specs.Bases.{BasesState, named}
use Rattle.setl_rep_bases.specs.Keeping.{AreKept}
use Rattle.setl_rep_forms.specs.Form.{Form}
use Rattle.setl_rep_forms.specs.Stands.{stands, IsOver}
use Rattle.setl_rep_building.specs.HasForm.{HasFormOrOm}
use Rattle.setl_rep_entering.specs.Entering.{AreLengthened, BasesAreThere}
use Rattle.setl_rep_entering.specs.Laws.{PlacesAreFound}

abbrev pub IsValueOrOm : Option Datum → Type 0
IsValueOrOm None = Unit {0}
IsValueOrOm (Some d) = IsValue d

-- each value at a place is a member of its base in the activation n; `om` has no places
abbrev pub ArePlacesFound : BasesState → (n : ℕ) → Mode → Option Datum → Type 0
ArePlacesFound bs n m None = Unit {0}
ArePlacesFound bs n m (Some d) = PlacesAreFound bs n m d

-- The form is that of the mode in the activation n, over bases that are there, and stands for `om` or a value that fits the
-- mode and has members of the bases at its places.
pub record IsInForm (bs : BasesState) (n : ℕ) (m : Mode) (f : Form) : Type 0 where
  pub there : BasesAreThere bs n m
  pub over : IsOver bs f
  pub form : HasFormOrOm (named bs n) m f
  pub fits : fits m (stands bs f) ≡ true
  pub value : IsValueOrOm (stands bs f)
  pub found : ArePlacesFound bs n m (stands bs f)

-- a value is held in the form of its mode as before, once bases were lengthened by a value of any mode
abbrev pub FormsOfModesStay : Type 0
FormsOfModesStay = (m k : Mode) (d : Datum) (n i : ℕ) (bs cs : BasesState) (f : Form) → AreLengthened k d i bs cs → IsInForm bs n m f → IsInForm cs n m f

-- a value of the main program is held in the form of its mode as before, and is the same, over all bases in which the instances
-- and blocks are kept
abbrev pub FormsOfMainStay : Type 0
FormsOfMainStay = (m : Mode) (bs cs : BasesState) (f : Form) → AreKept bs cs → IsInForm bs 0 m f → IsInForm cs 0 m f × (stands cs f ≡ stands bs f)
