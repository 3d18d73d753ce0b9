-- A value that is held in the form of a mode already.
use Rattle.std.specs.Prelude.{◌≡◌, ℕ, Bool, true, false, List, Option, Some, None}
use Rattle.std.specs.FinSet as set
use Rattle.setl_value.specs.Datum.{Datum}
use Rattle.setl_modes.specs.declared.mode.Form.{Form as Attribute}
use Rattle.setl_modes.specs.Fits.{datum_fits, part_fits}
use Rattle.setl_modes.specs.Modes.{Mode, General, Integers, Strings, Booleans, Atoms, SingleMaps, MultiMaps}
use Rattle.setl_base.specs.Base.{BaseState}
use Rattle.setl_rep_bases.specs.declared.BaseId.{BaseId}
use Rattle.setl_rep_bases.specs.Bases.{BasesState, named}
use Rattle.setl_rep_forms.specs.Form.{Form, Layout, numbers, table}
use Rattle.setl_rep_forms.specs.Stands.{value_at, stands}
use Rattle.setl_rep_maps.specs.Contents.{content_of}
use Rattle.setl_rep_building.specs.HasForm.{HasForm}
use Rattle.setl_rep_entering.specs.Laws.{PlacesAreFound}

-- the form is that of the mode in the activation n, and stands for a value that fits the mode and whose values at places are
-- members of the bases
pub record IsReady (bs : BasesState) (n : ℕ) (m : Mode) (f : Form) : Type 0 where
  pub form : HasForm (named bs n) m f
  pub value : Datum
  pub stood : stands bs f ≡ Some value
  pub fits : datum_fits m value ≡ true
  pub found : PlacesAreFound bs n m value

-- a mode whose values have no places
abbrev pub IsSimple : Mode → Type 0
IsSimple General = Unit {0}
IsSimple Integers = Unit {0}
IsSimple Strings = Unit {0}
IsSimple Booleans = Unit {0}
IsSimple Atoms = Unit {0}
IsSimple m = ⊥

-- ---- maps

-- the mode of maps that keep one image for each point, or their images as sets
abbrev pub map_mode : (many : Bool) → Attribute → Mode → Mode → Mode
map_mode true a d r = MultiMaps a d r
map_mode false a d r = SingleMaps a d r

-- a table in this layout on the base b
abbrev pub IsTableAt : Option Layout → BaseId → (many : Bool) → Form → Type 0
IsTableAt (Some l) b many (table k c some es) = (k ≡ l) × (c ≡ b) × (some ≡ many)
IsTableAt o b many f = ⊥

-- the point with the number q fits the mode k, and the content is in the form of the mode r
abbrev pub IsContentReady : BasesState → (n : ℕ) → BaseState → (k r : Mode) → (q : ℕ) → Option Form → Type 0
IsContentReady bs n b k r q None = Unit {0}
IsContentReady bs n b k r q (Some c) = (part_fits (datum_fits k) (value_at b q) ≡ true) × IsReady bs n r c

-- the same of the content that a map has at this number
abbrev pub IsEntryReady : BasesState → (n : ℕ) → BaseState → (k r : Mode) → Form → ℕ → Type 0
IsEntryReady bs n b k r f q = IsContentReady bs n b k r q (content_of f q)

-- these are the numbers of a set
abbrev pub HasNumbers : Form → List ℕ → Type 0
HasNumbers (numbers k b ms) ns = set.from_list ns ≡ ms
HasNumbers f ns = Unit {0}
