-- The form in which a mode has its values held.
use Rattle.std.specs.Prelude.{◌≡◌, ℕ, Bool, true, false, Option, Some, None}
use Rattle.setl_modes.specs.declared.mode.Form.{Form as Attribute}
use Rattle.setl_modes.specs.declared.mode.Form.TheVariants.{Plain, Local, Remote, Sparse}
use Rattle.setl_modes.specs.Modes.{Mode, Elements, Sets, Tuples, SingleMaps, MultiMaps}
use Rattle.setl_rep_bases.specs.declared.BaseId.{BaseId}
use Rattle.setl_rep_forms.specs.Form.{Form, om, Layout, remote, sparse, plain, element, numbers, table, handles, Entries, no_entry, entry_then}

-- ---- where numbers lie

-- the layout of an attribute; local objects have the remote form outside the fields
abbrev pub layout_of : Attribute → Option Layout
layout_of Plain = None
layout_of Local = Some remote
layout_of Remote = Some remote
layout_of Sparse = Some sparse

abbrev pub placed : Option Layout → Mode → Option (Layout × ℕ)
placed (Some l) (Elements b m) = Some (l, b)
placed l m = None

-- the layout and the base of a set of members of this mode, or of a map with this domain; none where it is held plain
abbrev pub place_of : Attribute → Mode → Option (Layout × ℕ)
place_of a m = placed (layout_of a) m

-- the base of a tuple of components of this mode
abbrev pub base_of : Mode → Option ℕ
base_of (Elements b m) = Some b
base_of m = None

-- ---- maps

abbrev pub IsMapMode : Mode → Type 0
IsMapMode (SingleMaps a d r) = Unit {0}
IsMapMode (MultiMaps a d s) = Unit {0}
IsMapMode m = ⊥

-- the layout and the base of a map; none for other modes and for what is held plain
abbrev pub table_of : Mode → Option (Layout × ℕ)
table_of (SingleMaps a d r) = place_of a d
table_of (MultiMaps a d s) = place_of a d
table_of m = None

-- whether the images of a point are kept as a set
abbrev pub keeps_sets : Mode → Bool
keeps_sets (MultiMaps a d s) = true
keeps_sets m = false

-- the mode of the contents of a map
abbrev pub content_mode : Mode → Mode
content_mode (SingleMaps a d r) = r
content_mode (MultiMaps a d s) = s
content_mode m = m

-- ---- forms, where `name` is the instance of a base

abbrev pub IsPlain : Form → Type 0
IsPlain (plain d) = Unit {0}
IsPlain f = ⊥

abbrev pub IsElementOf : BaseId → Form → Type 0
IsElementOf b (element c e) = c ≡ b
IsElementOf b f = ⊥

abbrev pub AreHandlesOf : BaseId → Form → Type 0
AreHandlesOf b (handles c es) = c ≡ b
AreHandlesOf b f = ⊥

abbrev pub AreNumbersOf : Layout → BaseId → Form → Type 0
AreNumbersOf l b (numbers k c ns) = (k ≡ l) × (c ≡ b)
AreNumbersOf l b f = ⊥

-- each content has such a form
abbrev pub HaveForms : (Form → Type 0) → Entries → Type 0
HaveForms P no_entry = Unit {0}
HaveForms P (entry_then n c es) = P c × HaveForms P es

abbrev pub IsTableOf : Layout → BaseId → Bool → (Form → Type 0) → Form → Type 0
IsTableOf l b many P (table k c m es) = (k ≡ l) × (c ≡ b) × (m ≡ many) × HaveForms P es
IsTableOf l b many P f = ⊥

abbrev pub IsTupleForm : (ℕ → BaseId) → Option ℕ → Form → Type 0
IsTupleForm name None f = IsPlain f
IsTupleForm name (Some b) f = AreHandlesOf (name b) f

abbrev pub IsSetForm : (ℕ → BaseId) → Option (Layout × ℕ) → Form → Type 0
IsSetForm name None f = IsPlain f
IsSetForm name (Some p) f = AreNumbersOf p.0 (name p.1) f

abbrev pub IsMapForm : (ℕ → BaseId) → Option (Layout × ℕ) → Bool → (Form → Type 0) → Form → Type 0
IsMapForm name None many P f = IsPlain f
IsMapForm name (Some p) many P f = IsTableOf p.0 (name p.1) many P f

-- the form of a mode: an element's is its handle, that of a tuple of elements its handles, that of a set or map on a base
-- its numbers, where the contents of a map have the form of the second mode, and all else is plain
abbrev pub HasForm : (name : ℕ → BaseId) → Mode → Form → Type 0
HasForm name (Elements b m) f = IsElementOf (name b) f
HasForm name (Sets a m) f = IsSetForm name (place_of a m) f
HasForm name (Tuples m) f = IsTupleForm name (base_of m) f
HasForm name (SingleMaps a d r) f = IsMapForm name (place_of a d) false (HasForm name r) f
HasForm name (MultiMaps a d s) f = IsMapForm name (place_of a d) true (HasForm name s) f
HasForm name m f = IsPlain f

-- `om` has a form of its own
abbrev pub HasFormOrOm : (name : ℕ → BaseId) → Mode → Form → Type 0
HasFormOrOm name m om = Unit {0}
HasFormOrOm name m f = HasForm name m f
