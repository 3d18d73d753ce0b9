-- Forms that are those of modes over the main program's bases.
use Rattle.std.specs.Prelude.{◌≡◌, ℕ, Some}
use Rattle.setl_modes.specs.declared.mode.Form.{Form as Attribute}
use Rattle.setl_modes.specs.declared.mode.Form.TheVariants.{Plain}
use Rattle.setl_modes.specs.Modes.{Mode, Elements, Sets, SingleMaps, MultiMaps}
use Rattle.setl_rep_bases.specs.BaseId.{main}
use Rattle.setl_rep_bases.specs.Bases.{BasesState}
use Rattle.setl_rep_building.specs.HasForm.{HasForm}
use Rattle.setl_rep_forms.specs.Form.{Form}
use Rattle.setl_rep_forms.specs.Stands.{IsOver}
use Rattle.setl_rep_maps.specs.Contents.{content_of}

-- the attribute of a mode
abbrev pub attribute_of : Mode → Attribute
attribute_of (Sets a m) = a
attribute_of (SingleMaps a d r) = a
attribute_of (MultiMaps a d s) = a
attribute_of m = Plain

abbrev pub IsAttribute : Attribute → Type 0
IsAttribute Plain = ⊥
IsAttribute a = Unit {0}

-- each map on a base has an attribute, as the modes of declarations have: one without a word is sparse
abbrev pub IsAttributed : Mode → Type 0
IsAttributed (SingleMaps a (Elements b m) r) = IsAttribute a × IsAttributed r
IsAttributed (MultiMaps a (Elements b m) s) = IsAttribute a × IsAttributed s
IsAttributed m = Unit {0}

-- the form is that of the mode, and stands over these bases
pub record IsLaid (bs : BasesState) (m : Mode) (f : Form) : Type 0 where
  pub over : IsOver bs f
  pub form : HasForm main m f
  pub attributed : IsAttributed m

-- so is each content of a map, by the mode of contents
abbrev pub AreContentsLaid : BasesState → Mode → Form → Type 0
AreContentsLaid bs m f = (n : ℕ) (c : Form) → content_of f n ≡ Some c → IsLaid bs m c
