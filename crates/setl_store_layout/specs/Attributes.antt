-- Attributes of maps. No public clause cites this module.
use Rattle.setl_modes.specs.declared.mode.Form.{Form}
use Rattle.setl_modes.specs.Modes.{Mode, Elements}
use Rattle.setl_rep_layout.specs.Laid.{IsAttribute}

-- a map with this attribute and this domain is on no base or has an attribute
abbrev pub HasAttribute : Form → Mode → Type 0
HasAttribute a (Elements b m) = IsAttribute a
HasAttribute a m = Unit {0}
