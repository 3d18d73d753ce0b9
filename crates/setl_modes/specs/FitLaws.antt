-- How a value is kept has no part in what fits.
use Rattle.std.specs.Prelude.{◌≡◌, Option}
use Rattle.setl_value.specs.Datum.{Datum}
use Rattle.setl_modes.specs.declared.mode.Form.TheVariants.{Plain}
use Rattle.setl_modes.specs.Modes.{Mode, General, Integers, Strings, Booleans, Atoms, Elements, Sets, Tuples, SingleMaps, MultiMaps}
use Rattle.setl_modes.specs.Fits.{fits}

-- the mode without bases and without a word on how values are kept
abbrev pub bare : Mode → Mode
bare General = General
bare Integers = Integers
bare Strings = Strings
bare Booleans = Booleans
bare Atoms = Atoms
bare (Elements base m) = bare m
bare (Sets form m) = Sets Plain (bare m)
bare (Tuples m) = Tuples (bare m)
bare (SingleMaps form d r) = SingleMaps Plain (bare d) (bare r)
bare (MultiMaps form d s) = MultiMaps Plain (bare d) (bare s)

abbrev pub FormsChangeNothing : Type 0
FormsChangeNothing = (m : Mode) (v : Option Datum) → fits (bare m) v ≡ fits m v
