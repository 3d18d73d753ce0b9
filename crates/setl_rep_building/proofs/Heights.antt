-- How many modes of maps stand in one another: the measure of the walk.
use Rattle.std.specs.Prelude.{ℕ, ◌+◌}
use Rattle.setl_modes.specs.Modes.{Mode, SingleMaps, MultiMaps}

abbrev pub height : Mode → ℕ
height (SingleMaps a d r) = height r + 1
height (MultiMaps a d s) = height s + 1
height m = 0
