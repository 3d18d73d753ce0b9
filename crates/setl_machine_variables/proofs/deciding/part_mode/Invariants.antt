use Rattle.std.proofs.Common.{◌≡◌, map, drop}
use Rattle.setl_modes.specs.Modes.{mode_of}
use Rattle.setl_machine_updates.specs.Selectors.{selected}
use Rattle.setl_machine_variables.specs.Deciding.{part_mode}
use Rattle.setl_machine_variables.proofs.deciding.part_mode.Given as goal

abbrev pub invariant-loop-selector : goal.invariant-loop-selector
invariant-loop-selector l = part_mode (mode_of l.mode) (map selected l.at) ≡ part_mode (mode_of l.inner) (map selected (drop l.selector-index l.at))
