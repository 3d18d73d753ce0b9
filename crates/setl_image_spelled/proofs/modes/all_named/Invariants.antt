use Rattle.std.proofs.Common.{◌≡◌, drop}
use Rattle.std.specs.List.{list_all}
use Rattle.setl_image_modes.specs.SoundModes.{modes_of}
use Rattle.setl_image_spelled.specs.Spelled.{named_fits}
use Rattle.setl_image_spelled.proofs.modes.all_named.Given as goal

abbrev pub invariant-loop-one : goal.invariant-loop-one
invariant-loop-one l = list_all (named_fits (modes_of l.bases)) (drop l.one-index l.named) ≡ list_all (named_fits (modes_of l.bases)) l.named
