use Rattle.std.proofs.Common.{◌≡◌, drop}
use Rattle.setl_names.specs.Names.{repeats_after, has_repeat}
use Rattle.setl_image_names.specs.Once.{declared_names}
use Rattle.setl_image_names.proofs.differing.different_modes.Given as goal

abbrev pub invariant-loop-it : goal.invariant-loop-it
invariant-loop-it l = repeats_after l.all (declared_names (drop l.it-index l.declared)) ≡ has_repeat (declared_names l.declared)
