use Rattle.std.proofs.Common.{◌≡◌, ◌++◌, take, drop}
use Rattle.setl_image_format.specs.OwnNames.{split}
use Rattle.setl_image.proofs.own_names.split.Given as goal

abbrev pub invariant-loop-at : goal.invariant-loop-at
invariant-loop-at l = ((split l.bytes).0 ≡ take l.at l.bytes ++ (split (drop l.at l.bytes)).0) × ((split l.bytes).1 ≡ (split (drop l.at l.bytes)).1)
