use Rattle.std.proofs.Common.{◌≡◌, drop}
use Rattle.setl_image_format.specs.OwnNames.{numeral_behind}
use Rattle.setl_image.proofs.own_names.numeral.Given as goal

abbrev pub invariant-loop-b : goal.invariant-loop-b
invariant-loop-b l = numeral_behind l.n (drop l.b-index l.bytes) ≡ numeral_behind 0 l.bytes
