use Rattle.std.proofs.Common.{◌≡◌, drop, take}
use Rattle.setl_names.specs.Names.{repeats_after, has_repeat}
use Rattle.setl_image_names.proofs.differing.different_names.Given as goal

abbrev pub invariant-loop-name : goal.invariant-loop-name
invariant-loop-name l = record {
  rest : repeats_after l.all (drop l.name-index l.names) ≡ has_repeat l.names;
  all : l.all ≡ take l.name-index l.names;
}
