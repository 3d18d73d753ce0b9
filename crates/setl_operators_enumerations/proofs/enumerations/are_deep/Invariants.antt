use Rattle.std.proofs.Common.{◌<◌, map, take}
use Rattle.setl_value.specs.Datum.{elements_depth, elements_of}
use Rattle.setl_value.specs.code.DatumOf.{datum}
use Rattle.setl_operators_enumerations.proofs.enumerations.are_deep.Given as goal

abbrev pub invariant-loop-v : goal.invariant-loop-v
invariant-loop-v l = elements_depth (elements_of (map datum (take l.v-index l.values))) < 500
