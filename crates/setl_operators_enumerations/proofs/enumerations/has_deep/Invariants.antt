use Rattle.std.proofs.Common.{◌<◌, map, take}
use Rattle.setl_value.specs.Datum.{parts_depth, parts_of}
use Rattle.setl_value.specs.code.DatumOf.{part}
use Rattle.setl_operators_enumerations.proofs.enumerations.has_deep.Given as goal

abbrev pub invariant-loop-p : goal.invariant-loop-p
invariant-loop-p l = parts_depth (parts_of (map part (take l.p-index l.parts))) < 500
