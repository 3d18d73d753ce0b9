use Rattle.std.proofs.Common.{◌≡◌, map, take}
use Rattle.setl_program.specs.ProgramOf.{parameter_of}
use Rattle.setl_code.specs.Shapes.{handed}
use Rattle.setl_image_operands.proofs.shapes.handed_back.Given as goal

abbrev pub invariant-loop-param : goal.invariant-loop-param
invariant-loop-param l = l.back ≡ handed (map parameter_of (take l.param-index l.params))
