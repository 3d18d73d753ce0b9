use Rattle.std.proofs.Common.{◌≡◌, ◌++◌, drop, map}
use Rattle.setl_program.specs.code.Plain.{selectors_of}
use Rattle.setl_code.specs.Generated as code
use Rattle.setl_code.specs.Plain.{plain_bracket}
use Rattle.setl_gen.proofs.places.brackets.Given as goal

abbrev pub invariant-loop-s : goal.invariant-loop-s
invariant-loop-s l = map plain_bracket l.written ++ code.brackets (selectors_of (drop l.s-index l.selectors)) ≡ code.brackets (selectors_of l.selectors)
