use Rattle.std.proofs.Common.{◌≡◌, ◌++◌, drop}
use Rattle.setl_program.specs.code.Plain.{selectors_of}
use Rattle.setl_code.specs.Names.{in_selectors}
use Rattle.setl_gen.proofs.found.selectors.Given as goal

abbrev pub invariant-loop-s : goal.invariant-loop-s
invariant-loop-s l = l.all ++ in_selectors (selectors_of (drop l.s-index l.selectors)) ≡ l.initial.all ++ in_selectors (selectors_of l.selectors)
