use Rattle.std.proofs.Common.{◌≡◌, ◌++◌, drop, map}
use Rattle.setl_program.specs.code.Plain.{selectors_of, plain_procedure}
use Rattle.setl_advise_conditions.specs.Parts.{selectors_conditions}
use Rattle.setl_advise_gathering.specs.code.Plain.{listed}
use Rattle.setl_advise_gathering.proofs.stmts.selectors.Given as goal

abbrev pub invariant-loop-s : goal.invariant-loop-s
invariant-loop-s l =
    let qs = map plain_procedure l.procedures in
    listed l.all.items ++ selectors_conditions qs (selectors_of (drop l.s-index l.ss)) ≡ listed l.initial.all.items ++ selectors_conditions qs (selectors_of l.ss)
