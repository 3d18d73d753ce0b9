use Rattle.std.proofs.Common.{◌≡◌, ◌++◌, suc, drop, map}
use Rattle.setl_program.specs.code.Plain.{plain_procedure}
use Rattle.setl_advise_conditions.specs.Parts.{procedures_conditions}
use Rattle.setl_advise_gathering.specs.code.Plain.{listed}
use Rattle.setl_advise_gathering.proofs.whole.bodies.Given as goal

abbrev pub invariant-loop-k : goal.invariant-loop-k
invariant-loop-k l =
    let qs = map plain_procedure l.procedures in
    listed l.all.items ++ procedures_conditions qs (suc l.k) (map plain_procedure (drop l.k l.procedures)) ≡ listed l.initial.all.items ++ procedures_conditions qs 1 qs
