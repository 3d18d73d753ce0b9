use Rattle.std.proofs.Common.{◌≡◌, ◌++◌, drop, map}
use Rattle.setl_program.specs.Program.{Undefined}
use Rattle.setl_program.specs.Lists.{chained}
use Rattle.setl_program.specs.code.Plain.{plain_link, plain_exprs, plain_iterators, plain_arguments, plain_procedure}
use Rattle.setl_advise_conditions.specs.Parts.{expr_conditions, exprs_conditions, iterators_conditions, arguments_conditions}
use Rattle.setl_advise_gathering.specs.code.Plain.{listed}
use Rattle.setl_advise_gathering.proofs.exprs.+expr.Given as goal

abbrev pub invariant-exprs-loop-e : goal.invariant-exprs-loop-e
invariant-exprs-loop-e l =
    let qs = map plain_procedure l.procedures in
    listed l.all.items ++ exprs_conditions qs (plain_exprs (drop l.e-index l.es)) ≡ listed l.initial.all.items ++ exprs_conditions qs (plain_exprs l.es)

abbrev pub invariant-iterators-loop-i : goal.invariant-iterators-loop-i
invariant-iterators-loop-i l =
    let qs = map plain_procedure l.procedures in
    listed l.all.items ++ iterators_conditions qs (plain_iterators (drop l.i-index l.is)) ≡ listed l.initial.all.items ++ iterators_conditions qs (plain_iterators l.is)

abbrev pub invariant-arguments-loop-x : goal.invariant-arguments-loop-x
invariant-arguments-loop-x l =
    let qs = map plain_procedure l.procedures in
    listed l.all.items ++ arguments_conditions qs (plain_arguments (drop l.x-index l.xs)) ≡ listed l.initial.all.items ++ arguments_conditions qs (plain_arguments l.xs)

abbrev pub invariant-links-loop-l : goal.invariant-links-loop-l
invariant-links-loop-l l =
    let qs = map plain_procedure l.procedures in
    listed l.all.items ++ expr_conditions qs (chained Undefined (map plain_link (drop l.l-index l.ls))) ≡ listed l.initial.all.items ++ expr_conditions qs (chained Undefined (map plain_link l.ls))
