use Rattle.std.proofs.Common.{◌≡◌, ◌++◌, drop, map}
use Rattle.setl_program.specs.code.Plain.{plain_block, plain_procedure}
use Rattle.setl_advise_conditions.specs.Parts.{block_conditions}
use Rattle.setl_advise_gathering.specs.code.Plain.{listed}
use Rattle.setl_advise_gathering.specs.Walked.{branch_conditions}
use Rattle.setl_advise_gathering.proofs.stmts.+stmts.Given as goal

abbrev pub invariant-block-loop-s : goal.invariant-block-loop-s
invariant-block-loop-s l =
    let qs = map plain_procedure l.procedures in
    listed l.all.items ++ block_conditions qs l.body (plain_block (drop l.s-index l.ss)) ≡ listed l.initial.all.items ++ block_conditions qs l.body (plain_block l.ss)

abbrev pub invariant-branches-loop-b : goal.invariant-branches-loop-b
invariant-branches-loop-b l =
    let qs = map plain_procedure l.procedures in
    listed l.all.items ++ branch_conditions qs l.body (drop l.b-index l.bs) ≡ listed l.initial.all.items ++ branch_conditions qs l.body l.bs
