use Rattle.std.proofs.Common.{◌≡◌, ◌++◌, drop}
use Rattle.setl_program.specs.code.Plain.{plain_block}
use Rattle.setl_code.specs.Names.{in_block}
use Rattle.setl_gen.specs.Found.{branch_variables}
use Rattle.setl_gen.proofs.found.+stmts.Given as goal

abbrev pub invariant-block-loop-s : goal.invariant-block-loop-s
invariant-block-loop-s l = l.all ++ in_block (plain_block (drop l.s-index l.statements)) ≡ l.initial.all ++ in_block (plain_block l.statements)

abbrev pub invariant-branches-loop-b : goal.invariant-branches-loop-b
invariant-branches-loop-b l = l.all ++ branch_variables (drop l.b-index l.branches) ≡ l.initial.all ++ branch_variables l.branches
