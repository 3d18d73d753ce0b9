use Rattle.std.proofs.Common.{◌≡◌, drop, map}
use Rattle.setl_program.specs.Program.{Block}
use Rattle.setl_program.specs.code.Plain.{plain_block, plain_branch, otherwise}
use Rattle.setl_code.specs.Generated as code
use Rattle.setl_gen_emitter.specs.Emitted.{held, after, closed}
use Rattle.setl_gen.proofs.stmts.+stmt.Given as goal

abbrev pub invariant-block-loop-s : goal.invariant-block-loop-s
invariant-block-loop-s l = after (code.block l.leaves (plain_block (drop l.s-index l.statements))) (held l.emitter) ≡ after (code.block l.leaves (plain_block l.statements)) (held l.initial.emitter)

abbrev pub invariant-branches-loop-b : goal.invariant-branches-loop-b
invariant-branches-loop-b l =
    (q : Block) → closed l.overs (after (code.block l.leaves (otherwise (map plain_branch (drop l.b-index l.branches)) q)) (held l.emitter))
    ≡ closed l.initial.overs (after (code.block l.leaves (otherwise (map plain_branch l.branches) q)) (held l.initial.emitter))
