use Rattle.std.proofs.Common.{◌≡◌, drop, map}
use Rattle.setl_tree.specs.Canonical as spec
use Rattle.setl_tree.specs.Canonical.{stmt_tokens}
use Rattle.setl_show.specs.Text.{with_tokens}
use Rattle.setl_show.specs.Parts.{branch_tokens}
use Rattle.setl_show.proofs.statements.+statements.Given as goal

abbrev pub invariant-stmts-loop-x : goal.invariant-stmts-loop-x
invariant-stmts-loop-x l = with_tokens l.to (spec.all_of (map stmt_tokens (drop l.x-index l.xs))) ≡ with_tokens l.initial.to (spec.all_of (map stmt_tokens l.xs))

abbrev pub invariant-branches-loop-x : goal.invariant-branches-loop-x
invariant-branches-loop-x l = with_tokens l.to (spec.elseif_tokens (map branch_tokens (drop l.x-index l.xs))) ≡ with_tokens l.initial.to (spec.elseif_tokens (map branch_tokens l.xs))
