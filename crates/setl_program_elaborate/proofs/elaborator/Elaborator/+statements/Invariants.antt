use Rattle.std.proofs.Common.{◌≡◌, ℕ, ◌+◌, ◌*◌, List, [], ◌∷◌, ◌++◌, drop, map}
use Rattle.setl_tree.specs.declared.stmt.StmtKind.TheShapes.{weighed-StmtKind-If-2}
use Rattle.setl_tree.proofs.stmt.Branch.TheLaws as branch
use Rattle.setl_tree.proofs.stmt.Stmt.TheLaws as stmt
use denote.Param.Weighed.{most}
use Rattle.setl_program.specs.code.Plain.{plain_stmt, plain_branch}
use Rattle.setl_program.specs.Statements as spec
use Rattle.setl_program.specs.Statements.{branch_of, lined}
use Rattle.setl_program_elaborate.specs.Elaborators.{made, past, does}
use Rattle.setl_program_elaborate.proofs.elaborator.Elaborator.+statements.Given as goal

abbrev pub invariant-stmts-loop-x : goal.invariant-stmts-loop-x
invariant-stmts-loop-x l = (map plain_stmt l.all ++ made (spec.statements (map lined (drop l.x-index l.xs))) l.self, past (spec.statements (map lined (drop l.x-index l.xs))) l.self) ≡ does (spec.statements (map lined l.xs)) l.initial.self

abbrev pub invariant-branches-loop-branch : goal.invariant-branches-loop-branch
invariant-branches-loop-branch l = (map plain_branch l.all ++ made (spec.branches l.line (map branch_of (drop l.branch-index l.branches))) l.self, past (spec.branches l.line (map branch_of (drop l.branch-index l.branches))) l.self) ≡ does (spec.branches l.line (map branch_of l.branches)) l.initial.self

-- ---- the walk ends

-- the largest of some depths, and for equal ones the order of the calls
abbrev by : List ℕ → ℕ → ℕ
by depths rank = 8 * most (λ n. n) depths + rank

abbrev pub decreases-stmts : goal.decreases-stmts
decreases-stmts l = 8 * goal.size-stmts l + 1

abbrev pub decreases-kind : goal.decreases-kind
decreases-kind l = 8 * goal.size-kind l

abbrev pub decreases-branches : goal.decreases-branches
decreases-branches l = 8 * goal.size-branches l + 1

abbrev pub decreases-optional_block : goal.decreases-optional_block
decreases-optional_block l = 8 * goal.size-optional_block l + 2

abbrev pub decreases-for_loop : goal.decreases-for_loop
decreases-for_loop l = 8 * goal.size-for_loop l + 2

abbrev pub decreases-while_loop : goal.decreases-while_loop
decreases-while_loop l = 8 * goal.size-while_loop l + 2

abbrev pub decreases-if_of : goal.decreases-if_of
decreases-if_of l = by (goal.size-if_of l ∷ most branch.the_size l.others.now ∷ weighed-StmtKind-If-2.weight _ stmt.the_size l.last.now ∷ []) 3
