-- Each statement that the grammar derives of such tokens has values for literals, and so have the bodies of a program.
use Rattle.std.proofs.Common.{ℕ, zero, suc, ◌-◌, List}
use Rattle.setl_tree.specs.declared.kind.Kind.{Kind}
use Rattle.setl_tree.specs.declared.kind.Kind.TheVariants as k
use Rattle.setl_tree.specs.declared.stmt.Stmt.{Stmt}
use Rattle.setl_tree.specs.declared.tree.Proc.{Proc}
use Rattle.setl_tree.specs.declared.tree.Tree.{Tree}
use Rattle.setl_tree.specs.Lang.{Lang}
use Rattle.setl_tree.specs.Expressions.{nested}
use Rattle.setl_tree.specs.Statements as g
use Rattle.setl_tree.specs.Statements.{simple}
use Rattle.setl_tree.specs.Programs as p
use Rattle.setl_top_values.proofs.Languages.{Each, Maybe, Keeps, k_any, k_pure, k_never, k_then, k_or, k_one_of, k_many, k_optional, k_past, k_separated, k_listed, k_lined}
use Rattle.setl_top_values.proofs.Trees.{Good, GoodSelector, selector_round, selector_braces}
use Rattle.setl_top_values.proofs.Grammar.{iters_keeps, nested_keeps, expr_keeps}
use Rattle.setl_top_values.proofs.StatementTrees.{GoodKind, GoodStmt, GoodBranch, GoodPlace, good_stmt, good_branch, is_assign, is_update, is_tuple_assign, is_take, is_call, is_if, is_for, is_while, is_quit, is_continue, is_fail, is_succeed, is_stop, is_pass, is_return, is_print, is_read}

simple_good : (kind : Kind) → Maybe GoodKind (simple kind)
unfolding simple
simple_good k.Quit = is_quit
simple_good k.Continue = is_continue
simple_good k.Fail = is_fail
simple_good k.Succeed = is_succeed
simple_good k.Stop = is_stop
simple_good k.Pass = is_pass
simple_good _ = tt

module _ (room : ℕ) where
  deep_expr : Keeps (nested room).expr Good
  deep_expr = (nested_keeps room).0

  place_selector_keeps : Keeps (g.place_selector room) GoodSelector
  unfolding g.place_selector
  place_selector_keeps = k_or (k_past (k_then (k_separated deep_expr) (λ xs h. k_past (k_pure (selector_round xs h))))) (k_past (k_then (k_separated deep_expr) (λ xs h. k_past (k_pure (selector_braces xs h)))))

  place_keeps : Keeps (g.place room) GoodPlace
  unfolding g.place
  place_keeps = k_then k_any (λ n _. k_then (k_many place_selector_keeps) (λ ss gs. k_pure gs))

  module _ (deep : Lang (List Stmt)) (k_deep : Keeps deep (Each GoodStmt)) where
    branch_keeps : Keeps (g.branch room deep) GoodBranch
    unfolding g.branch
    branch_keeps = k_then deep_expr (λ t gt. k_past (k_then k_deep (λ body gb. k_pure (good_branch t body gt gb))))

    kind_keeps : Keeps (g.stmt_kind room deep) GoodKind
    unfolding g.stmt_kind
    kind_keeps = k_or (k_then place_keeps (λ t gt. k_past (k_then (expr_keeps room) (λ x gx. k_past (k_pure (is_assign t x gt gx))))))
        (k_or (k_then place_keeps (λ t gt. k_then k_any (λ o _. k_past (k_then (expr_keeps room) (λ x gx. k_past (k_pure (is_update t o x gt gx)))))))
        (k_or (k_then k_any (λ slots _. k_past (k_then (expr_keeps room) (λ x gx. k_past (k_pure (is_tuple_assign slots x gx))))))
        (k_or (k_then k_any (λ x _. k_then k_any (λ w _. k_then place_keeps (λ t gt. k_past (k_pure (is_take x w t gt))))))
        (k_or (k_then k_any (λ f _. k_past (k_then (k_listed deep_expr) (λ xs gs. k_past (k_past (k_pure (is_call f xs gs)))))))
        (k_or (k_past (k_then branch_keeps (λ first gf. k_then (k_many (k_past branch_keeps)) (λ others gs. k_then (k_optional (k_past k_deep)) (λ last gl. k_past (k_pure (is_if first others last gf gs gl)))))))
        (k_or (k_past (k_past (k_then (iters_keeps (room - 1) (nested room).source (nested_keeps room).1) (λ over gs. k_then (k_optional (k_past deep_expr)) (λ t gt. k_past (k_then k_deep (λ body gb. k_past (k_pure (is_for over t body gs gt gb)))))))))
        (k_or (k_past (k_past (k_then deep_expr (λ t gt. k_past (k_then k_deep (λ body gb. k_past (k_pure (is_while t body gt gb))))))))
        (k_or (k_then (k_one_of simple simple_good) (λ s gs. k_past (k_pure gs)))
        (k_or (k_past (k_then (k_optional (expr_keeps room)) (λ x gx. k_past (k_pure (is_return x gx)))))
        (k_or (k_past (k_past (k_then (k_listed deep_expr) (λ xs gs. k_past (k_past (k_pure (is_print xs gs)))))))
        (k_past (k_past (k_then k_any (λ xs _. k_past (k_past (k_pure (is_read xs)))))))))))))))))

    stmt_keeps : Keeps (g.stmt room deep) GoodStmt
    unfolding g.stmt
    stmt_keeps = k_then (k_lined kind_keeps) (λ s gs. k_pure (good_stmt s.0 s.1 gs))

-- statements that stand one nesting deeper
nested_stmts_keeps : (room : ℕ) → Keeps (g.nested_stmts room) (Each GoodStmt)
unfolding g.nested_stmts
nested_stmts_keeps zero = k_never
nested_stmts_keeps (suc room) = k_many (stmt_keeps room (g.nested_stmts room) (nested_stmts_keeps room))

stmts_keeps : (room : ℕ) → Keeps (g.stmts room) (Each GoodStmt)
unfolding g.stmts
stmts_keeps room = k_many (stmt_keeps room (g.nested_stmts room) (nested_stmts_keeps room))

-- ---- programs

abbrev pub GoodBody : List Stmt → Type 0
GoodBody body = Each GoodStmt body

abbrev pub GoodProc : Proc → Type 0
GoodProc proc = GoodBody proc.body

abbrev pub GoodTree : Tree → Type 0
GoodTree t = GoodBody t.body × Each GoodProc t.procs

proc_keeps : (room : ℕ) → Keeps (p.proc room) GoodProc
unfolding p.proc
proc_keeps room = k_then k_any (λ t _. k_then k_any (λ x _. k_then k_any (λ ps _. k_past (k_then (stmts_keeps room) (λ body gb. k_then k_any (λ last _. k_pure gb))))))

pub program_keeps : (room : ℕ) → Keeps (p.program room) GoodTree
unfolding p.program
program_keeps room = k_past (k_then k_any (λ x _. k_past (k_then k_any (λ vars _. k_then k_any (λ modes _. k_then (stmts_keeps room) (λ body gb. k_then (k_many (proc_keeps room)) (λ procs gp. k_then k_any (λ last _. k_pure (gb, gp)))))))))
