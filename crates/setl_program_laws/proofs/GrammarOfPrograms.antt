-- Each statement that the grammar derives is good, and so are the bodies of a program that it derives.
use Rattle.std.proofs.Common.{◌≡◌, ℕ, zero, suc, ◌-◌, true, refl, List}
use Rattle.setl_tree.specs.declared.kind.Kind.{Kind}
use Rattle.setl_tree.specs.declared.kind.Kind.TheVariants as k
use Rattle.setl_tree.specs.declared.expr.BinaryOp.{BinaryOp}
use Rattle.setl_tree.specs.declared.stmt.Stmt.{Stmt}
use Rattle.setl_tree.specs.declared.tree.Proc.{Proc}
use Rattle.setl_tree.specs.declared.tree.Tree.{Tree}
use Rattle.setl_tree.specs.Lang.{Lang}
use Rattle.setl_tree.specs.Operators.{update_op}
use Rattle.setl_tree.specs.Expressions.{nested}
use Rattle.setl_tree.specs.Statements as g
use Rattle.setl_tree.specs.Statements.{simple}
use Rattle.setl_tree.specs.Programs as p
use Rattle.setl_program.specs.Operators.{updating}
use Rattle.setl_program.specs.Updating.{is_updating}
use Rattle.setl_program_laws.proofs.Languages.{Each, Maybe, Keeps, k_any, k_pure, k_never, k_then, k_or, k_one_of, k_many, k_optional, k_past, k_separated, k_listed, k_lined}
use Rattle.setl_program_laws.proofs.Fine.{Context}
use Rattle.setl_program_laws.proofs.Trees.{Good, GoodSelector, selector_round, selector_braces}
use Rattle.setl_program_laws.proofs.GrammarOfExpressions.{iters_keeps, nested_keeps, expr_keeps}
use Rattle.setl_program_laws.proofs.StatementTrees.{GoodKind, GoodStmt, GoodBranch, GoodPlace, good_stmt, good_branch, is_assign, is_update, is_tuple_assign, is_take, is_call, is_if, is_for, is_while, is_quit, is_continue, is_fail, is_succeed, is_stop, is_pass, is_return, is_print, is_read}

-- the operators that the grammar has in an update
abbrev MayUpdate : BinaryOp → Type 0
MayUpdate f = is_updating (updating f) ≡ true

updates_only : (kind : Kind) → Maybe MayUpdate (update_op kind)
unfolding update_op
updates_only k.With = refl
updates_only k.Less = refl
updates_only k.Lessf = refl
updates_only k.Npow = refl
updates_only k.Plus = refl
updates_only k.Minus = refl
updates_only k.Max = refl
updates_only k.Min = refl
updates_only k.Star = refl
updates_only k.Div = refl
updates_only k.Mod = refl
updates_only k.Power = refl
updates_only _ = tt

module _ (c : Context) where
  simple_good : (kind : Kind) → Maybe (GoodKind c) (simple kind)
  unfolding simple
  simple_good k.Quit = is_quit c
  simple_good k.Continue = is_continue c
  simple_good k.Fail = is_fail c
  simple_good k.Succeed = is_succeed c
  simple_good k.Stop = is_stop c
  simple_good k.Pass = is_pass c
  simple_good _ = tt

  module _ (room : ℕ) where
    deep_expr : Keeps (nested room).expr (Good c)
    deep_expr = (nested_keeps c room).0

    place_selector_keeps : Keeps (g.place_selector room) (GoodSelector c)
    unfolding g.place_selector
    place_selector_keeps = k_or (k_past (k_then (k_separated deep_expr) (λ xs h. k_past (k_pure (selector_round c xs h))))) (k_past (k_then (k_separated deep_expr) (λ xs h. k_past (k_pure (selector_braces c xs h)))))

    place_keeps : Keeps (g.place room) (GoodPlace c)
    unfolding g.place
    place_keeps = k_then k_any (λ n _. k_then (k_many place_selector_keeps) (λ ss gs. k_pure gs))

    module _ (deep : Lang (List Stmt)) (k_deep : Keeps deep (Each (GoodStmt c))) where
      branch_keeps : Keeps (g.branch room deep) (GoodBranch c)
      unfolding g.branch
      branch_keeps = k_then deep_expr (λ t gt. k_past (k_then k_deep (λ body gb. k_pure (good_branch c t body gt gb))))

      kind_keeps : Keeps (g.stmt_kind room deep) (GoodKind c)
      unfolding g.stmt_kind
      kind_keeps = k_or (k_then place_keeps (λ t gt. k_past (k_then (expr_keeps c room) (λ x gx. k_past (k_pure (is_assign c t x gt gx))))))
          (k_or (k_then place_keeps (λ t gt. k_then (k_one_of update_op updates_only) (λ o may. k_past (k_then (expr_keeps c room) (λ x gx. k_past (k_pure (is_update c t o x may gt gx)))))))
          (k_or (k_then k_any (λ slots _. k_past (k_then (expr_keeps c room) (λ x gx. k_past (k_pure (is_tuple_assign c slots x gx))))))
          (k_or (k_then k_any (λ x _. k_then k_any (λ w _. k_then place_keeps (λ t gt. k_past (k_pure (is_take c x w t gt))))))
          (k_or (k_then k_any (λ f _. k_past (k_then (k_listed deep_expr) (λ xs gs. k_past (k_past (k_pure (is_call c f xs gs)))))))
          (k_or (k_past (k_then branch_keeps (λ first gf. k_then (k_many (k_past branch_keeps)) (λ others gs. k_then (k_optional (k_past k_deep)) (λ last gl. k_past (k_pure (is_if c first others last gf gs gl)))))))
          (k_or (k_past (k_past (k_then (iters_keeps c (room - 1) (nested room).source (nested_keeps c room).1) (λ over gs. k_then (k_optional (k_past deep_expr)) (λ t gt. k_past (k_then k_deep (λ body gb. k_past (k_pure (is_for c over t body gs gt gb)))))))))
          (k_or (k_past (k_past (k_then deep_expr (λ t gt. k_past (k_then k_deep (λ body gb. k_past (k_pure (is_while c t body gt gb))))))))
          (k_or (k_then (k_one_of simple simple_good) (λ s gs. k_past (k_pure gs)))
          (k_or (k_past (k_then (k_optional (expr_keeps c room)) (λ x gx. k_past (k_pure (is_return c x gx)))))
          (k_or (k_past (k_past (k_then (k_listed deep_expr) (λ xs gs. k_past (k_past (k_pure (is_print c xs gs)))))))
          (k_past (k_past (k_then k_any (λ xs _. k_past (k_past (k_pure (is_read c xs)))))))))))))))))

      stmt_keeps : Keeps (g.stmt room deep) (GoodStmt c)
      unfolding g.stmt
      stmt_keeps = k_then (k_lined kind_keeps) (λ s gs. k_pure (good_stmt c s.0 s.1 gs))

  -- statements that stand one nesting deeper
  nested_stmts_keeps : (room : ℕ) → Keeps (g.nested_stmts room) (Each (GoodStmt c))
  unfolding g.nested_stmts
  nested_stmts_keeps zero = k_never
  nested_stmts_keeps (suc room) = k_many (stmt_keeps room (g.nested_stmts room) (nested_stmts_keeps room))

  stmts_keeps : (room : ℕ) → Keeps (g.stmts room) (Each (GoodStmt c))
  unfolding g.stmts
  stmts_keeps room = k_many (stmt_keeps room (g.nested_stmts room) (nested_stmts_keeps room))

-- ---- programs

-- statements that are good in whichever body they stand
abbrev pub GoodBody : List Stmt → Type 0
GoodBody body = (c : Context) → Each (GoodStmt c) body

abbrev pub GoodProc : Proc → Type 0
GoodProc proc = GoodBody proc.body

abbrev pub GoodTree : Tree → Type 0
GoodTree t = GoodBody t.body × Each GoodProc t.procs

body_keeps : (room : ℕ) → Keeps (g.stmts room) GoodBody
body_keeps room = record { at = λ toks body s c. (stmts_keeps c room).at toks body s }

proc_keeps : (room : ℕ) → Keeps (p.proc room) GoodProc
unfolding p.proc
proc_keeps room = k_then k_any (λ t _. k_then k_any (λ x _. k_then k_any (λ ps _. k_past (k_then (body_keeps room) (λ body gb. k_then k_any (λ last _. k_pure gb))))))

pub program_keeps : (room : ℕ) → Keeps (p.program room) GoodTree
unfolding p.program
program_keeps room = k_past (k_then k_any (λ x _. k_past (k_then k_any (λ vars _. k_then k_any (λ modes _. k_then (body_keeps room) (λ body gb. k_then (k_many (proc_keeps room)) (λ procs gp. k_then k_any (λ last _. k_pure (gb, gp)))))))))
