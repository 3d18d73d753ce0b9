-- Each statement that the grammar derives becomes what is no larger than its tokens are many.
use Rattle.std.proofs.Common.{◌≤◌, ℕ, zero, suc, ◌-◌, List, arith}
use Rattle.setl_tree.specs.declared.kind.Kind.{Kind}
use Rattle.setl_tree.specs.declared.kind.Kind.TheVariants as k
use Rattle.setl_tree.specs.declared.stmt.Stmt.{Stmt}
use Rattle.setl_tree.specs.Lang.{Lang}
use Rattle.setl_tree.specs.Operators.{update_op}
use Rattle.setl_tree.specs.Expressions.{nested}
use Rattle.setl_tree.specs.Statements as g
use Rattle.setl_tree.specs.Statements.{simple, from_word}
use Rattle.setl_code_few.proofs.Languages.{Each, Maybe, as_many_tokens, Costs, k_pure, k_never, k_then, k_or, k_past, k_token, k_opening, k_one_of, c_one_of, c_name, k_many, k_optional, k_separated, k_listed, k_lined}
use Rattle.setl_code_few.proofs.Statements.{kind_within}
use Rattle.setl_code_few.proofs.Trees.{Good, GoodSelector, selector_round, selector_braces}
use Rattle.setl_code_few.proofs.GrammarOfExpressions.{pattern_costs, iters_costs, nested_costs, expr_costs}
use Rattle.setl_code_few.proofs.StatementTrees.{GoodKind, GoodStmt, GoodBranch, GoodPlace, good_stmt, good_branch, is_assign, is_update, is_tuple_assign, is_take, is_call, is_if, is_for, is_while, is_quit, is_continue, is_fail, is_succeed, is_stop, is_pass, is_return, is_print, is_read}

simple_good : (kind : Kind) (n : ℕ) → 1 ≤ n → Maybe GoodKind (simple kind) n
unfolding simple
simple_good k.Quit n le = is_quit n le
simple_good k.Continue n le = is_continue n le
simple_good k.Fail n le = is_fail n le
simple_good k.Succeed n le = is_succeed n le
simple_good k.Stop n le = is_stop n le
simple_good k.Pass n le = is_pass n le
simple_good _ n le = tt

module _ (room : ℕ) where
  deep_expr : Costs 0 (nested room).expr Good
  deep_expr = (nested_costs room).0

  place_selector_costs : Costs 0 (g.place_selector room) GoodSelector
  unfolding g.place_selector
  place_selector_costs = k_or (k_opening room _ (k_then (k_separated deep_expr) (λ xs i h. k_token (k_pure (λ n le. selector_round xs n h (omega (arith, le)))))))
      (k_opening room _ (k_then (k_separated deep_expr) (λ xs i h. k_token (k_pure (λ n le. selector_braces xs n h (omega (arith, le)))))))

  place_costs : Costs 0 (g.place room) GoodPlace
  unfolding g.place
  place_costs = k_then c_name (λ x i some. k_then (k_many place_selector_costs) (λ ss j gs. k_pure (λ n le. record { less = j; fits = omega (arith, some, le); part = gs })))

  module _ (deep : Lang (List Stmt)) (c_deep : Costs 0 deep (Each GoodStmt)) where
    branch_costs : Costs 0 (g.branch room deep) GoodBranch
    unfolding g.branch
    branch_costs = k_then deep_expr (λ t i gt. k_token (k_then c_deep (λ body j gb. k_pure (λ n le. good_branch t body i j n gt gb (omega (arith, le))))))

    kind_costs : Costs 0 (g.stmt_kind room deep) GoodKind
    unfolding g.stmt_kind
    kind_costs = k_or (k_then place_costs (λ t i gt. k_past (k_then (expr_costs room) (λ x j gx. k_past (k_pure (λ n le. is_assign t x n gt gx (omega (arith, le))))))))
        (k_or (k_then place_costs (λ t i gt. k_then (c_one_of update_op) (λ o l some. k_past (k_then (expr_costs room) (λ x j gx. k_past (k_pure (λ n le. is_update t o x n gt gx (omega (arith, le)))))))))
        (k_or (k_then (pattern_costs room) (λ slots i few. k_past (k_then (expr_costs room) (λ x j gx. k_past (k_pure (λ n le. is_tuple_assign slots x n gx (omega (arith, few, le))))))))
        (k_or (k_then c_name (λ x i some. k_then (c_one_of from_word) (λ w l one. k_then place_costs (λ t j gt. k_past (k_pure (λ n le. is_take x w t n gt (omega (arith, some, le))))))))
        (k_or (k_then c_name (λ f i some. k_opening room _ (k_then (k_listed deep_expr) (λ xs j gs. k_past (k_past (k_pure (λ n le. is_call f xs n gs (omega (arith, some, le)))))))))
        (k_or (k_past (k_then branch_costs (λ first i gf. k_then (k_many (k_past branch_costs)) (λ others j gs. k_then (k_optional (k_past c_deep)) (λ last l gl. k_past (k_pure (λ n le. is_if first others last j l n gf gs gl (omega (arith, le)))))))))
        (k_or (k_opening room _ (k_past (k_then (iters_costs (room - 1) (nested room).source (nested_costs room).1) (λ over i gs. k_then (k_optional (k_past deep_expr)) (λ t j gt. k_past (k_then c_deep (λ body l gb. k_past (k_pure (λ n le. is_for over t body i j l n gs gt gb (omega (arith, le)))))))))))
        (k_or (k_opening room _ (k_past (k_then deep_expr (λ t i gt. k_past (k_then c_deep (λ body j gb. k_past (k_pure (λ n le. is_while t body i j n gt gb (omega (arith, le))))))))))
        (k_or (k_then (k_one_of {P = GoodKind} simple simple_good) (λ s i gs. k_past (k_pure (λ n le. kind_within gs (omega (arith, le))))))
        (k_or (k_token (k_then (k_optional (expr_costs room)) (λ x i gx. k_token (k_pure (λ n le. is_return x n gx (omega (arith, le)) (omega (arith, le)))))))
        (k_or (k_token (k_past (k_then (k_listed deep_expr) (λ xs i gs. k_past (k_past (k_pure (λ n le. is_print xs n gs (omega (arith, le)))))))))
        (k_token (k_past (k_then (k_separated c_name) (λ xs i all. k_past (k_past (k_pure (λ n le. let few = as_many_tokens xs i all in is_read xs n (omega (arith, few, le)))))))))))))))))))

    stmt_costs : Costs 0 (g.stmt room deep) GoodStmt
    unfolding g.stmt
    stmt_costs = k_then (k_lined kind_costs) (λ s i gs. k_pure (λ n le. good_stmt s.0 s.1 n (kind_within gs (omega (arith, le)))))

-- statements that stand one nesting deeper
nested_stmts_costs : (room : ℕ) → Costs 0 (g.nested_stmts room) (Each GoodStmt)
unfolding g.nested_stmts
nested_stmts_costs zero = k_never
nested_stmts_costs (suc room) = k_many (stmt_costs room (g.nested_stmts room) (nested_stmts_costs room))

pub stmts_costs : (room : ℕ) → Costs 0 (g.stmts room) (Each GoodStmt)
unfolding g.stmts
stmts_costs room = k_many (stmt_costs room (g.nested_stmts room) (nested_stmts_costs room))
