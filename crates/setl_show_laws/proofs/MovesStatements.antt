-- Tokens with other lines spell the same statements but for lines.
use Rattle.std.proofs.Common.{◌≡◌, ℕ, zero, suc, ◌-◌, List, map, Option, Some, None, refl, sym, ap, ◌∙◌}
use Rattle.setl_tree.specs.declared.kind.Kind.{Kind}
use Rattle.setl_tree.specs.declared.kind.Kind.TheVariants as k
use Rattle.setl_tree.specs.declared.expr.Expr.{Expr}
use Rattle.setl_tree.specs.declared.expr.Iter.{Iter}
use Rattle.setl_tree.specs.declared.stmt.Branch.{Branch, roll-Branch, fold-roll-Branch}
use Rattle.setl_tree.specs.declared.stmt.Stmt.{Stmt, roll-Stmt, fold-roll-Stmt}
use Rattle.setl_tree.specs.declared.stmt.StmtKind.{StmtKind, roll-StmtKind, fold-roll-StmtKind}
use Rattle.setl_tree.specs.declared.stmt.StmtKind.TheVariants as st
use Rattle.setl_tree.specs.declared.stmt.StmtKind.TheOpen.{StmtKind-F}
use Rattle.setl_tree.specs.Lang.{Lang}
use Rattle.setl_tree.specs.Operators.{update_op}
use Rattle.setl_tree.specs.Expressions.{nested}
use Rattle.setl_tree.specs.Statements as g
use Rattle.setl_tree.specs.Statements.{from_word, simple}
use Rattle.setl_show_laws.specs.Lines.{stmt_layer, bare_stmt, bare_kind, bare_branch}
use Rattle.setl_show_laws.proofs.Moves.{Moves, any_two, EachTwo, MaybeTwo, maps_same, m_weak, m_pure, m_never, m_then, s_then, m_past, m_or, m_token, m_one_of, m_opening, m_name, m_many, m_optional, m_lined, s_many, s_optional, s_separated, s_listed}
use Rattle.setl_show_laws.proofs.MovesExpressions.{Stays, pattern_stays, iters_stay, nested_stay, expr_stays}

-- ---- the same but for lines

abbrev pub SameStmt : Stmt → Stmt → Type 0
SameStmt s t = bare_stmt s ≡ bare_stmt t

abbrev SameKind : StmtKind → StmtKind → Type 0
SameKind s t = bare_kind s ≡ bare_kind t

abbrev SameBranch : Branch → Branch → Type 0
SameBranch s t = bare_branch s ≡ bare_branch t

stmt_is : (line : ℕ) (kind : StmtKind) → bare_stmt (roll-Stmt (record { line = line; kind = kind })) ≡ roll-Stmt (record { line = 0; kind = bare_kind kind })
stmt_is line kind = fold-roll-Stmt StmtKind Branch Stmt roll-StmtKind roll-Branch stmt_layer (record { line = line; kind = kind })

stmt_same : (l m : ℕ) (s t : StmtKind) → SameKind s t → SameStmt (roll-Stmt (record { line = l; kind = s })) (roll-Stmt (record { line = m; kind = t }))
stmt_same l m s t h = stmt_is l s ∙ (λ i. roll-Stmt (record { line = 0; kind = h i })) ∙ sym (stmt_is m t)

branch_is : (c : Expr) (body : List Stmt) → bare_branch (roll-Branch (record { condition = c; body = body })) ≡ roll-Branch (record { condition = c; body = map bare_stmt body })
branch_is c body = fold-roll-Branch StmtKind Branch Stmt roll-StmtKind roll-Branch stmt_layer (record { condition = c; body = body })

branch_same : (c : Expr) (xs ys : List Stmt) → EachTwo SameStmt xs ys → SameBranch (roll-Branch (record { condition = c; body = xs })) (roll-Branch (record { condition = c; body = ys }))
branch_same c xs ys h = let body = maps_same bare_stmt xs ys h in branch_is c xs ∙ (λ i. roll-Branch (record { condition = c; body = body i })) ∙ sym (branch_is c ys)

for_is : (over : List Iter) (c : Option Expr) (body : List Stmt) → bare_kind (st.For over c body) ≡ roll-StmtKind (StmtKind-F.For over c (map bare_stmt body))
for_is over c body = ap bare_kind (sym (st.rolls-For over c body)) ∙ fold-roll-StmtKind StmtKind Branch Stmt roll-StmtKind roll-Branch stmt_layer (StmtKind-F.For over c body)

for_same : (over : List Iter) (c : Option Expr) (xs ys : List Stmt) → EachTwo SameStmt xs ys → SameKind (st.For over c xs) (st.For over c ys)
for_same over c xs ys h = let body = maps_same bare_stmt xs ys h in for_is over c xs ∙ (λ i. roll-StmtKind (StmtKind-F.For over c (body i))) ∙ sym (for_is over c ys)

while_is : (c : Expr) (body : List Stmt) → bare_kind (st.While c body) ≡ roll-StmtKind (StmtKind-F.While c (map bare_stmt body))
while_is c body = ap bare_kind (sym (st.rolls-While c body)) ∙ fold-roll-StmtKind StmtKind Branch Stmt roll-StmtKind roll-Branch stmt_layer (StmtKind-F.While c body)

while_same : (c : Expr) (xs ys : List Stmt) → EachTwo SameStmt xs ys → SameKind (st.While c xs) (st.While c ys)
while_same c xs ys h = let body = maps_same bare_stmt xs ys h in while_is c xs ∙ (λ i. roll-StmtKind (StmtKind-F.While c (body i))) ∙ sym (while_is c ys)

if_none_is : (first : Branch) (others : List Branch) → bare_kind (st.If first others None) ≡ roll-StmtKind (StmtKind-F.If (bare_branch first) (map bare_branch others) None)
if_none_is first others = ap bare_kind (sym (st.rolls-If first others None)) ∙ fold-roll-StmtKind StmtKind Branch Stmt roll-StmtKind roll-Branch stmt_layer (StmtKind-F.If first others None)

if_some_is : (first : Branch) (others : List Branch) (body : List Stmt) → bare_kind (st.If first others (Some body)) ≡ roll-StmtKind (StmtKind-F.If (bare_branch first) (map bare_branch others) (Some (map bare_stmt body)))
if_some_is first others body = ap bare_kind (sym (st.rolls-If first others (Some body))) ∙ fold-roll-StmtKind StmtKind Branch Stmt roll-StmtKind roll-Branch stmt_layer (StmtKind-F.If first others (Some body))

if_same : (f g : Branch) (xs ys : List Branch) (o p : Option (List Stmt)) → SameBranch f g → EachTwo SameBranch xs ys → MaybeTwo (EachTwo SameStmt) o p → SameKind (st.If f xs o) (st.If g ys p)
if_same f g xs ys None None hf hs ho =
    let others = maps_same bare_branch xs ys hs in
    if_none_is f xs ∙ (λ i. roll-StmtKind (StmtKind-F.If (hf i) (others i) None)) ∙ sym (if_none_is g ys)
if_same f g xs ys None (Some q) hf hs ho = absurd ho
if_same f g xs ys (Some b) None hf hs ho = absurd ho
if_same f g xs ys (Some b) (Some c) hf hs ho =
    let others = maps_same bare_branch xs ys hs in
    let body = maps_same bare_stmt b c ho in
    if_some_is f xs b ∙ (λ i. roll-StmtKind (StmtKind-F.If (hf i) (others i) (Some (body i)))) ∙ sym (if_some_is g ys c)

kind_same : (s t : StmtKind) → s ≡ t → SameKind s t
kind_same s t h = ap bare_kind h

-- ---- the grammar

pub ending_moves : (word : Kind) → Moves (g.ending word) (g.ending word) any_two
unfolding g.ending
ending_moves word = m_past (m_token k.End) (m_past (m_optional (m_token word)) (m_weak (m_token k.Semicolon)))

module _ (room : ℕ) where
  deep_expr : Stays (nested room).expr
  deep_expr = (nested_stay room).0

  place_selector_stays : Stays (g.place_selector room)
  unfolding g.place_selector
  place_selector_stays = m_or (m_past (m_opening room k.LeftParen) (s_then (s_separated deep_expr) (λ xs. m_past (m_token k.RightParen) (m_pure refl))))
      (m_past (m_opening room k.LeftBrace) (s_then (s_separated deep_expr) (λ xs. m_past (m_token k.RightBrace) (m_pure refl))))

  place_stays : Stays (g.place room)
  unfolding g.place
  place_stays = s_then m_name (λ n. s_then (s_many place_selector_stays) (λ ss. m_pure refl))

  module _ (deep : Lang (List Stmt)) (m_deep : Moves deep deep (EachTwo SameStmt)) where
    branch_moves : Moves (g.branch room deep) (g.branch room deep) SameBranch
    unfolding g.branch
    branch_moves = s_then deep_expr (λ c. m_past (m_token k.Then) (m_then m_deep (λ xs ys h. m_pure (branch_same c xs ys h))))

    kind_moves : Moves (g.stmt_kind room deep) (g.stmt_kind room deep) SameKind
    unfolding g.stmt_kind
    kind_moves = m_or (s_then place_stays (λ p. m_past (m_token k.Assign) (s_then (expr_stays room) (λ x. m_past (m_token k.Semicolon) (m_pure refl)))))
        (m_or (s_then place_stays (λ p. s_then (m_one_of update_op) (λ o. m_past (m_token k.Assign) (s_then (expr_stays room) (λ x. m_past (m_token k.Semicolon) (m_pure refl))))))
        (m_or (s_then (pattern_stays room) (λ slots. m_past (m_token k.Assign) (s_then (expr_stays room) (λ x. m_past (m_token k.Semicolon) (m_pure refl)))))
        (m_or (s_then m_name (λ x. s_then (m_one_of from_word) (λ w. s_then place_stays (λ p. m_past (m_token k.Semicolon) (m_pure refl)))))
        (m_or (s_then m_name (λ f. m_past (m_opening room k.LeftParen) (s_then (s_listed deep_expr) (λ xs. m_past (m_token k.RightParen) (m_past (m_token k.Semicolon) (m_pure refl))))))
        (m_or (m_past (m_opening room k.If) (m_then branch_moves (λ f g hf. m_then (m_many (m_past (m_token k.Elseif) branch_moves)) (λ xs ys hs. m_then (m_optional (m_past (m_token k.Else) m_deep)) (λ o p ho. m_past (ending_moves k.If) (m_pure (if_same f g xs ys o p hf hs ho)))))))
        (m_or (m_past (m_opening room k.LeftParen) (m_past (m_token k.For) (s_then (iters_stay (room - 1) (nested room).source (nested_stay room).1) (λ over. s_then (s_optional (m_past (m_token k.Bar) deep_expr)) (λ c. m_past (m_token k.RightParen) (m_then m_deep (λ xs ys h. m_past (ending_moves k.For) (m_pure (for_same over c xs ys h)))))))))
        (m_or (m_past (m_opening room k.LeftParen) (m_past (m_token k.While) (s_then deep_expr (λ c. m_past (m_token k.RightParen) (m_then m_deep (λ xs ys h. m_past (ending_moves k.While) (m_pure (while_same c xs ys h))))))))
        (m_or (s_then (m_one_of simple) (λ s. m_past (m_token k.Semicolon) (m_pure refl)))
        (m_or (m_past (m_token k.Return) (s_then (s_optional (expr_stays room)) (λ x. m_past (m_token k.Semicolon) (m_pure refl))))
        (m_or (m_past (m_token k.Print) (m_past (m_opening room k.LeftParen) (s_then (s_listed deep_expr) (λ xs. m_past (m_token k.RightParen) (m_past (m_token k.Semicolon) (m_pure refl))))))
        (m_past (m_token k.Read) (m_past (m_opening room k.LeftParen) (s_then (s_separated m_name) (λ xs. m_past (m_token k.RightParen) (m_past (m_token k.Semicolon) (m_pure refl))))))))))))))))

    stmt_moves : Moves (g.stmt room deep) (g.stmt room deep) SameStmt
    unfolding g.stmt
    stmt_moves = m_then (m_lined kind_moves) (λ p q h. m_pure (stmt_same p.0 q.0 p.1 q.1 h))

nested_stmts_move : (room : ℕ) → Moves (g.nested_stmts room) (g.nested_stmts room) (EachTwo SameStmt)
unfolding g.nested_stmts
nested_stmts_move zero = m_never
nested_stmts_move (suc room) = m_many (stmt_moves room (g.nested_stmts room) (nested_stmts_move room))

pub stmts_move : (room : ℕ) → Moves (g.stmts room) (g.stmts room) (EachTwo SameStmt)
unfolding g.stmts
stmts_move room = m_many (stmt_moves room (g.nested_stmts room) (nested_stmts_move room))
