-- The canonical tokens of statements that legal tokens derive are legal.
use Rattle.std.proofs.Common.{◌≡◌, ℕ, zero, suc, ◌-◌, List, [], ◌∷◌, ◌++◌, map, Option, Some, None, sym, ap, subst, ◌∙◌}
use Rattle.setl_tree.specs.declared.kind.Kind.{Kind}
use Rattle.setl_tree.specs.declared.kind.Kind.TheVariants as k
use Rattle.setl_tree.specs.declared.expr.BinaryOp.{BinaryOp}
use Rattle.setl_tree.specs.declared.expr.Expr.{Expr}
use Rattle.setl_tree.specs.declared.expr.Iter.{Iter}
use Rattle.setl_tree.specs.declared.expr.Slot.{Slot}
use Rattle.setl_tree.specs.declared.stmt.Place.{Place}
use Rattle.setl_tree.specs.declared.stmt.FromEnd.{FromEnd}
use Rattle.setl_tree.specs.declared.stmt.FromEnd.TheVariants as fr
use Rattle.setl_tree.specs.declared.stmt.Branch.{Branch, roll-Branch, fold-roll-Branch}
use Rattle.setl_tree.specs.declared.stmt.Stmt.{Stmt, roll-Stmt, fold-roll-Stmt}
use Rattle.setl_tree.specs.declared.stmt.StmtKind.{StmtKind, fold-roll-StmtKind}
use Rattle.setl_tree.specs.declared.stmt.StmtKind.TheVariants as st
use Rattle.setl_tree.specs.declared.stmt.StmtKind.TheOpen.{StmtKind-F}
use Rattle.setl_tree.specs.Tokens.{Tokens}
use Rattle.setl_tree.specs.Lang.{Lang}
use Rattle.setl_tree.specs.Expressions.{nested}
use Rattle.setl_tree.specs.Statements as g
use Rattle.setl_tree.specs.Statements.{simple}
use Rattle.setl_tree.specs.Canonical.{sign, all_of, with_commas, from_kind, place_tokens, expr_tokens, iter_tokens, selector_tokens, slot_tokens, in_round, elseif_tokens, ending_tokens, bar_tokens, result_tokens, single, kind_step, branch_step, stmt_step, stmt_tokens}
use Rattle.setl_token.specs.Spellings.{IsSpelled}
use Rattle.setl_show.specs.Parts.{kind_tokens, branch_tokens}
use Rattle.setl_show_laws.specs.Reading.{IsNameText, AreLegal}
use Rattle.setl_show_laws.proofs.Legal.{none, both, front_of, back_of, word, word_at, named, named_at, Each, Maybe, all_legal, commas, Keeps, k_any, k_pure, k_never, k_then, k_or, k_name, k_one_of, k_many, k_optional, k_past, k_separated, k_listed, k_lined}
use Rattle.setl_show_laws.proofs.LegalExpressions.{Good, GoodIter, GoodSelector, GoodPattern, op_word, selector_round, selector_braces, pattern_keeps, iters_keeps, nested_keeps, expr_keeps}

-- ---- what has legal tokens

abbrev pub GoodKind : StmtKind → Type 0
GoodKind y = (line : ℕ) → AreLegal (kind_tokens y line)

abbrev pub GoodStmt : Stmt → Type 0
GoodStmt y = AreLegal (stmt_tokens y)

abbrev pub GoodBranch : Branch → Type 0
GoodBranch y = AreLegal (branch_tokens y)

record GoodPlace (p : Place) : Type 0 where
  pub at : (line : ℕ) {rest : Tokens} → AreLegal rest → AreLegal (place_tokens line p ++ rest)

from_spelled : (w : FromEnd) → IsSpelled (from_kind w)
from_spelled fr.From = tt
from_spelled _ = tt

place_legal : (p : Place) → IsNameText p.name → Each GoodSelector p.selectors → GoodPlace p
place_legal p h gs = record { at = λ line r. named_at line h (both (all_legal selector_tokens p.selectors gs) r) }

pub ends : (kind : Kind) → IsSpelled kind → AreLegal (ending_tokens kind)
ends kind h = word k.End tt (word kind h (word k.Semicolon tt none))

pub exprs_legal : (xs : List Expr) → Each Good xs → AreLegal (in_round (map expr_tokens xs))
exprs_legal xs h = word k.LeftParen tt (both (commas expr_tokens xs h) (word k.RightParen tt (word k.Semicolon tt none)))

names_good : (xs : List (List ℕ)) → Each IsNameText xs → Each (λ x. AreLegal (single x)) xs
names_good [] h = tt
names_good (x ∷ xs) h = (named h.0 none, names_good xs h.1)

names_legal : (xs : List (List ℕ)) → Each IsNameText xs → AreLegal (in_round (map single xs))
names_legal xs h = word k.LeftParen tt (both (commas single xs (names_good xs h)) (word k.RightParen tt (word k.Semicolon tt none)))

value_legal : {toks : Tokens} → AreLegal toks → AreLegal (sign k.Assign ∷ (toks ++ sign k.Semicolon ∷ []))
value_legal g = word k.Assign tt (both g (word k.Semicolon tt none))

elseifs_legal : (xs : List Branch) → Each GoodBranch xs → AreLegal (elseif_tokens (map branch_tokens xs))
elseifs_legal [] h = none
elseifs_legal (x ∷ xs) h = word k.Elseif tt (both h.0 (elseifs_legal xs h.1))

bar_legal : (c : Option Expr) → Maybe Good c → AreLegal (bar_tokens c)
bar_legal None h = none
bar_legal (Some c) h = word k.Bar tt h

result_legal : (x : Option Expr) → Maybe Good x → AreLegal (result_tokens x)
result_legal None h = none
result_legal (Some x) h = h

body_legal : (xs : List Stmt) → Each GoodStmt xs → AreLegal (all_of (map stmt_tokens xs))
body_legal xs h = all_legal stmt_tokens xs h

-- ---- each form

from_kind_tokens : (y : StmtKind) (f : ℕ → Tokens) → kind_tokens y ≡ f → ((line : ℕ) → AreLegal (f line)) → GoodKind y
from_kind_tokens y f h p = subst (λ (f : ℕ → Tokens). (line : ℕ) → AreLegal (f line)) (sym h) p

stmt_legal : (line : ℕ) (kind : StmtKind) → GoodKind kind → GoodStmt (roll-Stmt (record { line = line; kind = kind }))
stmt_legal line kind g = subst AreLegal (sym (fold-roll-Stmt (ℕ → Tokens) Tokens Tokens kind_step branch_step stmt_step (record { line = line; kind = kind }))) (g line)

branch_legal : (c : Expr) (body : List Stmt) → Good c → Each GoodStmt body → GoodBranch (roll-Branch (record { condition = c; body = body }))
branch_legal c body g gs = subst AreLegal (sym (fold-roll-Branch (ℕ → Tokens) Tokens Tokens kind_step branch_step stmt_step (record { condition = c; body = body }))) (both g (word k.Then tt (body_legal body gs)))

is_assign : (p : Place) (x : Expr) → GoodPlace p → Good x → GoodKind (st.Assign p x)
is_assign p x gp g = from_kind_tokens (st.Assign p x) _ (ap kind_tokens (sym (st.rolls-Assign p x)) ∙ fold-roll-StmtKind (ℕ → Tokens) Tokens Tokens kind_step branch_step stmt_step (StmtKind-F.Assign p x)) (λ line. gp.at line (value_legal g))

is_update : (p : Place) (o : BinaryOp) (x : Expr) → GoodPlace p → Good x → GoodKind (st.Update p o x)
is_update p o x gp g = from_kind_tokens (st.Update p o x) _ (ap kind_tokens (sym (st.rolls-Update p o x)) ∙ fold-roll-StmtKind (ℕ → Tokens) Tokens Tokens kind_step branch_step stmt_step (StmtKind-F.Update p o x)) (λ line. gp.at line (op_word o (value_legal g)))

is_tupleassign : (slots : List Slot) (x : Expr) → AreLegal (with_commas (map slot_tokens slots)) → Good x → GoodKind (st.TupleAssign slots x)
is_tupleassign slots x gs g = from_kind_tokens (st.TupleAssign slots x) _ (ap kind_tokens (sym (st.rolls-TupleAssign slots x)) ∙ fold-roll-StmtKind (ℕ → Tokens) Tokens Tokens kind_step branch_step stmt_step (StmtKind-F.TupleAssign slots x)) (λ line. word_at line k.LeftBracket tt (both gs (word k.RightBracket tt (value_legal g))))

is_take : (x : List ℕ) (w : FromEnd) (p : Place) → IsNameText x → GoodPlace p → GoodKind (st.Take x w p)
is_take x w p h gp = from_kind_tokens (st.Take x w p) _ (ap kind_tokens (sym (st.rolls-Take x w p)) ∙ fold-roll-StmtKind (ℕ → Tokens) Tokens Tokens kind_step branch_step stmt_step (StmtKind-F.Take x w p)) (λ line. named_at line h (word (from_kind w) (from_spelled w) (gp.at 0 (word k.Semicolon tt none))))

is_call : (f : List ℕ) (xs : List Expr) → IsNameText f → Each Good xs → GoodKind (st.Call f xs)
is_call f xs h gs = from_kind_tokens (st.Call f xs) _ (ap kind_tokens (sym (st.rolls-Call f xs)) ∙ fold-roll-StmtKind (ℕ → Tokens) Tokens Tokens kind_step branch_step stmt_step (StmtKind-F.Call f xs)) (λ line. named_at line h (exprs_legal xs gs))

is_if : (first : Branch) (others : List Branch) (last : Option (List Stmt)) → GoodBranch first → Each GoodBranch others → Maybe (Each GoodStmt) last → GoodKind (st.If first others last)
is_if first others None gf gs gl = from_kind_tokens (st.If first others None) _ (ap kind_tokens (sym (st.rolls-If first others None)) ∙ fold-roll-StmtKind (ℕ → Tokens) Tokens Tokens kind_step branch_step stmt_step (StmtKind-F.If first others None)) (λ line. word_at line k.If tt (both gf (both (elseifs_legal others gs) (both none (ends k.If tt)))))
is_if first others (Some body) gf gs gl = from_kind_tokens (st.If first others (Some body)) _ (ap kind_tokens (sym (st.rolls-If first others (Some body))) ∙ fold-roll-StmtKind (ℕ → Tokens) Tokens Tokens kind_step branch_step stmt_step (StmtKind-F.If first others (Some body))) (λ line. word_at line k.If tt (both gf (both (elseifs_legal others gs) (both (word k.Else tt (body_legal body gl)) (ends k.If tt)))))

is_for : (over : List Iter) (c : Option Expr) (body : List Stmt) → Each GoodIter over → Maybe Good c → Each GoodStmt body → GoodKind (st.For over c body)
is_for over c body gs gc gb = from_kind_tokens (st.For over c body) _ (ap kind_tokens (sym (st.rolls-For over c body)) ∙ fold-roll-StmtKind (ℕ → Tokens) Tokens Tokens kind_step branch_step stmt_step (StmtKind-F.For over c body)) (λ line. word_at line k.LeftParen tt (word k.For tt (both (commas iter_tokens over gs) (both (bar_legal c gc) (word k.RightParen tt (both (body_legal body gb) (ends k.For tt)))))))

is_while : (c : Expr) (body : List Stmt) → Good c → Each GoodStmt body → GoodKind (st.While c body)
is_while c body g gb = from_kind_tokens (st.While c body) _ (ap kind_tokens (sym (st.rolls-While c body)) ∙ fold-roll-StmtKind (ℕ → Tokens) Tokens Tokens kind_step branch_step stmt_step (StmtKind-F.While c body)) (λ line. word_at line k.LeftParen tt (word k.While tt (both g (word k.RightParen tt (both (body_legal body gb) (ends k.While tt))))))

is_quit : GoodKind st.Quit
is_quit = from_kind_tokens st.Quit _ (ap kind_tokens (sym st.rolls-Quit) ∙ fold-roll-StmtKind (ℕ → Tokens) Tokens Tokens kind_step branch_step stmt_step StmtKind-F.Quit) (λ line. word_at line k.Quit tt (word k.Semicolon tt none))

is_continue : GoodKind st.Continue
is_continue = from_kind_tokens st.Continue _ (ap kind_tokens (sym st.rolls-Continue) ∙ fold-roll-StmtKind (ℕ → Tokens) Tokens Tokens kind_step branch_step stmt_step StmtKind-F.Continue) (λ line. word_at line k.Continue tt (word k.Semicolon tt none))

is_fail : GoodKind st.Fail
is_fail = from_kind_tokens st.Fail _ (ap kind_tokens (sym st.rolls-Fail) ∙ fold-roll-StmtKind (ℕ → Tokens) Tokens Tokens kind_step branch_step stmt_step StmtKind-F.Fail) (λ line. word_at line k.Fail tt (word k.Semicolon tt none))

is_succeed : GoodKind st.Succeed
is_succeed = from_kind_tokens st.Succeed _ (ap kind_tokens (sym st.rolls-Succeed) ∙ fold-roll-StmtKind (ℕ → Tokens) Tokens Tokens kind_step branch_step stmt_step StmtKind-F.Succeed) (λ line. word_at line k.Succeed tt (word k.Semicolon tt none))

is_stop : GoodKind st.Stop
is_stop = from_kind_tokens st.Stop _ (ap kind_tokens (sym st.rolls-Stop) ∙ fold-roll-StmtKind (ℕ → Tokens) Tokens Tokens kind_step branch_step stmt_step StmtKind-F.Stop) (λ line. word_at line k.Stop tt (word k.Semicolon tt none))

is_pass : GoodKind st.Pass
is_pass = from_kind_tokens st.Pass _ (ap kind_tokens (sym st.rolls-Pass) ∙ fold-roll-StmtKind (ℕ → Tokens) Tokens Tokens kind_step branch_step stmt_step StmtKind-F.Pass) (λ line. word_at line k.Pass tt (word k.Semicolon tt none))

is_return : (x : Option Expr) → Maybe Good x → GoodKind (st.Return x)
is_return x g = from_kind_tokens (st.Return x) _ (ap kind_tokens (sym (st.rolls-Return x)) ∙ fold-roll-StmtKind (ℕ → Tokens) Tokens Tokens kind_step branch_step stmt_step (StmtKind-F.Return x)) (λ line. word_at line k.Return tt (both (result_legal x g) (word k.Semicolon tt none)))

is_print : (xs : List Expr) → Each Good xs → GoodKind (st.Print xs)
is_print xs gs = from_kind_tokens (st.Print xs) _ (ap kind_tokens (sym (st.rolls-Print xs)) ∙ fold-roll-StmtKind (ℕ → Tokens) Tokens Tokens kind_step branch_step stmt_step (StmtKind-F.Print xs)) (λ line. word_at line k.Print tt (exprs_legal xs gs))

is_read : (xs : List (List ℕ)) → Each IsNameText xs → GoodKind (st.Read xs)
is_read xs hs = from_kind_tokens (st.Read xs) _ (ap kind_tokens (sym (st.rolls-Read xs)) ∙ fold-roll-StmtKind (ℕ → Tokens) Tokens Tokens kind_step branch_step stmt_step (StmtKind-F.Read xs)) (λ line. word_at line k.Read tt (names_legal xs hs))

simple_legal : (kind : Kind) → Maybe GoodKind (simple kind)
unfolding simple
simple_legal k.Quit = is_quit
simple_legal k.Continue = is_continue
simple_legal k.Fail = is_fail
simple_legal k.Succeed = is_succeed
simple_legal k.Stop = is_stop
simple_legal k.Pass = is_pass
simple_legal _ = tt

-- ---- the grammar

slots_inside : (slots : List Slot) → GoodPattern slots → AreLegal (with_commas (map slot_tokens slots))
slots_inside slots h = front_of (with_commas (map slot_tokens slots)) (sign k.RightBracket ∷ []) (back_of (sign k.LeftBracket ∷ []) (with_commas (map slot_tokens slots) ++ sign k.RightBracket ∷ []) h)

module _ (room : ℕ) where
  deep_expr : Keeps (nested room).expr Good
  deep_expr = (nested_keeps room).0

  place_selector_keeps : Keeps (g.place_selector room) GoodSelector
  unfolding g.place_selector
  place_selector_keeps = k_or (k_past (k_then (k_separated deep_expr) (λ xs h. k_past (k_pure (selector_round xs h))))) (k_past (k_then (k_separated deep_expr) (λ xs h. k_past (k_pure (selector_braces xs h)))))

  place_keeps : Keeps (g.place room) GoodPlace
  unfolding g.place
  place_keeps = k_then k_name (λ n h. k_then (k_many place_selector_keeps) (λ ss gs. k_pure (place_legal (record { name = n; selectors = ss }) h gs)))

  module _ (deep : Lang (List Stmt)) (k_deep : Keeps deep (Each GoodStmt)) where
    branch_keeps : Keeps (g.branch room deep) GoodBranch
    unfolding g.branch
    branch_keeps = k_then deep_expr (λ c gc. k_past (k_then k_deep (λ body gb. k_pure (branch_legal c body gc gb))))

    kind_keeps : Keeps (g.stmt_kind room deep) GoodKind
    unfolding g.stmt_kind
    kind_keeps = k_or (k_then place_keeps (λ p gp. k_past (k_then (expr_keeps room) (λ x gx. k_past (k_pure (is_assign p x gp gx))))))
        (k_or (k_then place_keeps (λ p gp. k_then k_any (λ o _. k_past (k_then (expr_keeps room) (λ x gx. k_past (k_pure (is_update p o x gp gx)))))))
        (k_or (k_then (pattern_keeps room) (λ slots gs. k_past (k_then (expr_keeps room) (λ x gx. k_past (k_pure (is_tupleassign slots x (slots_inside slots gs) gx))))))
        (k_or (k_then k_name (λ x h. k_then k_any (λ w _. k_then place_keeps (λ p gp. k_past (k_pure (is_take x w p h gp))))))
        (k_or (k_then k_name (λ f h. k_past (k_then (k_listed deep_expr) (λ xs gs. k_past (k_past (k_pure (is_call f xs h gs)))))))
        (k_or (k_past (k_then branch_keeps (λ first gf. k_then (k_many (k_past branch_keeps)) (λ others gs. k_then (k_optional (k_past k_deep)) (λ last gl. k_past (k_pure (is_if first others last gf gs gl)))))))
        (k_or (k_past (k_past (k_then (iters_keeps (room - 1) (nested room).source (nested_keeps room).1) (λ over gs. k_then (k_optional (k_past deep_expr)) (λ c gc. k_past (k_then k_deep (λ body gb. k_past (k_pure (is_for over c body gs gc gb)))))))))
        (k_or (k_past (k_past (k_then deep_expr (λ c gc. k_past (k_then k_deep (λ body gb. k_past (k_pure (is_while c body gc gb))))))))
        (k_or (k_then (k_one_of simple simple_legal) (λ s gs. k_past (k_pure gs)))
        (k_or (k_past (k_then (k_optional (expr_keeps room)) (λ x gx. k_past (k_pure (is_return x gx)))))
        (k_or (k_past (k_past (k_then (k_listed deep_expr) (λ xs gs. k_past (k_past (k_pure (is_print xs gs)))))))
        (k_past (k_past (k_then (k_separated k_name) (λ xs hs. k_past (k_past (k_pure (is_read xs hs)))))))))))))))))

    stmt_keeps : Keeps (g.stmt room deep) GoodStmt
    unfolding g.stmt
    stmt_keeps = k_then (k_lined kind_keeps) (λ s gs. k_pure (stmt_legal s.0 s.1 gs))

-- statements that stand one nesting deeper
nested_stmts_keeps : (room : ℕ) → Keeps (g.nested_stmts room) (Each GoodStmt)
unfolding g.nested_stmts
nested_stmts_keeps zero = k_never
nested_stmts_keeps (suc room) = k_many (stmt_keeps room (g.nested_stmts room) (nested_stmts_keeps room))

pub stmts_keeps : (room : ℕ) → Keeps (g.stmts room) (Each GoodStmt)
unfolding g.stmts
stmts_keeps room = k_many (stmt_keeps room (g.nested_stmts room) (nested_stmts_keeps room))
