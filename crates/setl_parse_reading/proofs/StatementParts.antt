-- The canonical tokens of each form of statement.
use Rattle.std.proofs.Common.{◌≡◌, ℕ, List, [], ◌∷◌, ◌++◌, map, Option, Some, None, sym, ap, ◌∙◌}
use Rattle.setl_tree.specs.declared.kind.Kind.TheVariants as k
use Rattle.setl_tree.specs.declared.expr.BinaryOp.{BinaryOp}
use Rattle.setl_tree.specs.declared.expr.Expr.{Expr}
use Rattle.setl_tree.specs.declared.expr.Iter.{Iter}
use Rattle.setl_tree.specs.declared.expr.Slot.{Slot}
use Rattle.setl_tree.specs.declared.stmt.Place.{Place}
use Rattle.setl_tree.specs.declared.stmt.FromEnd.{FromEnd}
use Rattle.setl_tree.specs.declared.stmt.Branch.{Branch, roll-Branch, fold-Branch, fold-roll-Branch}
use Rattle.setl_tree.specs.declared.stmt.Stmt.{Stmt, roll-Stmt, fold-roll-Stmt}
use Rattle.setl_tree.specs.declared.stmt.StmtKind.{StmtKind, fold-StmtKind, fold-roll-StmtKind}
use Rattle.setl_tree.specs.declared.stmt.StmtKind.TheVariants as st
use Rattle.setl_tree.specs.declared.stmt.StmtKind.TheOpen.{StmtKind-F}
use Rattle.setl_tree.specs.Tokens.{Tokens}
use Rattle.setl_tree.specs.Canonical.{sign_at, sign, name_at, with_commas, all_of, op_kind, from_kind, place_tokens, expr_tokens, iter_tokens, in_round, elseif_tokens, ending_tokens, bar_tokens, result_tokens, single, slots_tokens, kind_step, branch_step, stmt_step, stmt_tokens}

abbrev pub kind_tokens : StmtKind → ℕ → Tokens
kind_tokens = fold-StmtKind (ℕ → Tokens) Tokens Tokens kind_step branch_step stmt_step

abbrev pub branch_tokens : Branch → Tokens
branch_tokens = fold-Branch (ℕ → Tokens) Tokens Tokens kind_step branch_step stmt_step

abbrev pub body_tokens : List Stmt → Tokens
body_tokens xs = all_of (map stmt_tokens xs)

abbrev pub else_body : Option (List Stmt) → Tokens
else_body None = []
else_body (Some xs) = sign k.Else ∷ body_tokens xs

pub stmt_is : (line : ℕ) (kind : StmtKind) → stmt_tokens (roll-Stmt (record { line = line; kind = kind })) ≡ kind_tokens kind line
stmt_is line kind = fold-roll-Stmt (ℕ → Tokens) Tokens Tokens kind_step branch_step stmt_step (record { line = line; kind = kind })

pub branch_is : (c : Expr) (body : List Stmt) → branch_tokens (roll-Branch (record { condition = c; body = body })) ≡ expr_tokens c ++ sign k.Then ∷ body_tokens body
branch_is c body = fold-roll-Branch (ℕ → Tokens) Tokens Tokens kind_step branch_step stmt_step (record { condition = c; body = body })

abbrev at_line : {f g : ℕ → Tokens} → f ≡ g → (line : ℕ) → f line ≡ g line
at_line h line = ap (λ (f : ℕ → Tokens). f line) h

pub assign : (p : Place) (x : Expr) (line : ℕ) → kind_tokens (st.Assign p x) line ≡ place_tokens line p ++ sign k.Assign ∷ (expr_tokens x ++ sign k.Semicolon ∷ [])
assign p x line = at_line (ap kind_tokens (sym (st.rolls-Assign p x)) ∙ fold-roll-StmtKind (ℕ → Tokens) Tokens Tokens kind_step branch_step stmt_step (StmtKind-F.Assign p x)) line

pub update : (p : Place) (o : BinaryOp) (x : Expr) (line : ℕ) → kind_tokens (st.Update p o x) line ≡ place_tokens line p ++ sign (op_kind o) ∷ sign k.Assign ∷ (expr_tokens x ++ sign k.Semicolon ∷ [])
update p o x line = at_line (ap kind_tokens (sym (st.rolls-Update p o x)) ∙ fold-roll-StmtKind (ℕ → Tokens) Tokens Tokens kind_step branch_step stmt_step (StmtKind-F.Update p o x)) line

pub tuple : (slots : List Slot) (x : Expr) (line : ℕ) → kind_tokens (st.TupleAssign slots x) line ≡ sign_at line k.LeftBracket ∷ (with_commas (slots_tokens slots) ++ sign k.RightBracket ∷ sign k.Assign ∷ (expr_tokens x ++ sign k.Semicolon ∷ []))
tuple slots x line = at_line (ap kind_tokens (sym (st.rolls-TupleAssign slots x)) ∙ fold-roll-StmtKind (ℕ → Tokens) Tokens Tokens kind_step branch_step stmt_step (StmtKind-F.TupleAssign slots x)) line

pub take_ : (x : List ℕ) (w : FromEnd) (p : Place) (line : ℕ) → kind_tokens (st.Take x w p) line ≡ name_at line x ∷ sign (from_kind w) ∷ (place_tokens 0 p ++ sign k.Semicolon ∷ [])
take_ x w p line = at_line (ap kind_tokens (sym (st.rolls-Take x w p)) ∙ fold-roll-StmtKind (ℕ → Tokens) Tokens Tokens kind_step branch_step stmt_step (StmtKind-F.Take x w p)) line

pub call : (f : List ℕ) (xs : List Expr) (line : ℕ) → kind_tokens (st.Call f xs) line ≡ name_at line f ∷ in_round (map expr_tokens xs)
call f xs line = at_line (ap kind_tokens (sym (st.rolls-Call f xs)) ∙ fold-roll-StmtKind (ℕ → Tokens) Tokens Tokens kind_step branch_step stmt_step (StmtKind-F.Call f xs)) line

pub while_ : (c : Expr) (body : List Stmt) (line : ℕ) → kind_tokens (st.While c body) line ≡ sign_at line k.LeftParen ∷ sign k.While ∷ (expr_tokens c ++ sign k.RightParen ∷ (body_tokens body ++ ending_tokens k.While))
while_ c body line = at_line (ap kind_tokens (sym (st.rolls-While c body)) ∙ fold-roll-StmtKind (ℕ → Tokens) Tokens Tokens kind_step branch_step stmt_step (StmtKind-F.While c body)) line

pub for_ : (over : List Iter) (c : Option Expr) (body : List Stmt) (line : ℕ) → kind_tokens (st.For over c body) line ≡ sign_at line k.LeftParen ∷ sign k.For ∷ (with_commas (map iter_tokens over) ++ (bar_tokens c ++ sign k.RightParen ∷ (body_tokens body ++ ending_tokens k.For)))
for_ over c body line = at_line (ap kind_tokens (sym (st.rolls-For over c body)) ∙ fold-roll-StmtKind (ℕ → Tokens) Tokens Tokens kind_step branch_step stmt_step (StmtKind-F.For over c body)) line

pub quit_ : (line : ℕ) → kind_tokens st.Quit line ≡ sign_at line k.Quit ∷ sign k.Semicolon ∷ []
quit_ line = at_line (ap kind_tokens (sym st.rolls-Quit) ∙ fold-roll-StmtKind (ℕ → Tokens) Tokens Tokens kind_step branch_step stmt_step StmtKind-F.Quit) line

pub continue_ : (line : ℕ) → kind_tokens st.Continue line ≡ sign_at line k.Continue ∷ sign k.Semicolon ∷ []
continue_ line = at_line (ap kind_tokens (sym st.rolls-Continue) ∙ fold-roll-StmtKind (ℕ → Tokens) Tokens Tokens kind_step branch_step stmt_step StmtKind-F.Continue) line

pub fail_ : (line : ℕ) → kind_tokens st.Fail line ≡ sign_at line k.Fail ∷ sign k.Semicolon ∷ []
fail_ line = at_line (ap kind_tokens (sym st.rolls-Fail) ∙ fold-roll-StmtKind (ℕ → Tokens) Tokens Tokens kind_step branch_step stmt_step StmtKind-F.Fail) line

pub succeed_ : (line : ℕ) → kind_tokens st.Succeed line ≡ sign_at line k.Succeed ∷ sign k.Semicolon ∷ []
succeed_ line = at_line (ap kind_tokens (sym st.rolls-Succeed) ∙ fold-roll-StmtKind (ℕ → Tokens) Tokens Tokens kind_step branch_step stmt_step StmtKind-F.Succeed) line

pub stop_ : (line : ℕ) → kind_tokens st.Stop line ≡ sign_at line k.Stop ∷ sign k.Semicolon ∷ []
stop_ line = at_line (ap kind_tokens (sym st.rolls-Stop) ∙ fold-roll-StmtKind (ℕ → Tokens) Tokens Tokens kind_step branch_step stmt_step StmtKind-F.Stop) line

pub pass_ : (line : ℕ) → kind_tokens st.Pass line ≡ sign_at line k.Pass ∷ sign k.Semicolon ∷ []
pass_ line = at_line (ap kind_tokens (sym st.rolls-Pass) ∙ fold-roll-StmtKind (ℕ → Tokens) Tokens Tokens kind_step branch_step stmt_step StmtKind-F.Pass) line

pub return_ : (x : Option Expr) (line : ℕ) → kind_tokens (st.Return x) line ≡ sign_at line k.Return ∷ (result_tokens x ++ sign k.Semicolon ∷ [])
return_ x line = at_line (ap kind_tokens (sym (st.rolls-Return x)) ∙ fold-roll-StmtKind (ℕ → Tokens) Tokens Tokens kind_step branch_step stmt_step (StmtKind-F.Return x)) line

pub print_ : (xs : List Expr) (line : ℕ) → kind_tokens (st.Print xs) line ≡ sign_at line k.Print ∷ in_round (map expr_tokens xs)
print_ xs line = at_line (ap kind_tokens (sym (st.rolls-Print xs)) ∙ fold-roll-StmtKind (ℕ → Tokens) Tokens Tokens kind_step branch_step stmt_step (StmtKind-F.Print xs)) line

pub read_ : (xs : List (List ℕ)) (line : ℕ) → kind_tokens (st.Read xs) line ≡ sign_at line k.Read ∷ in_round (map single xs)
read_ xs line = at_line (ap kind_tokens (sym (st.rolls-Read xs)) ∙ fold-roll-StmtKind (ℕ → Tokens) Tokens Tokens kind_step branch_step stmt_step (StmtKind-F.Read xs)) line

pub if_ : (first : Branch) (others : List Branch) (last : Option (List Stmt)) (line : ℕ) → kind_tokens (st.If first others last) line
    ≡ sign_at line k.If ∷ (branch_tokens first ++ (elseif_tokens (map branch_tokens others) ++ (else_body last ++ ending_tokens k.If)))
if_ first others None line = at_line (ap kind_tokens (sym (st.rolls-If first others None)) ∙ fold-roll-StmtKind (ℕ → Tokens) Tokens Tokens kind_step branch_step stmt_step (StmtKind-F.If first others None)) line
if_ first others (Some body) line = at_line (ap kind_tokens (sym (st.rolls-If first others (Some body))) ∙ fold-roll-StmtKind (ℕ → Tokens) Tokens Tokens kind_step branch_step stmt_step (StmtKind-F.If first others (Some body))) line
