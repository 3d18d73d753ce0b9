-- The canonical tokens of a statement derive it.
use Rattle.std.proofs.Common.{◌≡◌, ℕ, zero, suc, ◌+◌, ◌-◌, ◌≤◌, List, [], ◌∷◌, ◌++◌, map, Option, Some, None, append_assoc, refl, sym, ap, subst, ◌∙◌, arith, inl, inr}
use Rattle.setl_tree.specs.declared.kind.Kind.{Kind}
use Rattle.setl_tree.specs.declared.kind.Kind.TheVariants as k
use Rattle.setl_tree.specs.declared.expr.BinaryOp.{BinaryOp}
use Rattle.setl_tree.specs.declared.expr.Slot.{Slot}
use Rattle.setl_tree.specs.declared.expr.Iter.{Iter}
use Rattle.setl_tree.specs.declared.expr.Expr.{Expr}
use Rattle.setl_tree.specs.declared.expr.Selector.{Selector}
use Rattle.setl_tree.specs.declared.expr.Selector.TheVariants as se
use Rattle.setl_tree.specs.declared.stmt.Place.{Place}
use Rattle.setl_tree.specs.declared.stmt.FromEnd.{FromEnd}
use Rattle.setl_tree.specs.declared.stmt.Branch.{Branch, roll-Branch}
use Rattle.setl_tree.specs.declared.stmt.Stmt.{Stmt, roll-Stmt}
use Rattle.setl_tree.specs.declared.stmt.StmtKind.{StmtKind}
use Rattle.setl_tree.specs.declared.stmt.StmtKind.TheVariants as st
use Rattle.setl_tree.specs.Tokens.{Tokens}
use Rattle.setl_tree.specs.Lang.{Lang, Then, line_of}
use Rattle.setl_tree.specs.Lang as lang
use Rattle.setl_tree.specs.Operators.{update_op}
use Rattle.setl_tree.specs.Expressions as x
use Rattle.setl_tree.specs.Statements as s
use Rattle.setl_tree.specs.Statements.{from_word, simple}
use Rattle.setl_tree.specs.Canonical.{sign_at, sign, name_at, bracketed, with_commas, all_of, op_kind, from_kind, slots_tokens, slot_tokens, place_tokens, expr_tokens, iter_tokens, selector_tokens, in_round, elseif_tokens, ending_tokens, bar_tokens, result_tokens, single, stmt_tokens}
use Rattle.setl_parse_reading.specs.code.Reading.{same_kind}
use Rattle.setl_parse_reading.proofs.EveryKind.{kinds}
use Rattle.setl_parse_reading.proofs.Building.{last, some_is, Spells, seq, then_token, then_name, then_opening, then_one_of, then_some, ends, outside, AllOf, OfSome, from_many, from_optional, from_separated, from_listed, spells_many, spells_several, spells_listed, all_to, several_to}
use Rattle.setl_parse_reading.proofs.ShownParts as parts
use Rattle.setl_parse_reading.proofs.StatementParts as forms
use Rattle.setl_parse_reading.proofs.StatementParts.{kind_tokens, branch_tokens, body_tokens, else_body}
use Rattle.setl_parse_reading.proofs.CanonicalExpressions.{Canon, whole_of, means_back}
use Rattle.setl_parse_reading.proofs.CanonicalInners.{slot_spells, iters_l, iters_good, exprs_good}
use Rattle.setl_parse_reading.proofs.CanonicalLevels.{expr_canon, deep_canon, deep_source_canon}

less_one : (m : ℕ) → m ≡ suc m - 1
less_one m = omega arith

pub outer : {A : Type 0} (L : ℕ → Tokens → A → Type 0) (toks : Tokens) (a : A) (n : ℕ) → ((m : ℕ) → n ≤ m → L (suc m) toks a) → Spells L toks a
outer L toks a n go = record { from = suc n; at = outside (λ room. L room toks a) n go }

pub ending_good : (word : Kind) → s.ending word (ending_tokens word) (sign k.Semicolon)
unfolding s.ending
ending_good word = then_token (sign k.End) (sign word ∷ sign k.Semicolon ∷ []) refl
    (then_some (sign word ∷ []) (sign k.Semicolon ∷ []) (sign word) (record { alone = refl; kind = refl }) (record { alone = refl; kind = refl }))

-- ---- places

round_at : (m : ℕ) (xs : List Expr) (toks : Tokens) → lang.separated (x.expr m) toks xs → s.place_selector (suc m) (bracketed k.LeftParen toks k.RightParen) (se.Round xs)
unfolding s.place_selector x.nested x.expr
round_at m xs toks h = inl (then_opening m (sign k.LeftParen) (toks ++ sign k.RightParen ∷ []) refl (seq toks (sign k.RightParen ∷ []) xs h (then_token (sign k.RightParen) [] refl ends)))

braces_at : (m : ℕ) (xs : List Expr) (toks : Tokens) → lang.separated (x.expr m) toks xs → s.place_selector (suc m) (bracketed k.LeftBrace toks k.RightBrace) (se.Braces xs)
unfolding s.place_selector x.nested x.expr
braces_at m xs toks h = inr (then_opening m (sign k.LeftBrace) (toks ++ sign k.RightBrace ∷ []) refl (seq toks (sign k.RightBrace ∷ []) xs h (then_token (sign k.RightBrace) [] refl ends)))

selector_is : (i j : Selector) (toks : Tokens) → j ≡ i → selector_tokens j ≡ toks → Spells s.place_selector toks j → Spells s.place_selector (selector_tokens i) i
selector_is i j toks same tokens h = subst (λ (z : Selector). Spells s.place_selector (selector_tokens z) z) same (subst (λ (t : Tokens). Spells s.place_selector t j) (sym tokens) h)

place_selector_good : (room : ℕ) (toks : Tokens) (z : Selector) → s.place_selector room toks z → Spells s.place_selector (selector_tokens z) z
unfolding s.place_selector
place_selector_good room toks z (inl h) =
    let xs = h.second in
    let list = spells_several expr_tokens x.expr xs.value (several_to whole_of (from_separated (x.nested room).expr Canon (deep_canon room) xs.front xs.value xs.first)) in
    selector_is z (se.Round xs.value) (bracketed k.LeftParen (with_commas (map expr_tokens xs.value)) k.RightParen) xs.second.second.1 (parts.selector_round xs.value)
    (outer s.place_selector (bracketed k.LeftParen (with_commas (map expr_tokens xs.value)) k.RightParen) (se.Round xs.value) list.from (λ m le. round_at m xs.value (with_commas (map expr_tokens xs.value)) (list.at m le)))
place_selector_good room toks z (inr h) =
    let xs = h.second in
    let list = spells_several expr_tokens x.expr xs.value (several_to whole_of (from_separated (x.nested room).expr Canon (deep_canon room) xs.front xs.value xs.first)) in
    selector_is z (se.Braces xs.value) (bracketed k.LeftBrace (with_commas (map expr_tokens xs.value)) k.RightBrace) xs.second.second.1 (parts.selector_braces xs.value)
    (outer s.place_selector (bracketed k.LeftBrace (with_commas (map expr_tokens xs.value)) k.RightBrace) (se.Braces xs.value) list.from (λ m le. braces_at m xs.value (with_commas (map expr_tokens xs.value)) (list.at m le)))

abbrev PlaceGood : Place → Type 0
PlaceGood p = (line : ℕ) → Spells s.place (place_tokens line p) p

place_at : (room line : ℕ) (y : List ℕ) (ss : List Selector) → lang.many (s.place_selector room) (all_of (map selector_tokens ss)) ss → s.place room (name_at line y ∷ all_of (map selector_tokens ss)) (record { name = y; selectors = ss })
unfolding s.place
place_at room line y ss h = then_name line y (all_of (map selector_tokens ss)) (last (λ ss. record { name = y; selectors = ss }) (all_of (map selector_tokens ss)) ss h)

place_good : (room : ℕ) (toks : Tokens) (p : Place) → s.place room toks p → PlaceGood p
unfolding s.place
place_good room toks p h =
    let ss = h.second in
    let list = spells_many selector_tokens s.place_selector ss.value (from_many (s.place_selector room) (λ z. Spells s.place_selector (selector_tokens z) z) (place_selector_good room) ss.front ss.value ss.first) in
    subst PlaceGood ss.second.1 (λ line. record { from = list.from; at = λ room le. place_at room line h.value ss.value (list.at room le) })

-- ---- statements

abbrev pub kind_l : ℕ → Tokens → StmtKind → Type 0
kind_l room = s.stmt_kind room (s.nested_stmts room)

abbrev pub stmt_l : ℕ → Tokens → Stmt → Type 0
stmt_l room = s.stmt room (s.nested_stmts room)

abbrev pub KindGood : StmtKind → Type 0
KindGood y = (line : ℕ) → Spells kind_l (kind_tokens y line) y × (line_of (kind_tokens y line) ≡ line)

abbrev pub StmtGood : Stmt → Type 0
StmtGood y = Spells stmt_l (stmt_tokens y) y

made : (y z : StmtKind) (toks : ℕ → Tokens) → y ≡ z → ((line : ℕ) → kind_tokens y line ≡ toks line) → ((line : ℕ) → line_of (toks line) ≡ line) → ((line : ℕ) → Spells kind_l (toks line) y) → KindGood z
made y z toks same tokens lines h = subst KindGood same (λ line. (subst (λ (t : Tokens). Spells kind_l t y) (sym (tokens line)) (h line), ap line_of (tokens line) ∙ lines line))

assign_at : (room line : ℕ) (p : Place) (y : Expr) → s.place room (place_tokens line p) p → x.expr room (expr_tokens y) y → kind_l room (place_tokens line p ++ sign k.Assign ∷ (expr_tokens y ++ sign k.Semicolon ∷ [])) (st.Assign p y)
unfolding s.stmt_kind
assign_at room line p y one two = inl (seq (place_tokens line p) (sign k.Assign ∷ (expr_tokens y ++ sign k.Semicolon ∷ [])) p one (then_token (sign k.Assign) (expr_tokens y ++ sign k.Semicolon ∷ []) refl
    (seq (expr_tokens y) (sign k.Semicolon ∷ []) y two (then_token (sign k.Semicolon) [] refl ends))))

update_at : (room line : ℕ) (p : Place) (o : BinaryOp) (y : Expr) → s.place room (place_tokens line p) p → update_op (op_kind o) ≡ Some o → x.expr room (expr_tokens y) y → kind_l room (place_tokens line p ++ sign (op_kind o) ∷ sign k.Assign ∷ (expr_tokens y ++ sign k.Semicolon ∷ [])) (st.Update p o y)
unfolding s.stmt_kind
update_at room line p o y one means two = inr (inl (seq (place_tokens line p) (sign (op_kind o) ∷ sign k.Assign ∷ (expr_tokens y ++ sign k.Semicolon ∷ [])) p one (then_one_of (sign (op_kind o)) (sign k.Assign ∷ (expr_tokens y ++ sign k.Semicolon ∷ [])) means
    (then_token (sign k.Assign) (expr_tokens y ++ sign k.Semicolon ∷ []) refl (seq (expr_tokens y) (sign k.Semicolon ∷ []) y two (then_token (sign k.Semicolon) [] refl ends))))))

tuple_at : (m line : ℕ) (slots : List Slot) (y : Expr) → lang.separated x.slot (with_commas (map slot_tokens slots)) slots → x.expr (suc m) (expr_tokens y) y
    → kind_l (suc m) (sign_at line k.LeftBracket ∷ (with_commas (slots_tokens slots) ++ sign k.RightBracket ∷ sign k.Assign ∷ (expr_tokens y ++ sign k.Semicolon ∷ []))) (st.TupleAssign slots y)
unfolding s.stmt_kind x.pattern
tuple_at m line slots y one two = inr (inr (inl (record {
  front = sign_at line k.LeftBracket ∷ (with_commas (map slot_tokens slots) ++ sign k.RightBracket ∷ []);
  back = sign k.Assign ∷ (expr_tokens y ++ sign k.Semicolon ∷ []);
  value = slots;
  parts = ap (λ (z : Tokens). sign_at line k.LeftBracket ∷ z) (sym (append_assoc (with_commas (map slot_tokens slots)) (sign k.RightBracket ∷ []) (sign k.Assign ∷ (expr_tokens y ++ sign k.Semicolon ∷ []))));
  first = then_opening m (sign_at line k.LeftBracket) (with_commas (map slot_tokens slots) ++ sign k.RightBracket ∷ []) refl (seq (with_commas (map slot_tokens slots)) (sign k.RightBracket ∷ []) slots one (then_token (sign k.RightBracket) [] refl ends));
  second = then_token (sign k.Assign) (expr_tokens y ++ sign k.Semicolon ∷ []) refl (seq (expr_tokens y) (sign k.Semicolon ∷ []) y two (then_token (sign k.Semicolon) [] refl ends));
})))

take_at : (room line : ℕ) (y : List ℕ) (w : FromEnd) (p : Place) → from_word (from_kind w) ≡ Some w → s.place room (place_tokens 0 p) p → kind_l room (name_at line y ∷ sign (from_kind w) ∷ (place_tokens 0 p ++ sign k.Semicolon ∷ [])) (st.Take y w p)
unfolding s.stmt_kind
take_at room line y w p means one = inr (inr (inr (inl (then_name line y (sign (from_kind w) ∷ (place_tokens 0 p ++ sign k.Semicolon ∷ [])) (then_one_of (sign (from_kind w)) (place_tokens 0 p ++ sign k.Semicolon ∷ []) means
    (seq (place_tokens 0 p) (sign k.Semicolon ∷ []) p one (then_token (sign k.Semicolon) [] refl ends)))))))

call_at : (m line : ℕ) (f : List ℕ) (xs : List Expr) → lang.listed (x.expr m) (with_commas (map expr_tokens xs)) xs → kind_l (suc m) (name_at line f ∷ in_round (map expr_tokens xs)) (st.Call f xs)
unfolding s.stmt_kind x.nested x.expr
call_at m line f xs one = inr (inr (inr (inr (inl (then_name line f (in_round (map expr_tokens xs)) (then_opening m (sign k.LeftParen) (with_commas (map expr_tokens xs) ++ sign k.RightParen ∷ sign k.Semicolon ∷ []) refl
    (seq (with_commas (map expr_tokens xs)) (sign k.RightParen ∷ sign k.Semicolon ∷ []) xs one (then_token (sign k.RightParen) (sign k.Semicolon ∷ []) refl (then_token (sign k.Semicolon) [] refl ends)))))))))

simple_at : (room line : ℕ) (kind : Kind) (y : StmtKind) → simple kind ≡ Some y → kind_l room (sign_at line kind ∷ sign k.Semicolon ∷ []) y
unfolding s.stmt_kind
simple_at room line kind y h = inr (inr (inr (inr (inr (inr (inr (inr (inl (then_one_of (sign_at line kind) (sign k.Semicolon ∷ []) h (then_token (sign k.Semicolon) [] refl ends))))))))))

return_at : (room line : ℕ) (y : Option Expr) → lang.optional (x.expr room) (result_tokens y) y → kind_l room (sign_at line k.Return ∷ (result_tokens y ++ sign k.Semicolon ∷ [])) (st.Return y)
unfolding s.stmt_kind
return_at room line y one = inr (inr (inr (inr (inr (inr (inr (inr (inr (inl (then_token (sign_at line k.Return) (result_tokens y ++ sign k.Semicolon ∷ []) refl (seq (result_tokens y) (sign k.Semicolon ∷ []) y one (then_token (sign k.Semicolon) [] refl ends))))))))))))

print_at : (m line : ℕ) (xs : List Expr) → lang.listed (x.expr m) (with_commas (map expr_tokens xs)) xs → kind_l (suc m) (sign_at line k.Print ∷ in_round (map expr_tokens xs)) (st.Print xs)
unfolding s.stmt_kind x.nested x.expr
print_at m line xs one = inr (inr (inr (inr (inr (inr (inr (inr (inr (inr (inl (then_token (sign_at line k.Print) (in_round (map expr_tokens xs)) refl (then_opening m (sign k.LeftParen) (with_commas (map expr_tokens xs) ++ sign k.RightParen ∷ sign k.Semicolon ∷ []) refl
    (seq (with_commas (map expr_tokens xs)) (sign k.RightParen ∷ sign k.Semicolon ∷ []) xs one (then_token (sign k.RightParen) (sign k.Semicolon ∷ []) refl (then_token (sign k.Semicolon) [] refl ends)))))))))))))))

read_at : (m line : ℕ) (xs : List (List ℕ)) → lang.separated lang.name (with_commas (map single xs)) xs → kind_l (suc m) (sign_at line k.Read ∷ in_round (map single xs)) (st.Read xs)
unfolding s.stmt_kind
read_at m line xs one = inr (inr (inr (inr (inr (inr (inr (inr (inr (inr (inr (then_token (sign_at line k.Read) (in_round (map single xs)) refl (then_opening m (sign k.LeftParen) (with_commas (map single xs) ++ sign k.RightParen ∷ sign k.Semicolon ∷ []) refl
    (seq (with_commas (map single xs)) (sign k.RightParen ∷ sign k.Semicolon ∷ []) xs one (then_token (sign k.RightParen) (sign k.Semicolon ∷ []) refl (then_token (sign k.Semicolon) [] refl ends)))))))))))))))

-- ---- statements with statements inside

abbrev BranchGood : Branch → Type 0
BranchGood b = Spells (λ m. s.branch (suc m) (s.nested_stmts (suc m))) (branch_tokens b) b

body_good : (xs : List Stmt) → AllOf StmtGood xs → Spells (λ m. s.nested_stmts (suc m)) (body_tokens xs) xs
unfolding s.nested_stmts
body_good xs all = let list = spells_many stmt_tokens stmt_l xs all in record { from = list.from; at = λ room le. list.at room le }

branch_at : (m : ℕ) (c : Expr) (body : List Stmt) → x.expr m (expr_tokens c) c → s.nested_stmts (suc m) (body_tokens body) body → s.branch (suc m) (s.nested_stmts (suc m)) (expr_tokens c ++ sign k.Then ∷ body_tokens body) (roll-Branch (record { condition = c; body = body }))
unfolding s.branch x.nested x.expr
branch_at m c body one two = seq (expr_tokens c) (sign k.Then ∷ body_tokens body) c one (then_token (sign k.Then) (body_tokens body) refl (last (λ body. roll-Branch (record { condition = c; body = body })) (body_tokens body) body two))

abbrev elseif_item : Branch → Tokens
elseif_item b = sign k.Elseif ∷ branch_tokens b

elseifs_are : (bs : List Branch) → elseif_tokens (map branch_tokens bs) ≡ all_of (map elseif_item bs)
elseifs_are [] = refl
elseifs_are (b ∷ bs) = ap (λ (z : Tokens). sign k.Elseif ∷ (branch_tokens b ++ z)) (elseifs_are bs)

abbrev elseif_l : ℕ → Tokens → Branch → Type 0
elseif_l m = Then (lang.token k.Elseif) (λ _. s.branch (suc m) (s.nested_stmts (suc m)))

elseif_good : (b : Branch) → BranchGood b → Spells elseif_l (elseif_item b) b
elseif_good b g = record { from = g.from; at = λ m le. then_token (sign k.Elseif) (branch_tokens b) refl (g.at m le) }

abbrev else_l : ℕ → Tokens → List Stmt → Type 0
else_l m = Then (lang.token k.Else) (λ _. s.nested_stmts (suc m))

else_good : (o : Option (List Stmt)) → OfSome (AllOf StmtGood) o → Spells (λ m. lang.optional (else_l m)) (else_body o) o
else_good None all = record { from = 0; at = λ m le. refl }
else_good (Some body) all = let g = body_good body all in record { from = g.from; at = λ m le. then_token (sign k.Else) (body_tokens body) refl (g.at m le) }

if_at : (m line : ℕ) (first : Branch) (others : List Branch) (rest : Option (List Stmt)) → s.branch (suc m) (s.nested_stmts (suc m)) (branch_tokens first) first → lang.many (elseif_l m) (elseif_tokens (map branch_tokens others)) others → lang.optional (else_l m) (else_body rest) rest
    → kind_l (suc m) (sign_at line k.If ∷ (branch_tokens first ++ (elseif_tokens (map branch_tokens others) ++ (else_body rest ++ ending_tokens k.If)))) (st.If first others rest)
unfolding s.stmt_kind
if_at m line first others rest one two three = inr (inr (inr (inr (inr (inl (then_opening m (sign_at line k.If) (branch_tokens first ++ (elseif_tokens (map branch_tokens others) ++ (else_body rest ++ ending_tokens k.If))) refl
    (seq (branch_tokens first) (elseif_tokens (map branch_tokens others) ++ (else_body rest ++ ending_tokens k.If)) first one (seq (elseif_tokens (map branch_tokens others)) (else_body rest ++ ending_tokens k.If) others two
    (seq (else_body rest) (ending_tokens k.If) rest three (seq (ending_tokens k.If) [] (sign k.Semicolon) (ending_good k.If) ends))))))))))

for_at : (m line : ℕ) (over : List Iter) (c : Option Expr) (body : List Stmt) → iters_l m (with_commas (map iter_tokens over)) over → lang.optional (Then (lang.token k.Bar) (λ _. x.expr m)) (bar_tokens c) c → s.nested_stmts (suc m) (body_tokens body) body
    → kind_l (suc m) (sign_at line k.LeftParen ∷ sign k.For ∷ (with_commas (map iter_tokens over) ++ (bar_tokens c ++ sign k.RightParen ∷ (body_tokens body ++ ending_tokens k.For)))) (st.For over c body)
unfolding s.stmt_kind x.nested x.expr x.source
for_at m line over c body one two three = inr (inr (inr (inr (inr (inr (inl (then_opening m (sign_at line k.LeftParen) (sign k.For ∷ (with_commas (map iter_tokens over) ++ (bar_tokens c ++ sign k.RightParen ∷ (body_tokens body ++ ending_tokens k.For)))) refl
    (then_token (sign k.For) (with_commas (map iter_tokens over) ++ (bar_tokens c ++ sign k.RightParen ∷ (body_tokens body ++ ending_tokens k.For))) refl
    (seq (with_commas (map iter_tokens over)) (bar_tokens c ++ sign k.RightParen ∷ (body_tokens body ++ ending_tokens k.For)) over (subst (λ (z : ℕ). x.iters z (x.e7 m (x.nested m)) (with_commas (map iter_tokens over)) over) (less_one m) one)
    (seq (bar_tokens c) (sign k.RightParen ∷ (body_tokens body ++ ending_tokens k.For)) c two (then_token (sign k.RightParen) (body_tokens body ++ ending_tokens k.For) refl
    (seq (body_tokens body) (ending_tokens k.For) body three (seq (ending_tokens k.For) [] (sign k.Semicolon) (ending_good k.For) ends)))))))))))))

while_at : (m line : ℕ) (c : Expr) (body : List Stmt) → x.expr m (expr_tokens c) c → s.nested_stmts (suc m) (body_tokens body) body
    → kind_l (suc m) (sign_at line k.LeftParen ∷ sign k.While ∷ (expr_tokens c ++ sign k.RightParen ∷ (body_tokens body ++ ending_tokens k.While))) (st.While c body)
unfolding s.stmt_kind x.nested x.expr
while_at m line c body one two = inr (inr (inr (inr (inr (inr (inr (inl (then_opening m (sign_at line k.LeftParen) (sign k.While ∷ (expr_tokens c ++ sign k.RightParen ∷ (body_tokens body ++ ending_tokens k.While))) refl
    (then_token (sign k.While) (expr_tokens c ++ sign k.RightParen ∷ (body_tokens body ++ ending_tokens k.While)) refl
    (seq (expr_tokens c) (sign k.RightParen ∷ (body_tokens body ++ ending_tokens k.While)) c one (then_token (sign k.RightParen) (body_tokens body ++ ending_tokens k.While) refl
    (seq (body_tokens body) (ending_tokens k.While) body two (seq (ending_tokens k.While) [] (sign k.Semicolon) (ending_good k.While) ends)))))))))))))

-- ---- from any derivation

update_back : (kind : Kind) (o : BinaryOp) → update_op kind ≡ Some o → update_op (op_kind o) ≡ Some o
unfolding kinds same_kind update_op
update_back kind o h = means_back op_kind update_op refl kind o h

from_back : (kind : Kind) (o : FromEnd) → from_word kind ≡ Some o → from_word (from_kind o) ≡ Some o
unfolding kinds same_kind from_word
from_back kind o h = means_back from_kind from_word refl kind o h

simple_made : (kind : Kind) (y z : StmtKind) → simple kind ≡ Some y → y ≡ z → ((line : ℕ) → kind_tokens y line ≡ sign_at line kind ∷ sign k.Semicolon ∷ []) → KindGood z
simple_made kind y z h same tokens = made y z (λ line. sign_at line kind ∷ sign k.Semicolon ∷ []) same tokens (λ line. refl) (λ line. record { from = 0; at = λ room le. simple_at room line kind y h })

simple_good : (kind : Kind) (y : StmtKind) → simple kind ≡ Some y → KindGood y
unfolding simple
simple_good k.Quit y h = simple_made k.Quit st.Quit y refl (some_is h) forms.quit_
simple_good k.Continue y h = simple_made k.Continue st.Continue y refl (some_is h) forms.continue_
simple_good k.Fail y h = simple_made k.Fail st.Fail y refl (some_is h) forms.fail_
simple_good k.Succeed y h = simple_made k.Succeed st.Succeed y refl (some_is h) forms.succeed_
simple_good k.Stop y h = simple_made k.Stop st.Stop y refl (some_is h) forms.stop_
simple_good k.Pass y h = simple_made k.Pass st.Pass y refl (some_is h) forms.pass_
simple_good _ y h = absurd cc

bar_good : (c : Option Expr) → OfSome Canon c → Spells (λ m. lang.optional (Then (lang.token k.Bar) (λ _. x.expr m))) (bar_tokens c) c
bar_good None g = record { from = 0; at = λ m le. refl }
bar_good (Some y) g = let w = whole_of y g in record { from = w.from; at = λ m le. then_token (sign k.Bar) (expr_tokens y) refl (w.at m le) }

result_good : (c : Option Expr) → OfSome Canon c → Spells (λ m. lang.optional (x.expr m)) (result_tokens c) c
result_good None g = record { from = 0; at = λ m le. refl }
result_good (Some y) g = let w = whole_of y g in record { from = w.from; at = λ m le. w.at m le }

name_good : (y : List ℕ) → Spells (λ _. lang.name) (single y) y
name_good y = record { from = 0; at = λ m le. then_token (name_at 0 y) [] refl ends }

slot_good : (z : Slot) → Spells (λ _. x.slot) (slot_tokens z) z
slot_good z = slot_spells z

module _ (room : ℕ) (D : Lang (List Stmt)) (good : (t : Tokens) (xs : List Stmt) → D t xs → AllOf StmtGood xs) where
  branch_good : (toks : Tokens) (b : Branch) → s.branch room D toks b → BranchGood b
  unfolding s.branch
  branch_good toks b h =
      let body = h.second.second in
      let one = whole_of h.value (deep_canon room h.front h.value h.first) in
      let two = body_good body.value (good body.front body.value body.first) in
      let all = expr_tokens h.value ++ sign k.Then ∷ body_tokens body.value in
      let b' = roll-Branch (record { condition = h.value; body = body.value }) in
      let whole : Spells (λ m. s.branch (suc m) (s.nested_stmts (suc m))) all b' = record { from = one.from + two.from; at = λ m le. branch_at m h.value body.value (one.at m (omega (arith, le))) (two.at m (omega (arith, le))) } in
      subst BranchGood body.second.1 (subst (λ (t : Tokens). Spells (λ m. s.branch (suc m) (s.nested_stmts (suc m))) t b') (sym (forms.branch_is h.value body.value)) whole)

  kind_good : (toks : Tokens) (y : StmtKind) → s.stmt_kind room D toks y → KindGood y
  unfolding s.stmt_kind x.pattern
  kind_good toks y (inl h) =
      let z = h.second.second in
      let one = place_good room h.front h.value h.first in
      let two = whole_of z.value (expr_canon room z.front z.value z.first) in
      made (st.Assign h.value z.value) y (λ line. place_tokens line h.value ++ sign k.Assign ∷ (expr_tokens z.value ++ sign k.Semicolon ∷ [])) z.second.second.1 (forms.assign h.value z.value) (λ line. refl)
      (λ line. record { from = (one line).from + two.from; at = λ room le. assign_at room line h.value z.value ((one line).at room (omega (arith, le))) (two.at room (omega (arith, le))) })
  kind_good toks y (inr (inl h)) =
      let o = h.second in
      let z = o.second.second in
      let one = place_good room h.front h.value h.first in
      let two = whole_of z.value (expr_canon room z.front z.value z.first) in
      made (st.Update h.value o.value z.value) y (λ line. place_tokens line h.value ++ sign (op_kind o.value) ∷ sign k.Assign ∷ (expr_tokens z.value ++ sign k.Semicolon ∷ [])) z.second.second.1 (forms.update h.value o.value z.value) (λ line. refl)
      (λ line. record { from = (one line).from + two.from; at = λ room le. update_at room line h.value o.value z.value ((one line).at room (omega (arith, le))) (update_back o.first.it.kind o.value o.first.means) (two.at room (omega (arith, le))) })
  kind_good toks y (inr (inr (inl h))) =
      let z = h.second.second in
      let slots = h.first.second in
      let list = spells_several slot_tokens (λ _. x.slot) slots.value (from_separated x.slot (λ s. Spells (λ _. x.slot) (slot_tokens s) s) (λ t a g. slot_good a) slots.front slots.value slots.first) in
      let same : slots.value ≡ h.value = slots.second.second.1 in
      let slots_spelled = subst (λ (z : List Slot). lang.separated x.slot (with_commas (map slot_tokens z)) z) same (list.at list.from (omega arith)) in
      let two = whole_of z.value (expr_canon room z.front z.value z.first) in
      made (st.TupleAssign h.value z.value) y (λ line. sign_at line k.LeftBracket ∷ (with_commas (slots_tokens h.value) ++ sign k.RightBracket ∷ sign k.Assign ∷ (expr_tokens z.value ++ sign k.Semicolon ∷ []))) z.second.second.1 (forms.tuple h.value z.value) (λ line. refl)
      (λ line. outer kind_l (sign_at line k.LeftBracket ∷ (with_commas (slots_tokens h.value) ++ sign k.RightBracket ∷ sign k.Assign ∷ (expr_tokens z.value ++ sign k.Semicolon ∷ []))) (st.TupleAssign h.value z.value) two.from
      (λ m le. tuple_at m line h.value z.value slots_spelled (two.at (suc m) (omega (arith, le)))))
  kind_good toks y (inr (inr (inr (inl h)))) =
      let w = h.second in
      let p = w.second in
      let one = place_good room p.front p.value p.first in
      made (st.Take h.value w.value p.value) y (λ line. name_at line h.value ∷ sign (from_kind w.value) ∷ (place_tokens 0 p.value ++ sign k.Semicolon ∷ [])) p.second.second.1 (forms.take_ h.value w.value p.value) (λ line. refl)
      (λ line. record { from = (one 0).from; at = λ room le. take_at room line h.value w.value p.value (from_back w.first.it.kind w.value w.first.means) ((one 0).at room le) })
  kind_good toks y (inr (inr (inr (inr (inl h))))) =
      let xs = h.second.second in
      let list = spells_listed expr_tokens x.expr xs.value (exprs_good xs.value (from_listed (x.nested room).expr Canon (deep_canon room) xs.front xs.value xs.first)) in
      made (st.Call h.value xs.value) y (λ line. name_at line h.value ∷ in_round (map expr_tokens xs.value)) xs.second.second.second.1 (forms.call h.value xs.value) (λ line. refl)
      (λ line. outer kind_l (name_at line h.value ∷ in_round (map expr_tokens xs.value)) (st.Call h.value xs.value) list.from (λ m le. call_at m line h.value xs.value (list.at m le)))
  kind_good toks y (inr (inr (inr (inr (inr (inl h)))))) =
      let first = h.second in
      let others = first.second in
      let rest = others.second in
      let one = branch_good first.front first.value first.first in
      let two = spells_many elseif_item elseif_l others.value (all_to others.value elseif_good (from_many (Then (lang.token k.Elseif) (λ _. s.branch room D)) BranchGood (λ t b g. branch_good g.back b g.second) others.front others.value others.first)) in
      let three = else_good rest.value (from_optional (Then (lang.token k.Else) (λ _. D)) (AllOf StmtGood) (λ t b g. good g.back b g.second) rest.front rest.value rest.first) in
      let toks_of : ℕ → Tokens = λ line. sign_at line k.If ∷ (branch_tokens first.value ++ (elseif_tokens (map branch_tokens others.value) ++ (else_body rest.value ++ ending_tokens k.If))) in
      made (st.If first.value others.value rest.value) y toks_of rest.second.second.1 (forms.if_ first.value others.value rest.value) (λ line. refl)
      (λ line. outer kind_l (toks_of line) (st.If first.value others.value rest.value) (one.from + two.from + three.from) (λ m le. if_at m line first.value others.value rest.value (one.at m (omega (arith, le)))
      (subst (λ (t : Tokens). lang.many (elseif_l m) t others.value) (sym (elseifs_are others.value)) (two.at m (omega (arith, le)))) (three.at m (omega (arith, le)))))
  kind_good toks y (inr (inr (inr (inr (inr (inr (inl h))))))) =
      let over = h.second.second in
      let c = over.second in
      let body = c.second.second in
      let one = iters_good (room - 1) (x.nested room).source (deep_source_canon room) over.front over.value over.first in
      let two = bar_good c.value (from_optional (Then (lang.token k.Bar) (λ _. (x.nested room).expr)) Canon (λ t z g. deep_canon room g.back z g.second) c.front c.value c.first) in
      let three = body_good body.value (good body.front body.value body.first) in
      let toks_of : ℕ → Tokens = λ line. sign_at line k.LeftParen ∷ sign k.For ∷ (with_commas (map iter_tokens over.value) ++ (bar_tokens c.value ++ sign k.RightParen ∷ (body_tokens body.value ++ ending_tokens k.For))) in
      made (st.For over.value c.value body.value) y toks_of body.second.second.1 (forms.for_ over.value c.value body.value) (λ line. refl)
      (λ line. outer kind_l (toks_of line) (st.For over.value c.value body.value) (one.from + two.from + three.from) (λ m le. for_at m line over.value c.value body.value (one.at m (omega (arith, le))) (two.at m (omega (arith, le))) (three.at m (omega (arith, le)))))
  kind_good toks y (inr (inr (inr (inr (inr (inr (inr (inl h)))))))) =
      let c = h.second.second in
      let body = c.second.second in
      let one = whole_of c.value (deep_canon room c.front c.value c.first) in
      let two = body_good body.value (good body.front body.value body.first) in
      let toks_of : ℕ → Tokens = λ line. sign_at line k.LeftParen ∷ sign k.While ∷ (expr_tokens c.value ++ sign k.RightParen ∷ (body_tokens body.value ++ ending_tokens k.While)) in
      made (st.While c.value body.value) y toks_of body.second.second.1 (forms.while_ c.value body.value) (λ line. refl)
      (λ line. outer kind_l (toks_of line) (st.While c.value body.value) (one.from + two.from) (λ m le. while_at m line c.value body.value (one.at m (omega (arith, le))) (two.at m (omega (arith, le)))))
  kind_good toks y (inr (inr (inr (inr (inr (inr (inr (inr (inl h))))))))) = subst KindGood h.second.second.1 (simple_good h.first.it.kind h.value h.first.means)
  kind_good toks y (inr (inr (inr (inr (inr (inr (inr (inr (inr (inl h)))))))))) =
      let z = h.second in
      let one = result_good z.value (from_optional (x.expr room) Canon (expr_canon room) z.front z.value z.first) in
      made (st.Return z.value) y (λ line. sign_at line k.Return ∷ (result_tokens z.value ++ sign k.Semicolon ∷ [])) z.second.second.1 (forms.return_ z.value) (λ line. refl)
      (λ line. record { from = one.from; at = λ room le. return_at room line z.value (one.at room le) })
  kind_good toks y (inr (inr (inr (inr (inr (inr (inr (inr (inr (inr (inl h))))))))))) =
      let xs = h.second.second in
      let list = spells_listed expr_tokens x.expr xs.value (exprs_good xs.value (from_listed (x.nested room).expr Canon (deep_canon room) xs.front xs.value xs.first)) in
      made (st.Print xs.value) y (λ line. sign_at line k.Print ∷ in_round (map expr_tokens xs.value)) xs.second.second.second.1 (forms.print_ xs.value) (λ line. refl)
      (λ line. outer kind_l (sign_at line k.Print ∷ in_round (map expr_tokens xs.value)) (st.Print xs.value) list.from (λ m le. print_at m line xs.value (list.at m le)))
  kind_good toks y (inr (inr (inr (inr (inr (inr (inr (inr (inr (inr (inr h))))))))))) =
      let xs = h.second.second in
      let list = spells_several single (λ _. lang.name) xs.value (from_separated lang.name (λ z. Spells (λ _. lang.name) (single z) z) (λ t z g. name_good z) xs.front xs.value xs.first) in
      made (st.Read xs.value) y (λ line. sign_at line k.Read ∷ in_round (map single xs.value)) xs.second.second.second.1 (forms.read_ xs.value) (λ line. refl)
      (λ line. outer kind_l (sign_at line k.Read ∷ in_round (map single xs.value)) (st.Read xs.value) list.from (λ m le. read_at m line xs.value (list.at m le)))

  stmt_at : (room line : ℕ) (y : StmtKind) → line_of (kind_tokens y line) ≡ line → kind_l room (kind_tokens y line) y → stmt_l room (kind_tokens y line) (roll-Stmt (record { line = line; kind = y }))
  unfolding s.stmt
  stmt_at room line y same h = last (λ z. roll-Stmt (record { line = z.0; kind = z.1 })) (kind_tokens y line) (line, y) (same, h)

  stmt_good : (toks : Tokens) (y : Stmt) → s.stmt room D toks y → StmtGood y
  unfolding s.stmt
  stmt_good toks y h =
      let line = h.value.0 in
      let kind = h.value.1 in
      let g = kind_good h.front kind h.first.1 line in
      let y' = roll-Stmt (record { line = line; kind = kind }) in
      let whole : Spells stmt_l (kind_tokens kind line) y' = record { from = g.0.from; at = λ room le. stmt_at room line kind g.1 (g.0.at room le) } in
      subst StmtGood h.second.1 (subst (λ (t : Tokens). Spells stmt_l t y') (sym (forms.stmt_is line kind)) whole)

nested_good : (room : ℕ) (toks : Tokens) (xs : List Stmt) → s.nested_stmts room toks xs → AllOf StmtGood xs
unfolding s.nested_stmts
nested_good zero toks xs h = absurd h
nested_good (suc room) toks xs h = from_many (s.stmt room (s.nested_stmts room)) StmtGood (stmt_good room (s.nested_stmts room) (nested_good room)) toks xs h

-- statements that tokens derive are derived by their canonical tokens
pub stmts_good : (room : ℕ) (toks : Tokens) (xs : List Stmt) → s.stmts room toks xs → Spells s.stmts (body_tokens xs) xs
unfolding s.stmts
stmts_good room toks xs h =
    let list = spells_many stmt_tokens stmt_l xs (from_many (s.stmt room (s.nested_stmts room)) StmtGood (stmt_good room (s.nested_stmts room) (nested_good room)) toks xs h) in
    record { from = list.from; at = λ room le. list.at room le }
