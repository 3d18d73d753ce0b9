-- The canonical tokens of an expression derive it: all levels.
use Rattle.std.proofs.Common.{pos, ◌≡◌, ℕ, zero, suc, ◌+◌, ◌-◌, ◌≤◌, List, [], ◌∷◌, ◌++◌, map, Option, Some, refl, sym, subst, arith, inl, inr}
use Rattle.setl_tree.specs.declared.kind.Kind.{Kind}
use Rattle.setl_tree.specs.declared.kind.Kind.TheVariants as k
use Rattle.setl_tree.specs.declared.expr.BinaryOp.{BinaryOp}
use Rattle.setl_tree.specs.declared.expr.Relation.{Relation}
use Rattle.setl_tree.specs.declared.expr.Fold.{Fold}
use Rattle.setl_tree.specs.declared.expr.Prefix.{Prefix}
use Rattle.setl_tree.specs.declared.expr.Prefix.TheVariants as pre
use Rattle.setl_tree.specs.declared.expr.Quantifier.{Quantifier}
use Rattle.setl_tree.specs.declared.expr.Expr.{Expr}
use Rattle.setl_tree.specs.declared.expr.Expr.TheVariants as e
use Rattle.setl_tree.specs.declared.expr.Inner.{Inner}
use Rattle.setl_tree.specs.declared.expr.Iter.{Iter}
use Rattle.setl_tree.specs.declared.expr.Selector.{Selector}
use Rattle.setl_tree.specs.declared.expr.Selector.TheVariants as se
use Rattle.setl_tree.specs.Tokens.{Token, Tokens}
use Rattle.setl_tree.specs.Lang.{Lang, Then}
use Rattle.setl_tree.specs.Lang as lang
use Rattle.setl_tree.specs.Operators.{level_of, binary_op, op_at, relation_op, not_sign, prefix_op, fold_sign, quantifier, constant, chain_of, prefixed, selected}
use Rattle.setl_tree.specs.Expressions as x
use Rattle.setl_tree.specs.Expressions.{Inside}
use Rattle.setl_tree.specs.Canonical.{shown, alone, sign, name_token, bracketed, with_commas, all_of, as_operand, as_primary, all_prefixes, prefix_tokens, op_kind, relation_kind, fold_kind, quantifier_kind, expr_tokens, inner_tokens, iter_tokens, selector_tokens}
use Rattle.setl_parse_reading.specs.code.Reading.{same_kind}
use Rattle.setl_parse_reading.proofs.EveryKind.{kinds}
use Rattle.setl_parse_reading.proofs.Building.{last, then_opening_one, opened_means, some_is, Spells, seq, then_token, then_name, then_opening, then_one_of, ends, outside, AllOf, from_many, from_optional, from_separated, from_listed, spells_many, spells_several, spells_listed, all_to, several_to}
use Rattle.setl_parse_reading.proofs.ShownParts as parts
use Rattle.setl_parse_reading.proofs.ShownParts.{operand_item, behind_expr, optional_expr}
use Rattle.setl_parse_reading.proofs.CanonicalExpressions.{Canon, e12_l, primary_l, primary_12, up_1, up_11, from_3, from_4, from_5, from_6, from_7, from_8, from_9, from_10, from_11, from_12, to_3, to_4, to_5, to_6, to_7, to_8, to_9, to_10, canon_alone, canon_selection, canon_operation, whole_of, operand_of, primary_of, means_back}
use Rattle.setl_parse_reading.proofs.CanonicalInners.{iters_l, inner_l, inner_good, iters_good, exprs_good, optional_good}

-- ---- selectors

abbrev pub selector_l : ℕ → Tokens → Selector → Type 0
selector_l room = x.selector room (x.nested room)

round_at : (m : ℕ) (xs : List Expr) (toks : Tokens) → lang.listed (x.expr m) toks xs → selector_l (suc m) (bracketed k.LeftParen toks k.RightParen) (se.Round xs)
unfolding x.selector x.nested x.expr
round_at m xs toks s = inl (then_opening m (sign k.LeftParen) (toks ++ sign k.RightParen ∷ []) refl (seq toks (sign k.RightParen ∷ []) xs s (then_token (sign k.RightParen) [] refl ends)))

slice_at : (m : ℕ) (a : Expr) (b : Option Expr) → x.expr m (expr_tokens a) a → lang.optional (x.expr m) (optional_expr b) b → selector_l (suc m) (sign k.LeftParen ∷ (expr_tokens a ++ sign k.Dots ∷ (optional_expr b ++ sign k.RightParen ∷ []))) (se.Slice a b)
unfolding x.selector x.nested x.expr
slice_at m a b one two = inr (inl (then_opening m (sign k.LeftParen) (expr_tokens a ++ sign k.Dots ∷ (optional_expr b ++ sign k.RightParen ∷ [])) refl (seq (expr_tokens a) (sign k.Dots ∷ (optional_expr b ++ sign k.RightParen ∷ [])) a one
    (then_token (sign k.Dots) (optional_expr b ++ sign k.RightParen ∷ []) refl (seq (optional_expr b) (sign k.RightParen ∷ []) b two (then_token (sign k.RightParen) [] refl ends))))))

braces_at : (m : ℕ) (xs : List Expr) (toks : Tokens) → lang.separated (x.expr m) toks xs → selector_l (suc m) (bracketed k.LeftBrace toks k.RightBrace) (se.Braces xs)
unfolding x.selector x.nested x.expr
braces_at m xs toks s = inr (inr (then_opening m (sign k.LeftBrace) (toks ++ sign k.RightBrace ∷ []) refl (seq toks (sign k.RightBrace ∷ []) xs s (then_token (sign k.RightBrace) [] refl ends))))

selector_is : (i j : Selector) (toks : Tokens) → j ≡ i → selector_tokens j ≡ toks → Spells selector_l toks j → Spells selector_l (selector_tokens i) i
selector_is i j toks same tokens s = subst (λ (z : Selector). Spells selector_l (selector_tokens z) z) same (subst (λ (t : Tokens). Spells selector_l t j) (sym tokens) s)

-- a spelling inside one more nesting
outer : {A : Type 0} (L : ℕ → Tokens → A → Type 0) (toks : Tokens) (a : A) (n : ℕ) → ((m : ℕ) → n ≤ m → L (suc m) toks a) → Spells L toks a
outer L toks a n go = record { from = suc n; at = outside (λ room. L room toks a) n go }

pub selector_good : (room : ℕ) (deep : Inside) → ((t : Tokens) (y : Expr) → deep.expr t y → Canon y) → (toks : Tokens) (i : Selector) → x.selector room deep toks i → Spells selector_l (selector_tokens i) i
unfolding x.selector
selector_good room deep canon toks i (inl s) =
    let xs = s.second in
    let list = spells_listed expr_tokens x.expr xs.value (exprs_good xs.value (from_listed deep.expr Canon canon xs.front xs.value xs.first)) in
    selector_is i (se.Round xs.value) (bracketed k.LeftParen (with_commas (map expr_tokens xs.value)) k.RightParen) xs.second.second.1 (parts.selector_round xs.value)
    (outer selector_l (bracketed k.LeftParen (with_commas (map expr_tokens xs.value)) k.RightParen) (se.Round xs.value) list.from (λ m le. round_at m xs.value (with_commas (map expr_tokens xs.value)) (list.at m le)))
selector_good room deep canon toks i (inr (inl s)) =
    let a = s.second in
    let b = a.second.second in
    let one = whole_of a.value (canon a.front a.value a.first) in
    let two = optional_good b.value (from_optional deep.expr Canon canon b.front b.value b.first) in
    let all : Tokens = sign k.LeftParen ∷ (expr_tokens a.value ++ sign k.Dots ∷ (optional_expr b.value ++ sign k.RightParen ∷ [])) in
    selector_is i (se.Slice a.value b.value) all b.second.second.1 (parts.selector_slice a.value b.value)
    (outer selector_l all (se.Slice a.value b.value) (one.from + two.from) (λ m le. slice_at m a.value b.value (one.at m (omega (arith, le))) (two.at m (omega (arith, le)))))
selector_good room deep canon toks i (inr (inr s)) =
    let xs = s.second in
    let list = spells_several expr_tokens x.expr xs.value (several_to whole_of (from_separated deep.expr Canon canon xs.front xs.value xs.first)) in
    selector_is i (se.Braces xs.value) (bracketed k.LeftBrace (with_commas (map expr_tokens xs.value)) k.RightBrace) xs.second.second.1 (parts.selector_braces xs.value)
    (outer selector_l (bracketed k.LeftBrace (with_commas (map expr_tokens xs.value)) k.RightBrace) (se.Braces xs.value) list.from (λ m le. braces_at m xs.value (with_commas (map expr_tokens xs.value)) (list.at m le)))

-- ---- primary expressions

canon_same : (y z : Expr) → y ≡ z → Canon y → Canon z
canon_same y z h c = subst Canon h c

number_at : (t : Token) (room : ℕ) → t.kind ≡ k.Number → primary_l room (t ∷ []) (e.Number t.value)
unfolding x.primary
number_at t room h = inl (then_token t [] h ends)

string_at : (t : Token) (room : ℕ) → t.kind ≡ k.StringLiteral → primary_l room (t ∷ []) (e.Text t.text)
unfolding x.primary
string_at t room h = inr (inl (then_token t [] h ends))

word_at : (kind : Kind) (y : Expr) (room : ℕ) → constant kind ≡ Some y → primary_l room (sign kind ∷ []) y
unfolding x.primary
word_at kind y room h = inr (inr (inl (record { it = sign kind; alone = refl; means = h })))

name_at_primary : (z : List ℕ) (room : ℕ) → primary_l room (name_token z ∷ []) (e.Name z)
unfolding x.primary
name_at_primary z room = inr (inr (inr (inl (then_name 0 z [] ends))))

if_at : (m : ℕ) (a b c : Expr) → x.expr m (expr_tokens a) a → x.expr m (expr_tokens b) b → x.expr m (expr_tokens c) c
    → primary_l (suc m) (sign k.If ∷ (expr_tokens a ++ sign k.Then ∷ (expr_tokens b ++ sign k.Else ∷ (expr_tokens c ++ sign k.End ∷ [])))) (e.If a b c)
unfolding x.primary x.nested x.expr
if_at m a b c one two three = inr (inr (inr (inr (inr (inl (then_opening m (sign k.If) (expr_tokens a ++ sign k.Then ∷ (expr_tokens b ++ sign k.Else ∷ (expr_tokens c ++ sign k.End ∷ []))) refl
    (seq (expr_tokens a) (sign k.Then ∷ (expr_tokens b ++ sign k.Else ∷ (expr_tokens c ++ sign k.End ∷ []))) a one (then_token (sign k.Then) (expr_tokens b ++ sign k.Else ∷ (expr_tokens c ++ sign k.End ∷ [])) refl
    (seq (expr_tokens b) (sign k.Else ∷ (expr_tokens c ++ sign k.End ∷ [])) b two (then_token (sign k.Else) (expr_tokens c ++ sign k.End ∷ []) refl (seq (expr_tokens c) (sign k.End ∷ []) c three (then_token (sign k.End) [] refl ends))))))))))))

less_one : (m : ℕ) → m ≡ suc m - 1
less_one m = omega arith

set_at : (m : ℕ) (i : Inner) → inner_l m (inner_tokens i) i → primary_l (suc m) (bracketed k.LeftBrace (inner_tokens i) k.RightBrace) (e.Set i)
unfolding x.primary
set_at m i s = inr (inr (inr (inr (inr (inr (inl (then_opening m (sign k.LeftBrace) (inner_tokens i ++ sign k.RightBrace ∷ []) refl
    (seq (inner_tokens i) (sign k.RightBrace ∷ []) i (subst (λ (z : ℕ). x.inner z (x.nested (suc m)) (inner_tokens i) i) (less_one m) s) (then_token (sign k.RightBrace) [] refl ends)))))))))

tuple_at : (m : ℕ) (i : Inner) → inner_l m (inner_tokens i) i → primary_l (suc m) (bracketed k.LeftBracket (inner_tokens i) k.RightBracket) (e.Tuple i)
unfolding x.primary
tuple_at m i s = inr (inr (inr (inr (inr (inr (inr (then_opening m (sign k.LeftBracket) (inner_tokens i ++ sign k.RightBracket ∷ []) refl
    (seq (inner_tokens i) (sign k.RightBracket ∷ []) i (subst (λ (z : ℕ). x.inner z (x.nested (suc m)) (inner_tokens i) i) (less_one m) s) (then_token (sign k.RightBracket) [] refl ends)))))))))

canon_word : (kind : Kind) (z : Expr) → constant kind ≡ Some z → shown z ≡ alone (sign kind ∷ []) → Canon z
canon_word kind z h s = canon_alone z (sign kind ∷ []) s (record { from = 0; at = λ room le. word_at kind z room h })

constant_good : (kind : Kind) (y : Expr) → constant kind ≡ Some y → Canon y
unfolding constant
constant_good k.Om y h = canon_same e.Om y (some_is h) (canon_word k.Om e.Om refl parts.shown_om)
constant_good k.True y h = canon_same e.True y (some_is h) (canon_word k.True e.True refl parts.shown_true)
constant_good k.False y h = canon_same e.False y (some_is h) (canon_word k.False e.False refl parts.shown_false)
constant_good k.Newat y h = canon_same e.Newat y (some_is h) (canon_word k.Newat e.Newat refl parts.shown_newat)
constant_good k.Eof y h = canon_same e.Eof y (some_is h) (canon_word k.Eof e.Eof refl parts.shown_eof)
constant_good k.Ok y h = canon_same e.Ok y (some_is h) (canon_word k.Ok e.Ok refl parts.shown_ok)
constant_good _ y h = absurd cc

not_by : (kind : Kind) (p : Prefix) → not_sign kind ≡ Some p → lang.one_of not_sign (prefix_tokens p) p
unfolding not_sign
not_by k.Not p h = subst (λ (z : Prefix). lang.one_of not_sign (prefix_tokens z) z) (some_is h) (record { it = sign k.Not; alone = refl; means = refl })
not_by _ p h = absurd cc

module _ (room : ℕ) (deep : Inside) (canon : (t : Tokens) (y : Expr) → deep.expr t y → Canon y) (canon_source : (t : Tokens) (y : Expr) → deep.source t y → Canon y) where
  primary_good : (toks : Tokens) (y : Expr) → x.primary room deep toks y → Canon y
  unfolding x.primary
  primary_good toks y (inl s) =
      let t : Token = record { kind = k.Number; text = []; value = s.value.value; line = 0 } in
      canon_same (e.Number s.value.value) y s.second.1 (canon_alone (e.Number s.value.value) (t ∷ []) (parts.shown_number s.value.value) (record { from = 0; at = λ room le. number_at t room refl }))
  primary_good toks y (inr (inl s)) =
      let t : Token = record { kind = k.StringLiteral; text = s.value.text; value = pos 0; line = 0 } in
      canon_same (e.Text s.value.text) y s.second.1 (canon_alone (e.Text s.value.text) (t ∷ []) (parts.shown_text s.value.text) (record { from = 0; at = λ room le. string_at t room refl }))
  primary_good toks y (inr (inr (inl s))) = constant_good s.it.kind y s.means
  primary_good toks y (inr (inr (inr (inl s)))) = canon_same (e.Name s.value) y s.second.1 (canon_alone (e.Name s.value) (name_token s.value ∷ []) (parts.shown_name s.value) (record { from = 0; at = λ room le. name_at_primary s.value room }))
  primary_good toks y (inr (inr (inr (inr (inl s))))) = canon_same s.second.value y s.second.second.second.1 (canon s.second.front s.second.value s.second.first)
  primary_good toks y (inr (inr (inr (inr (inr (inl s)))))) =
      let a = s.second in
      let b = a.second.second in
      let c = b.second.second in
      let one = whole_of a.value (canon a.front a.value a.first) in
      let two = whole_of b.value (canon b.front b.value b.first) in
      let three = whole_of c.value (canon c.front c.value c.first) in
      let all : Tokens = sign k.If ∷ (expr_tokens a.value ++ sign k.Then ∷ (expr_tokens b.value ++ sign k.Else ∷ (expr_tokens c.value ++ sign k.End ∷ []))) in
      let y' = e.If a.value b.value c.value in
      canon_same y' y c.second.second.1 (canon_operation y' all (parts.shown_if a.value b.value c.value) (outer x.expr all y' (one.from + two.from + three.from)
      (λ m le. from_12 (suc m) all y' (primary_12 (suc m) all y' (if_at m a.value b.value c.value (one.at m (omega (arith, le))) (two.at m (omega (arith, le))) (three.at m (omega (arith, le))))))))
  primary_good toks y (inr (inr (inr (inr (inr (inr (inl s))))))) =
      let i = s.second in
      let g = inner_good (room - 1) deep canon canon_source i.front i.value i.first in
      canon_same (e.Set i.value) y i.second.second.1 (canon_alone (e.Set i.value) (bracketed k.LeftBrace (inner_tokens i.value) k.RightBrace) (parts.shown_set i.value)
      (outer primary_l (bracketed k.LeftBrace (inner_tokens i.value) k.RightBrace) (e.Set i.value) g.from (λ m le. set_at m i.value (g.at m le))))
  primary_good toks y (inr (inr (inr (inr (inr (inr (inr s))))))) =
      let i = s.second in
      let g = inner_good (room - 1) deep canon canon_source i.front i.value i.first in
      canon_same (e.Tuple i.value) y i.second.second.1 (canon_alone (e.Tuple i.value) (bracketed k.LeftBracket (inner_tokens i.value) k.RightBracket) (parts.shown_tuple i.value)
      (outer primary_l (bracketed k.LeftBracket (inner_tokens i.value) k.RightBracket) (e.Tuple i.value) g.from (λ m le. tuple_at m i.value (g.at m le))))

  -- ---- selections

  selected_at : (room : ℕ) (p : Expr) (ss : List Selector) → primary_l room (as_primary (shown p)) p → lang.many (selector_l room) (all_of (map selector_tokens ss)) ss → e12_l room (as_primary (shown p) ++ all_of (map selector_tokens ss)) (selected p ss)
  unfolding x.e12
  selected_at room p ss one two = seq (as_primary (shown p)) (all_of (map selector_tokens ss)) p one (last (selected p) (all_of (map selector_tokens ss)) ss two)

  selected_good : (p : Expr) (ss : List Selector) → Canon p → AllOf (λ s. Spells selector_l (selector_tokens s) s) ss → Canon (selected p ss)
  selected_good p [] c all = c
  selected_good p (s ∷ ss) c all =
      let one = primary_of p c in
      let two = spells_many selector_tokens selector_l (s ∷ ss) all in
      canon_selection (e.Selected p (s ∷ ss)) (as_primary (shown p) ++ all_of (map selector_tokens (s ∷ ss))) (parts.shown_selected p (s ∷ ss))
      (record { from = one.from + two.from; at = λ room le. selected_at room p (s ∷ ss) (one.at room (omega (arith, le))) (two.at room (omega (arith, le))) })

  e12_good : (toks : Tokens) (y : Expr) → x.e12 room deep toks y → Canon y
  unfolding x.e12
  e12_good toks y s =
      let ss = s.second in
      canon_same (selected s.value ss.value) y ss.second.1 (selected_good s.value ss.value (primary_good s.front s.value s.first)
      (from_many (x.selector room deep) (λ s. Spells selector_l (selector_tokens s) s) (selector_good room deep canon) ss.front ss.value ss.first))

  -- ---- prefixes

  prefix_is : (kind : Kind) (p q : Prefix) → prefix_op kind ≡ Some q → prefix_tokens q ≡ sign kind ∷ [] → p ≡ q → x.prefix (prefix_tokens p) p
  unfolding x.prefix
  prefix_is kind p q h tokens same = subst (λ (z : Prefix). x.prefix (prefix_tokens z) z) (sym same) (subst (λ (t : Tokens). x.prefix t q) (sym tokens) (inl (record { it = sign kind; alone = refl; means = h })))

  one_prefix : (kind : Kind) (p : Prefix) → prefix_op kind ≡ Some p → x.prefix (prefix_tokens p) p
  unfolding prefix_op
  one_prefix k.Minus p h = prefix_is k.Minus p pre.Minus refl refl (sym (some_is h))
  one_prefix k.Hash p h = prefix_is k.Hash p pre.Size refl refl (sym (some_is h))
  one_prefix k.Abs p h = prefix_is k.Abs p pre.Abs refl refl (sym (some_is h))
  one_prefix k.Even p h = prefix_is k.Even p pre.Even refl refl (sym (some_is h))
  one_prefix k.Odd p h = prefix_is k.Odd p pre.Odd refl refl (sym (some_is h))
  one_prefix k.Pow p h = prefix_is k.Pow p pre.Pow refl refl (sym (some_is h))
  one_prefix k.Domain p h = prefix_is k.Domain p pre.Domain refl refl (sym (some_is h))
  one_prefix k.Range p h = prefix_is k.Range p pre.Range refl refl (sym (some_is h))
  one_prefix k.Arb p h = prefix_is k.Arb p pre.Arb refl refl (sym (some_is h))
  one_prefix k.Str p h = prefix_is k.Str p pre.Str refl refl (sym (some_is h))
  one_prefix k.IsInteger p h = prefix_is k.IsInteger p pre.IsInteger refl refl (sym (some_is h))
  one_prefix k.IsString p h = prefix_is k.IsString p pre.IsString refl refl (sym (some_is h))
  one_prefix k.IsBoolean p h = prefix_is k.IsBoolean p pre.IsBoolean refl refl (sym (some_is h))
  one_prefix k.IsAtom p h = prefix_is k.IsAtom p pre.IsAtom refl refl (sym (some_is h))
  one_prefix k.IsTuple p h = prefix_is k.IsTuple p pre.IsTuple refl refl (sym (some_is h))
  one_prefix k.IsSet p h = prefix_is k.IsSet p pre.IsSet refl refl (sym (some_is h))
  one_prefix k.IsMap p h = prefix_is k.IsMap p pre.IsMap refl refl (sym (some_is h))
  one_prefix _ p h = absurd cc

  fold_back : (kind : Kind) (o : Fold) → fold_sign kind ≡ Some o → fold_sign (fold_kind o) ≡ Some o
  unfolding kinds same_kind fold_sign
  fold_back kind o h = means_back fold_kind fold_sign refl kind o h

  prefix_good : (toks : Tokens) (p : Prefix) → x.prefix toks p → x.prefix (prefix_tokens p) p
  unfolding x.prefix
  prefix_good toks p (inl s) = one_prefix s.it.kind p s.means
  prefix_good toks p (inr s) = subst (λ (z : Prefix). x.prefix (prefix_tokens z) z) s.second.second.1
      (inr (then_one_of (sign (fold_kind s.value)) (sign k.Slash ∷ []) (fold_back s.first.it.kind s.value s.first.means) (then_token (sign k.Slash) [] refl ends)))

  not_good : (toks : Tokens) (p : Prefix) → lang.one_of not_sign toks p → lang.one_of not_sign (prefix_tokens p) p
  not_good toks p s = not_by s.it.kind p s.means

  prefixed_at : (room : ℕ) (ps : List Prefix) (y : Expr) → lang.many x.prefix (all_prefixes ps) ps → e12_l room (as_operand (shown y)) y → x.e11 room (x.nested room) (all_prefixes ps ++ as_operand (shown y)) (prefixed ps y)
  unfolding x.e11
  prefixed_at room ps y one two = seq (all_prefixes ps) (as_operand (shown y)) ps one (last (prefixed ps) (as_operand (shown y)) y two)

  prefixed_good : (ps : List Prefix) (y : Expr) → AllOf (λ p. x.prefix (prefix_tokens p) p) ps → Canon y → Canon (prefixed ps y)
  prefixed_good [] y all c = c
  prefixed_good (p ∷ ps) y all c =
      let one = spells_many prefix_tokens (λ _. x.prefix) (p ∷ ps) (all_to (p ∷ ps) (λ p s. record { from = 0; at = λ room le. s }) all) in
      let two = operand_of y c in
      let toks = all_prefixes (p ∷ ps) ++ as_operand (shown y) in
      canon_operation (e.Prefixed (p ∷ ps) y) toks (parts.shown_prefixed (p ∷ ps) y)
      (record { from = two.from; at = λ room le. from_11 room toks (e.Prefixed (p ∷ ps) y) (prefixed_at room (p ∷ ps) y (one.at one.from (omega arith)) (two.at room le)) })

  e11_good : (toks : Tokens) (y : Expr) → x.e11 room deep toks y → Canon y
  unfolding x.e11
  e11_good toks y s =
      let z = s.second in
      canon_same (prefixed s.value z.value) y z.second.1 (prefixed_good s.value z.value (from_many x.prefix (λ p. x.prefix (prefix_tokens p) p) prefix_good s.front s.value s.first) (e12_good z.front z.value z.first))

  negated_at : (room : ℕ) (ps : List Prefix) (y : Expr) → lang.many (lang.one_of not_sign) (all_prefixes ps) ps → e12_l room (as_operand (shown y)) y → x.e5 room (x.nested room) (all_prefixes ps ++ as_operand (shown y)) (prefixed ps y)
  unfolding x.e5
  negated_at room ps y one two = seq (all_prefixes ps) (as_operand (shown y)) ps one (last (prefixed ps) (as_operand (shown y)) y (to_6 room (as_operand (shown y)) y two))

  negated_good : (ps : List Prefix) (y : Expr) → AllOf (λ p. lang.one_of not_sign (prefix_tokens p) p) ps → Canon y → Canon (prefixed ps y)
  negated_good [] y all c = c
  negated_good (p ∷ ps) y all c =
      let one = spells_many prefix_tokens (λ _. lang.one_of not_sign) (p ∷ ps) (all_to (p ∷ ps) (λ p s. record { from = 0; at = λ room le. s }) all) in
      let two = operand_of y c in
      let toks = all_prefixes (p ∷ ps) ++ as_operand (shown y) in
      canon_operation (e.Prefixed (p ∷ ps) y) toks (parts.shown_prefixed (p ∷ ps) y)
      (record { from = two.from; at = λ room le. from_5 room toks (e.Prefixed (p ∷ ps) y) (negated_at room (p ∷ ps) y (one.at one.from (omega arith)) (two.at room le)) })

  -- ---- chains

  -- an operator of a level, which its token means, with an operand
  abbrev GoodOperand : ℕ → BinaryOp × Expr → Type 0
  GoodOperand level o = (op_at level (op_kind o.0) ≡ Some o.0) × Canon o.1

  operand_spells : (level : ℕ) (M : ℕ → Tokens → Expr → Type 0) → ((room : ℕ) (t : Tokens) (y : Expr) → e12_l room t y → M room t y) → (o : BinaryOp × Expr) → GoodOperand level o → Spells (λ room. x.operand level (M room)) (operand_item o) o
  operand_spells level M up o good =
      let c = operand_of o.1 good.1 in
      record { from = c.from; at = λ room le. then_one_of (sign (op_kind o.0)) (as_operand (shown o.1)) good.0 (last (λ y. (o.0, y)) (as_operand (shown o.1)) o.1 (up room (as_operand (shown o.1)) o.1 (c.at room le))) }

  chained_good : (level : ℕ) (M : ℕ → Tokens → Expr → Type 0) → ((room : ℕ) (t : Tokens) (y : Expr) → e12_l room t y → M room t y) → ((room : ℕ) (t : Tokens) (y : Expr) → x.chain level (M room) t y → x.expr room t y)
      → (first : Expr) (others : List (BinaryOp × Expr)) → Canon first → AllOf (GoodOperand level) others → Canon (chain_of first others)
  chained_good level M up down first [] c all = c
  chained_good level M up down first (o ∷ os) c all =
      let one = operand_of first c in
      let two = spells_many operand_item (λ room. x.operand level (M room)) (o ∷ os) (all_to (o ∷ os) (operand_spells level M up) all) in
      let toks = as_operand (shown first) ++ all_of (map operand_item (o ∷ os)) in
      canon_operation (e.Chain first (o ∷ os)) toks (parts.shown_chain first (o ∷ os))
      (record {
        from = one.from + two.from;
        at = λ room le. down room toks (e.Chain first (o ∷ os))
            (seq (as_operand (shown first)) (all_of (map operand_item (o ∷ os))) first (up room (as_operand (shown first)) first (one.at room (omega (arith, le)))) (last (chain_of first) (all_of (map operand_item (o ∷ os))) (o ∷ os) (two.at room (omega (arith, le)))));
      })

  chain_good : (level : ℕ) (M : ℕ → Tokens → Expr → Type 0) → ((room : ℕ) (t : Tokens) (y : Expr) → e12_l room t y → M room t y) → ((room : ℕ) (t : Tokens) (y : Expr) → x.chain level (M room) t y → x.expr room t y)
      → ((kind : Kind) (o : BinaryOp) → op_at level kind ≡ Some o → op_at level (op_kind o) ≡ Some o) → (item : Lang Expr) → ((t : Tokens) (y : Expr) → item t y → Canon y) → (toks : Tokens) (y : Expr) → x.chain level item toks y → Canon y
  chain_good level M up down back item good toks y s =
      let os = s.second in
      canon_same (chain_of s.value os.value) y os.second.1 (chained_good level M up down s.value os.value (good s.front s.value s.first)
      (from_many (x.operand level item) (GoodOperand level) (λ t o h.
      let z = h.second in
      subst (GoodOperand level) z.second.1 (back h.first.it.kind h.value h.first.means, good z.front z.value z.first)) os.front os.value os.first))

  back_2 : (kind : Kind) (o : BinaryOp) → op_at 2 kind ≡ Some o → op_at 2 (op_kind o) ≡ Some o
  unfolding kinds same_kind op_at level_of binary_op
  back_2 kind o h = means_back op_kind (op_at 2) refl kind o h

  back_3 : (kind : Kind) (o : BinaryOp) → op_at 3 kind ≡ Some o → op_at 3 (op_kind o) ≡ Some o
  unfolding kinds same_kind op_at level_of binary_op
  back_3 kind o h = means_back op_kind (op_at 3) refl kind o h

  back_4 : (kind : Kind) (o : BinaryOp) → op_at 4 kind ≡ Some o → op_at 4 (op_kind o) ≡ Some o
  unfolding kinds same_kind op_at level_of binary_op
  back_4 kind o h = means_back op_kind (op_at 4) refl kind o h

  back_7 : (kind : Kind) (o : BinaryOp) → op_at 7 kind ≡ Some o → op_at 7 (op_kind o) ≡ Some o
  unfolding kinds same_kind op_at level_of binary_op
  back_7 kind o h = means_back op_kind (op_at 7) refl kind o h

  back_8 : (kind : Kind) (o : BinaryOp) → op_at 8 kind ≡ Some o → op_at 8 (op_kind o) ≡ Some o
  unfolding kinds same_kind op_at level_of binary_op
  back_8 kind o h = means_back op_kind (op_at 8) refl kind o h

  back_9 : (kind : Kind) (o : BinaryOp) → op_at 9 kind ≡ Some o → op_at 9 (op_kind o) ≡ Some o
  unfolding kinds same_kind op_at level_of binary_op
  back_9 kind o h = means_back op_kind (op_at 9) refl kind o h

  back_10 : (kind : Kind) (o : BinaryOp) → op_at 10 kind ≡ Some o → op_at 10 (op_kind o) ≡ Some o
  unfolding kinds same_kind op_at level_of binary_op
  back_10 kind o h = means_back op_kind (op_at 10) refl kind o h

  e10_good : (toks : Tokens) (y : Expr) → x.e10 room deep toks y → Canon y
  unfolding x.e10
  e10_good = chain_good 10 (λ room. x.e11 room (x.nested room)) up_11 from_10 back_10 (x.e11 room deep) e11_good

  e9_good : (toks : Tokens) (y : Expr) → x.e9 room deep toks y → Canon y
  unfolding x.e9
  e9_good = chain_good 9 (λ room. x.e10 room (x.nested room)) to_10 from_9 back_9 (x.e10 room deep) e10_good

  e8_good : (toks : Tokens) (y : Expr) → x.e8 room deep toks y → Canon y
  unfolding x.e8
  e8_good = chain_good 8 (λ room. x.e9 room (x.nested room)) to_9 from_8 back_8 (x.e9 room deep) e9_good

  pub e7_good : (toks : Tokens) (y : Expr) → x.e7 room deep toks y → Canon y
  unfolding x.e7
  e7_good = chain_good 7 (λ room. x.e8 room (x.nested room)) to_8 from_7 back_7 (x.e8 room deep) e8_good

  relation_back : (kind : Kind) (o : Relation) → relation_op kind ≡ Some o → relation_op (relation_kind o) ≡ Some o
  unfolding kinds same_kind relation_op
  relation_back kind o h = means_back relation_kind relation_op refl kind o h

  compared_at : (room : ℕ) (a : Expr) (o : Relation) (b : Expr) → e12_l room (as_operand (shown a)) a → relation_op (relation_kind o) ≡ Some o → e12_l room (as_operand (shown b)) b
      → x.e6 room (x.nested room) (as_operand (shown a) ++ sign (relation_kind o) ∷ as_operand (shown b)) (e.Compare a o b)
  unfolding x.e6
  compared_at room a o b one means two = inr (seq (as_operand (shown a)) (sign (relation_kind o) ∷ as_operand (shown b)) a (to_7 room (as_operand (shown a)) a one)
      (then_one_of (sign (relation_kind o)) (as_operand (shown b)) means (last (λ b. e.Compare a o b) (as_operand (shown b)) b (to_7 room (as_operand (shown b)) b two))))

  e6_good : (toks : Tokens) (y : Expr) → x.e6 room deep toks y → Canon y
  unfolding x.e6
  e6_good toks y (inl s) = e7_good toks y s
  e6_good toks y (inr s) =
      let o = s.second in
      let b = o.second in
      let one = operand_of s.value (e7_good s.front s.value s.first) in
      let two = operand_of b.value (e7_good b.front b.value b.first) in
      let y' = e.Compare s.value o.value b.value in
      let all = as_operand (shown s.value) ++ sign (relation_kind o.value) ∷ as_operand (shown b.value) in
      canon_same y' y b.second.1 (canon_operation y' all (parts.shown_compare s.value o.value b.value)
      (record { from = one.from + two.from; at = λ room le. from_6 room all y' (compared_at room s.value o.value b.value (one.at room (omega (arith, le))) (relation_back o.first.it.kind o.value o.first.means) (two.at room (omega (arith, le)))) }))

  e5_good : (toks : Tokens) (y : Expr) → x.e5 room deep toks y → Canon y
  unfolding x.e5
  e5_good toks y s =
      let z = s.second in
      canon_same (prefixed s.value z.value) y z.second.1 (negated_good s.value z.value (from_many (lang.one_of not_sign) (λ p. lang.one_of not_sign (prefix_tokens p) p) not_good s.front s.value s.first) (e6_good z.front z.value z.first))

  e4_good : (toks : Tokens) (y : Expr) → x.e4 room deep toks y → Canon y
  unfolding x.e4
  e4_good = chain_good 4 (λ room. x.e5 room (x.nested room)) to_5 from_4 back_4 (x.e5 room deep) e5_good

  e3_good : (toks : Tokens) (y : Expr) → x.e3 room deep toks y → Canon y
  unfolding x.e3
  e3_good = chain_good 3 (λ room. x.e4 room (x.nested room)) to_4 from_3 back_3 (x.e4 room deep) e4_good

  e2_good : (toks : Tokens) (y : Expr) → x.e2 room deep toks y → Canon y
  unfolding x.e2
  e2_good = chain_good 2 (λ room. x.e3 room (x.nested room)) to_3 up_1 back_2 (x.e3 room deep) e3_good

  -- ---- quantifiers

  quantifier_back : (kind : Kind) (o : Quantifier) → quantifier kind ≡ Some o → quantifier (quantifier_kind o) ≡ Some o
  unfolding kinds same_kind quantifier
  quantifier_back kind o h = means_back quantifier_kind quantifier refl kind o h

  quantified_at : (m : ℕ) (q : Quantifier) (over : List Iter) (y : Expr) → quantifier (quantifier_kind q) ≡ Some q → iters_l m (with_commas (map iter_tokens over)) over → x.expr m (expr_tokens y) y
      → x.expr (suc m) (sign (quantifier_kind q) ∷ (with_commas (map iter_tokens over) ++ sign k.Bar ∷ expr_tokens y)) (e.Quantified q over y)
  unfolding x.expr x.whole x.nested x.source
  quantified_at m q over y means one two = inl (then_opening_one m (sign (quantifier_kind q)) q (with_commas (map iter_tokens over) ++ sign k.Bar ∷ expr_tokens y) means
      (seq (with_commas (map iter_tokens over)) (sign k.Bar ∷ expr_tokens y) over (subst (λ (z : ℕ). x.iters z (x.e7 m (x.nested m)) (with_commas (map iter_tokens over)) over) (less_one m) one)
      (then_token (sign k.Bar) (expr_tokens y) refl (last (λ y. e.Quantified q over y) (expr_tokens y) y two))))

  pub whole_good : (toks : Tokens) (y : Expr) → x.whole room deep toks y → Canon y
  unfolding x.whole
  whole_good toks y (inr s) = e2_good toks y s
  whole_good toks y (inl s) =
      let over = s.second in
      let z = over.second.second in
      let means = opened_means room quantifier s.front s.value s.first in
      let one = iters_good (room - 1) deep.source canon_source over.front over.value over.first in
      let two = whole_of z.value (canon z.front z.value z.first) in
      let y' = e.Quantified s.value over.value z.value in
      let all = sign (quantifier_kind s.value) ∷ (with_commas (map iter_tokens over.value) ++ sign k.Bar ∷ expr_tokens z.value) in
      canon_same y' y z.second.1 (canon_operation y' all (parts.shown_quantified s.value over.value z.value)
      (outer x.expr all y' (one.from + two.from) (λ m le. quantified_at m s.value over.value z.value (quantifier_back means.it.kind s.value means.means) (one.at m (omega (arith, le))) (two.at m (omega (arith, le))))))

-- what stands in nestings
record CanonInside (room : ℕ) : Type 0 where
  expr : (t : Tokens) (y : Expr) → (x.nested room).expr t y → Canon y
  source : (t : Tokens) (y : Expr) → (x.nested room).source t y → Canon y

inside_good : (room : ℕ) → CanonInside room
unfolding x.nested
inside_good zero = record { expr = λ t y s. absurd s; source = λ t y s. absurd s }
inside_good (suc room) =
    let h = inside_good room in
    record { expr = whole_good room (x.nested room) h.expr h.source; source = e7_good room (x.nested room) h.expr h.source }

-- every expression that tokens derive is derived by its canonical tokens
pub expr_canon : (room : ℕ) (toks : Tokens) (y : Expr) → x.expr room toks y → Canon y
unfolding x.expr
expr_canon room = let h = inside_good room in whole_good room (x.nested room) h.expr h.source

pub deep_canon : (room : ℕ) (toks : Tokens) (y : Expr) → (x.nested room).expr toks y → Canon y
deep_canon room = (inside_good room).expr

pub deep_source_canon : (room : ℕ) (toks : Tokens) (y : Expr) → (x.nested room).source toks y → Canon y
deep_source_canon room = (inside_good room).source
