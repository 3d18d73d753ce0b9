-- The canonical tokens of each form of expression.
use Rattle.std.proofs.Common.{◌≡◌, ℕ, ℤ, pos, List, [], ◌∷◌, ◌++◌, map, Option, Some, None, refl, sym, ap, ◌∙◌}
use Rattle.setl_tree.specs.declared.kind.Kind.{Kind}
use Rattle.setl_tree.specs.declared.kind.Kind.TheVariants as k
use Rattle.setl_tree.specs.declared.expr.BinaryOp.{BinaryOp}
use Rattle.setl_tree.specs.declared.expr.Relation.{Relation}
use Rattle.setl_tree.specs.declared.expr.Prefix.{Prefix}
use Rattle.setl_tree.specs.declared.expr.Quantifier.{Quantifier}
use Rattle.setl_tree.specs.declared.expr.Bound.{Bound}
use Rattle.setl_tree.specs.declared.expr.Expr.{Expr, fold-roll-Expr}
use Rattle.setl_tree.specs.declared.expr.Expr.TheVariants as e
use Rattle.setl_tree.specs.declared.expr.Expr.TheOpen.{Expr-F, Inner-F, Iter-F, Selector-F}
use Rattle.setl_tree.specs.declared.expr.Inner.{Inner, fold-roll-Inner}
use Rattle.setl_tree.specs.declared.expr.Inner.TheVariants as inn
use Rattle.setl_tree.specs.declared.expr.Iter.{Iter, fold-roll-Iter}
use Rattle.setl_tree.specs.declared.expr.Iter.TheVariants as it
use Rattle.setl_tree.specs.declared.expr.Selector.{Selector, fold-roll-Selector}
use Rattle.setl_tree.specs.declared.expr.Selector.TheVariants as se
use Rattle.setl_tree.specs.Tokens.{Tokens}
use Rattle.setl_tree.specs.Canonical.{Shown, shown, tokens_of, op_kind, alone, operation, selection, sign, name_token, bracketed, with_commas, all_of, as_operand, as_primary, operand_tokens, all_prefixes, relation_kind, quantifier_kind, bound_tokens, expr_tokens, inner_tokens, iter_tokens, selector_tokens, expr_step, inner_step, iter_step, selector_step}

pub tokens_map : (xs : List Expr) → tokens_of (map shown xs) ≡ map expr_tokens xs
tokens_map [] = refl
tokens_map (x ∷ xs) = ap (λ z. expr_tokens x ∷ z) (tokens_map xs)

-- an operator with its right operand
abbrev pub operand_item : BinaryOp × Expr → Tokens
operand_item x = sign (op_kind x.0) ∷ as_operand (shown x.1)

pub operands_map : (xs : List (BinaryOp × Expr)) → operand_tokens (map (λ x. (x.0, shown x.1)) xs) ≡ all_of (map operand_item xs)
operands_map [] = refl
operands_map (x ∷ xs) = ap (λ z. sign (op_kind x.0) ∷ (as_operand (shown x.1) ++ z)) (operands_map xs)

-- an optional expression behind a token
abbrev pub behind_expr : Kind → Option Expr → Tokens
behind_expr kind None = []
behind_expr kind (Some x) = sign kind ∷ expr_tokens x

abbrev pub optional_expr : Option Expr → Tokens
optional_expr None = []
optional_expr (Some x) = expr_tokens x

pub shown_number : (n : ℤ) → shown (e.Number n) ≡ alone (record { kind = k.Number; text = []; value = n; line = 0 } ∷ [])
shown_number n = ap shown (sym (e.rolls-Number n)) ∙ fold-roll-Expr Shown Tokens Tokens Tokens expr_step inner_step iter_step selector_step (Expr-F.Number n)

pub shown_text : (t : List ℕ) → shown (e.Text t) ≡ alone (record { kind = k.StringLiteral; text = t; value = pos 0; line = 0 } ∷ [])
shown_text t = ap shown (sym (e.rolls-Text t)) ∙ fold-roll-Expr Shown Tokens Tokens Tokens expr_step inner_step iter_step selector_step (Expr-F.Text t)

pub shown_om : shown e.Om ≡ alone (sign k.Om ∷ [])
shown_om = ap shown (sym e.rolls-Om) ∙ fold-roll-Expr Shown Tokens Tokens Tokens expr_step inner_step iter_step selector_step Expr-F.Om

pub shown_true : shown e.True ≡ alone (sign k.True ∷ [])
shown_true = ap shown (sym e.rolls-True) ∙ fold-roll-Expr Shown Tokens Tokens Tokens expr_step inner_step iter_step selector_step Expr-F.True

pub shown_false : shown e.False ≡ alone (sign k.False ∷ [])
shown_false = ap shown (sym e.rolls-False) ∙ fold-roll-Expr Shown Tokens Tokens Tokens expr_step inner_step iter_step selector_step Expr-F.False

pub shown_newat : shown e.Newat ≡ alone (sign k.Newat ∷ [])
shown_newat = ap shown (sym e.rolls-Newat) ∙ fold-roll-Expr Shown Tokens Tokens Tokens expr_step inner_step iter_step selector_step Expr-F.Newat

pub shown_eof : shown e.Eof ≡ alone (sign k.Eof ∷ [])
shown_eof = ap shown (sym e.rolls-Eof) ∙ fold-roll-Expr Shown Tokens Tokens Tokens expr_step inner_step iter_step selector_step Expr-F.Eof

pub shown_ok : shown e.Ok ≡ alone (sign k.Ok ∷ [])
shown_ok = ap shown (sym e.rolls-Ok) ∙ fold-roll-Expr Shown Tokens Tokens Tokens expr_step inner_step iter_step selector_step Expr-F.Ok

pub shown_name : (x : List ℕ) → shown (e.Name x) ≡ alone (name_token x ∷ [])
shown_name x = ap shown (sym (e.rolls-Name x)) ∙ fold-roll-Expr Shown Tokens Tokens Tokens expr_step inner_step iter_step selector_step (Expr-F.Name x)

pub shown_if : (a b c : Expr) → shown (e.If a b c) ≡ operation (sign k.If ∷ (expr_tokens a ++ sign k.Then ∷ (expr_tokens b ++ sign k.Else ∷ (expr_tokens c ++ sign k.End ∷ []))))
shown_if a b c = ap shown (sym (e.rolls-If a b c)) ∙ fold-roll-Expr Shown Tokens Tokens Tokens expr_step inner_step iter_step selector_step (Expr-F.If a b c)

pub shown_set : (x : Inner) → shown (e.Set x) ≡ alone (bracketed k.LeftBrace (inner_tokens x) k.RightBrace)
shown_set x = ap shown (sym (e.rolls-Set x)) ∙ fold-roll-Expr Shown Tokens Tokens Tokens expr_step inner_step iter_step selector_step (Expr-F.Set x)

pub shown_tuple : (x : Inner) → shown (e.Tuple x) ≡ alone (bracketed k.LeftBracket (inner_tokens x) k.RightBracket)
shown_tuple x = ap shown (sym (e.rolls-Tuple x)) ∙ fold-roll-Expr Shown Tokens Tokens Tokens expr_step inner_step iter_step selector_step (Expr-F.Tuple x)

pub shown_chain : (first : Expr) (others : List (BinaryOp × Expr)) → shown (e.Chain first others) ≡ operation (as_operand (shown first) ++ all_of (map operand_item others))
shown_chain first others = ap shown (sym (e.rolls-Chain first others)) ∙ fold-roll-Expr Shown Tokens Tokens Tokens expr_step inner_step iter_step selector_step (Expr-F.Chain first others)
    ∙ ap (λ z. operation (as_operand (shown first) ++ z)) (operands_map others)

pub shown_compare : (a : Expr) (o : Relation) (b : Expr) → shown (e.Compare a o b) ≡ operation (as_operand (shown a) ++ sign (relation_kind o) ∷ as_operand (shown b))
shown_compare a o b = ap shown (sym (e.rolls-Compare a o b)) ∙ fold-roll-Expr Shown Tokens Tokens Tokens expr_step inner_step iter_step selector_step (Expr-F.Compare a o b)

pub shown_prefixed : (ps : List Prefix) (x : Expr) → shown (e.Prefixed ps x) ≡ operation (all_prefixes ps ++ as_operand (shown x))
shown_prefixed ps x = ap shown (sym (e.rolls-Prefixed ps x)) ∙ fold-roll-Expr Shown Tokens Tokens Tokens expr_step inner_step iter_step selector_step (Expr-F.Prefixed ps x)

pub shown_selected : (p : Expr) (ss : List Selector) → shown (e.Selected p ss) ≡ selection (as_primary (shown p) ++ all_of (map selector_tokens ss))
shown_selected p ss = ap shown (sym (e.rolls-Selected p ss)) ∙ fold-roll-Expr Shown Tokens Tokens Tokens expr_step inner_step iter_step selector_step (Expr-F.Selected p ss)

pub shown_quantified : (q : Quantifier) (over : List Iter) (x : Expr) → shown (e.Quantified q over x) ≡ operation (sign (quantifier_kind q) ∷ (with_commas (map iter_tokens over) ++ sign k.Bar ∷ expr_tokens x))
shown_quantified q over x = ap shown (sym (e.rolls-Quantified q over x)) ∙ fold-roll-Expr Shown Tokens Tokens Tokens expr_step inner_step iter_step selector_step (Expr-F.Quantified q over x)

pub inner_list : (xs : List Expr) → inner_tokens (inn.List xs) ≡ with_commas (map expr_tokens xs)
inner_list xs = ap inner_tokens (sym (inn.rolls-List xs)) ∙ fold-roll-Inner Shown Tokens Tokens Tokens expr_step inner_step iter_step selector_step (Inner-F.List xs) ∙ ap with_commas (tokens_map xs)

pub inner_filter : (b : Bound) (s c : Expr) → inner_tokens (inn.Filter b s c) ≡ bound_tokens b ++ sign k.In ∷ (as_operand (shown s) ++ sign k.Bar ∷ expr_tokens c)
inner_filter b s c = ap inner_tokens (sym (inn.rolls-Filter b s c)) ∙ fold-roll-Inner Shown Tokens Tokens Tokens expr_step inner_step iter_step selector_step (Inner-F.Filter b s c)

pub inner_range : (a : Expr) (b : Option Expr) (c : Expr) → inner_tokens (inn.Range a b c) ≡ expr_tokens a ++ (behind_expr k.Comma b ++ sign k.Dots ∷ expr_tokens c)
inner_range a None c = ap inner_tokens (sym (inn.rolls-Range a None c)) ∙ fold-roll-Inner Shown Tokens Tokens Tokens expr_step inner_step iter_step selector_step (Inner-F.Range a None c)
inner_range a (Some b) c = ap inner_tokens (sym (inn.rolls-Range a (Some b) c)) ∙ fold-roll-Inner Shown Tokens Tokens Tokens expr_step inner_step iter_step selector_step (Inner-F.Range a (Some b) c)

pub inner_former : (x : Expr) (over : List Iter) (c : Option Expr) → inner_tokens (inn.Former x over c) ≡ expr_tokens x ++ sign k.Colon ∷ (with_commas (map iter_tokens over) ++ behind_expr k.Bar c)
inner_former x over None = ap inner_tokens (sym (inn.rolls-Former x over None)) ∙ fold-roll-Inner Shown Tokens Tokens Tokens expr_step inner_step iter_step selector_step (Inner-F.Former x over None)
inner_former x over (Some c) = ap inner_tokens (sym (inn.rolls-Former x over (Some c))) ∙ fold-roll-Inner Shown Tokens Tokens Tokens expr_step inner_step iter_step selector_step (Inner-F.Former x over (Some c))

pub iter_over : (b : Bound) (s : Expr) → iter_tokens (it.Over b s) ≡ bound_tokens b ++ sign k.In ∷ as_operand (shown s)
iter_over b s = ap iter_tokens (sym (it.rolls-Over b s)) ∙ fold-roll-Iter Shown Tokens Tokens Tokens expr_step inner_step iter_step selector_step (Iter-F.Over b s)

pub iter_image : (y f x : List ℕ) → iter_tokens (it.Image y f x) ≡ name_token y ∷ sign k.Equal ∷ name_token f ∷ sign k.LeftParen ∷ name_token x ∷ sign k.RightParen ∷ []
iter_image y f x = ap iter_tokens (sym (it.rolls-Image y f x)) ∙ fold-roll-Iter Shown Tokens Tokens Tokens expr_step inner_step iter_step selector_step (Iter-F.Image y f x)

pub selector_round : (xs : List Expr) → selector_tokens (se.Round xs) ≡ bracketed k.LeftParen (with_commas (map expr_tokens xs)) k.RightParen
selector_round xs = ap selector_tokens (sym (se.rolls-Round xs)) ∙ fold-roll-Selector Shown Tokens Tokens Tokens expr_step inner_step iter_step selector_step (Selector-F.Round xs) ∙ ap (λ z. bracketed k.LeftParen (with_commas z) k.RightParen) (tokens_map xs)

pub selector_braces : (xs : List Expr) → selector_tokens (se.Braces xs) ≡ bracketed k.LeftBrace (with_commas (map expr_tokens xs)) k.RightBrace
selector_braces xs = ap selector_tokens (sym (se.rolls-Braces xs)) ∙ fold-roll-Selector Shown Tokens Tokens Tokens expr_step inner_step iter_step selector_step (Selector-F.Braces xs) ∙ ap (λ z. bracketed k.LeftBrace (with_commas z) k.RightBrace) (tokens_map xs)

pub selector_slice : (a : Expr) (b : Option Expr) → selector_tokens (se.Slice a b) ≡ sign k.LeftParen ∷ (expr_tokens a ++ sign k.Dots ∷ (optional_expr b ++ sign k.RightParen ∷ []))
selector_slice a None = ap selector_tokens (sym (se.rolls-Slice a None)) ∙ fold-roll-Selector Shown Tokens Tokens Tokens expr_step inner_step iter_step selector_step (Selector-F.Slice a None)
selector_slice a (Some b) = ap selector_tokens (sym (se.rolls-Slice a (Some b))) ∙ fold-roll-Selector Shown Tokens Tokens Tokens expr_step inner_step iter_step selector_step (Selector-F.Slice a (Some b))
