-- The canonical tokens of an expression that legal tokens derive are legal.
use Rattle.std.proofs.Common.{◌≡◌, ℕ, ℤ, zero, suc, ◌-◌, pos, Bool, true, false, List, [], ◌∷◌, map, Option, Some, None, refl, sym, ap, subst, ◌∙◌}
use Rattle.setl_tree.specs.declared.kind.Kind.{Kind}
use Rattle.setl_tree.specs.declared.kind.Kind.TheVariants as k
use Rattle.setl_tree.specs.declared.expr.BinaryOp.{BinaryOp}
use Rattle.setl_tree.specs.declared.expr.BinaryOp.TheVariants as op
use Rattle.setl_tree.specs.declared.expr.Relation.{Relation}
use Rattle.setl_tree.specs.declared.expr.Relation.TheVariants as rel
use Rattle.setl_tree.specs.declared.expr.Fold.{Fold}
use Rattle.setl_tree.specs.declared.expr.Fold.TheVariants as fd
use Rattle.setl_tree.specs.declared.expr.Prefix.{Prefix}
use Rattle.setl_tree.specs.declared.expr.Prefix.TheVariants as pre
use Rattle.setl_tree.specs.declared.expr.Quantifier.{Quantifier}
use Rattle.setl_tree.specs.declared.expr.Quantifier.TheVariants as qu
use Rattle.setl_tree.specs.declared.expr.Slot.{Slot}
use Rattle.setl_tree.specs.declared.expr.Bound.{Bound}
use Rattle.setl_tree.specs.declared.expr.Expr.{Expr, fold-roll-Expr}
use Rattle.setl_tree.specs.declared.expr.Expr.TheVariants as e
use Rattle.setl_tree.specs.declared.expr.Expr.TheOpen.{Expr-F, Inner-F, Iter-F, Selector-F}
use Rattle.setl_tree.specs.declared.expr.Inner.{Inner, fold-roll-Inner}
use Rattle.setl_tree.specs.declared.expr.Inner.TheVariants as inn
use Rattle.setl_tree.specs.declared.expr.Iter.{Iter, fold-roll-Iter}
use Rattle.setl_tree.specs.declared.expr.Iter.TheVariants as it
use Rattle.setl_tree.specs.declared.expr.Selector.{Selector, fold-roll-Selector}
use Rattle.setl_tree.specs.declared.expr.Selector.TheVariants as se
use Rattle.setl_tree.specs.Tokens.{Tokens}
use Rattle.setl_tree.specs.Lang.{Lang}
use Rattle.setl_tree.specs.Operators.{constant, chain_of, prefixed, selected}
use Rattle.setl_tree.specs.Expressions as x
use Rattle.setl_tree.specs.Canonical.{Shown, shown, tokens_of, sign, bracketed, as_operand, as_primary, operand_tokens, all_prefixes, prefix_tokens, op_kind, relation_kind, fold_kind, quantifier_kind, slot_tokens, pattern_tokens, bound_tokens, expr_tokens, inner_tokens, iter_tokens, selector_tokens, with_commas, behind_commas, expr_step, inner_step, iter_step, selector_step}
use Rattle.setl_token.specs.Spellings.{IsSpelled}
use Rattle.setl_show_laws.specs.Reading.{IsNameText, IsLegal, AreLegal}
use Rattle.setl_show_laws.proofs.Legal.{none, both, word, named, literal, Each, Maybe, all_legal, commas, Keeps, k_any, k_pure, k_never, k_then, k_or, k_token, k_name, k_one_of, k_many, k_optional, k_past, k_separated, k_listed}

-- ---- operators

op_spelled : (o : BinaryOp) → IsSpelled (op_kind o)
op_spelled op.Impl = tt
op_spelled _ = tt

relation_spelled : (o : Relation) → IsSpelled (relation_kind o)
relation_spelled rel.Equal = tt
relation_spelled _ = tt

fold_spelled : (o : Fold) → IsSpelled (fold_kind o)
fold_spelled fd.Plus = tt
fold_spelled _ = tt

quantifier_spelled : (q : Quantifier) → IsSpelled (quantifier_kind q)
quantifier_spelled qu.Exists = tt
quantifier_spelled _ = tt

pub op_word : {rest : Tokens} (o : BinaryOp) → AreLegal rest → AreLegal (sign (op_kind o) ∷ rest)
op_word o r = word (op_kind o) (op_spelled o) r

prefix_legal : (p : Prefix) → AreLegal (prefix_tokens p)
prefix_legal (pre.Folded f) = word (fold_kind f) (fold_spelled f) (word k.Slash tt none)
prefix_legal pre.Not = word k.Not tt none
prefix_legal pre.Minus = word k.Minus tt none
prefix_legal pre.Size = word k.Hash tt none
prefix_legal pre.Abs = word k.Abs tt none
prefix_legal pre.Even = word k.Even tt none
prefix_legal pre.Odd = word k.Odd tt none
prefix_legal pre.Pow = word k.Pow tt none
prefix_legal pre.Domain = word k.Domain tt none
prefix_legal pre.Range = word k.Range tt none
prefix_legal pre.Arb = word k.Arb tt none
prefix_legal pre.Str = word k.Str tt none
prefix_legal pre.IsInteger = word k.IsInteger tt none
prefix_legal pre.IsString = word k.IsString tt none
prefix_legal pre.IsBoolean = word k.IsBoolean tt none
prefix_legal pre.IsAtom = word k.IsAtom tt none
prefix_legal pre.IsTuple = word k.IsTuple tt none
prefix_legal pre.IsSet = word k.IsSet tt none
prefix_legal pre.IsMap = word k.IsMap tt none

prefixes_legal : (ps : List Prefix) → AreLegal (all_prefixes ps)
prefixes_legal [] = none
prefixes_legal (p ∷ ps) = both (prefix_legal p) (prefixes_legal ps)

-- ---- what has legal tokens

abbrev pub Good : Expr → Type 0
Good y = AreLegal (expr_tokens y)

abbrev pub GoodInner : Inner → Type 0
GoodInner y = AreLegal (inner_tokens y)

abbrev pub GoodIter : Iter → Type 0
GoodIter y = AreLegal (iter_tokens y)

abbrev pub GoodSelector : Selector → Type 0
GoodSelector y = AreLegal (selector_tokens y)

abbrev pub GoodSlot : Slot → Type 0
GoodSlot y = AreLegal (slot_tokens y)

abbrev pub GoodPattern : List Slot → Type 0
GoodPattern slots = AreLegal (pattern_tokens slots)

abbrev pub GoodBound : Bound → Type 0
GoodBound b = AreLegal (bound_tokens b)

in_parens : {toks : Tokens} → AreLegal toks → AreLegal (bracketed k.LeftParen toks k.RightParen)
in_parens h = word k.LeftParen tt (both h (word k.RightParen tt none))

operand_if : (b : Bool) (s : Shown) → s.is_operation ≡ b → AreLegal s.tokens → AreLegal (as_operand s)
operand_if true s e h = rw e (in_parens h)
operand_if false s e h = rw e h

operand_legal : (s : Shown) → AreLegal s.tokens → AreLegal (as_operand s)
operand_legal s h = operand_if s.is_operation s refl h

primary_if : (b : Bool) (s : Shown) → s.is_selection ≡ b → AreLegal s.tokens → AreLegal (as_primary s)
primary_if true s e h = rw e (in_parens h)
primary_if false s e h = rw e (operand_legal s h)

primary_legal : (s : Shown) → AreLegal s.tokens → AreLegal (as_primary s)
primary_legal s h = primary_if s.is_selection s refl h

behind_shown : (xs : List Expr) → Each Good xs → AreLegal (behind_commas (tokens_of (map shown xs)))
behind_shown [] h = none
behind_shown (y ∷ ys) h = word k.Comma tt (both h.0 (behind_shown ys h.1))

list_shown : (xs : List Expr) → Each Good xs → AreLegal (with_commas (tokens_of (map shown xs)))
list_shown [] h = none
list_shown (y ∷ ys) h = both h.0 (behind_shown ys h.1)

operands_legal : (xs : List (BinaryOp × Expr)) → Each (λ p. Good p.1) xs → AreLegal (operand_tokens (map (λ p. (p.0, shown p.1)) xs))
operands_legal [] h = none
operands_legal (p ∷ ps) h = op_word p.0 (both (operand_legal (shown p.1) h.0) (operands_legal ps h.1))

-- ---- each form

from_shown : (y : Expr) (s : Shown) → shown y ≡ s → AreLegal s.tokens → Good y
from_shown y s h p = subst (λ (z : Shown). AreLegal z.tokens) (sym h) p

from_tokens : (a b : Tokens) → a ≡ b → AreLegal b → AreLegal a
from_tokens a b h p = subst AreLegal (sym h) p

pub good_number : (n : ℤ) → IsLegal k.Number [] n → Good (e.Number n)
good_number n h = from_shown (e.Number n) _ (ap shown (sym (e.rolls-Number n)) ∙ fold-roll-Expr Shown Tokens Tokens Tokens expr_step inner_step iter_step selector_step (Expr-F.Number n)) (literal k.Number [] n h)

pub good_text : (t : List ℕ) → IsLegal k.StringLiteral t (pos 0) → Good (e.Text t)
good_text t h = from_shown (e.Text t) _ (ap shown (sym (e.rolls-Text t)) ∙ fold-roll-Expr Shown Tokens Tokens Tokens expr_step inner_step iter_step selector_step (Expr-F.Text t)) (literal k.StringLiteral t (pos 0) h)

pub good_om : Good e.Om
good_om = from_shown e.Om _ (ap shown (sym e.rolls-Om) ∙ fold-roll-Expr Shown Tokens Tokens Tokens expr_step inner_step iter_step selector_step Expr-F.Om) (word k.Om tt none)

pub good_true : Good e.True
good_true = from_shown e.True _ (ap shown (sym e.rolls-True) ∙ fold-roll-Expr Shown Tokens Tokens Tokens expr_step inner_step iter_step selector_step Expr-F.True) (word k.True tt none)

pub good_false : Good e.False
good_false = from_shown e.False _ (ap shown (sym e.rolls-False) ∙ fold-roll-Expr Shown Tokens Tokens Tokens expr_step inner_step iter_step selector_step Expr-F.False) (word k.False tt none)

pub good_newat : Good e.Newat
good_newat = from_shown e.Newat _ (ap shown (sym e.rolls-Newat) ∙ fold-roll-Expr Shown Tokens Tokens Tokens expr_step inner_step iter_step selector_step Expr-F.Newat) (word k.Newat tt none)

pub good_eof : Good e.Eof
good_eof = from_shown e.Eof _ (ap shown (sym e.rolls-Eof) ∙ fold-roll-Expr Shown Tokens Tokens Tokens expr_step inner_step iter_step selector_step Expr-F.Eof) (word k.Eof tt none)

pub good_ok : Good e.Ok
good_ok = from_shown e.Ok _ (ap shown (sym e.rolls-Ok) ∙ fold-roll-Expr Shown Tokens Tokens Tokens expr_step inner_step iter_step selector_step Expr-F.Ok) (word k.Ok tt none)

pub good_name : (x : List ℕ) → IsNameText x → Good (e.Name x)
good_name x h = from_shown (e.Name x) _ (ap shown (sym (e.rolls-Name x)) ∙ fold-roll-Expr Shown Tokens Tokens Tokens expr_step inner_step iter_step selector_step (Expr-F.Name x)) (named h none)

pub good_if : (a b c : Expr) → Good a → Good b → Good c → Good (e.If a b c)
good_if a b c ga gb gc = from_shown (e.If a b c) _ (ap shown (sym (e.rolls-If a b c)) ∙ fold-roll-Expr Shown Tokens Tokens Tokens expr_step inner_step iter_step selector_step (Expr-F.If a b c)) (word k.If tt (both ga (word k.Then tt (both gb (word k.Else tt (both gc (word k.End tt none)))))))

pub good_set : (y : Inner) → GoodInner y → Good (e.Set y)
good_set y g = from_shown (e.Set y) _ (ap shown (sym (e.rolls-Set y)) ∙ fold-roll-Expr Shown Tokens Tokens Tokens expr_step inner_step iter_step selector_step (Expr-F.Set y)) (word k.LeftBrace tt (both g (word k.RightBrace tt none)))

pub good_tuple : (y : Inner) → GoodInner y → Good (e.Tuple y)
good_tuple y g = from_shown (e.Tuple y) _ (ap shown (sym (e.rolls-Tuple y)) ∙ fold-roll-Expr Shown Tokens Tokens Tokens expr_step inner_step iter_step selector_step (Expr-F.Tuple y)) (word k.LeftBracket tt (both g (word k.RightBracket tt none)))

pub good_chain : (first : Expr) (others : List (BinaryOp × Expr)) → Good first → Each (λ p. Good p.1) others → Good (e.Chain first others)
good_chain first others g gs = from_shown (e.Chain first others) _ (ap shown (sym (e.rolls-Chain first others)) ∙ fold-roll-Expr Shown Tokens Tokens Tokens expr_step inner_step iter_step selector_step (Expr-F.Chain first others)) (both (operand_legal (shown first) g) (operands_legal others gs))

pub good_compare : (a : Expr) (o : Relation) (b : Expr) → Good a → Good b → Good (e.Compare a o b)
good_compare a o b ga gb = from_shown (e.Compare a o b) _ (ap shown (sym (e.rolls-Compare a o b)) ∙ fold-roll-Expr Shown Tokens Tokens Tokens expr_step inner_step iter_step selector_step (Expr-F.Compare a o b)) (both (operand_legal (shown a) ga) (word (relation_kind o) (relation_spelled o) (operand_legal (shown b) gb)))

pub good_prefixed : (ps : List Prefix) (y : Expr) → Good y → Good (e.Prefixed ps y)
good_prefixed ps y g = from_shown (e.Prefixed ps y) _ (ap shown (sym (e.rolls-Prefixed ps y)) ∙ fold-roll-Expr Shown Tokens Tokens Tokens expr_step inner_step iter_step selector_step (Expr-F.Prefixed ps y)) (both (prefixes_legal ps) (operand_legal (shown y) g))

pub good_selected : (p : Expr) (ss : List Selector) → Good p → Each GoodSelector ss → Good (e.Selected p ss)
good_selected p ss g gs = from_shown (e.Selected p ss) _ (ap shown (sym (e.rolls-Selected p ss)) ∙ fold-roll-Expr Shown Tokens Tokens Tokens expr_step inner_step iter_step selector_step (Expr-F.Selected p ss)) (both (primary_legal (shown p) g) (all_legal selector_tokens ss gs))

pub good_quantified : (q : Quantifier) (over : List Iter) (y : Expr) → Each GoodIter over → Good y → Good (e.Quantified q over y)
good_quantified q over y gs g = from_shown (e.Quantified q over y) _ (ap shown (sym (e.rolls-Quantified q over y)) ∙ fold-roll-Expr Shown Tokens Tokens Tokens expr_step inner_step iter_step selector_step (Expr-F.Quantified q over y)) (word (quantifier_kind q) (quantifier_spelled q) (both (commas iter_tokens over gs) (word k.Bar tt g)))

pub inner_list : (xs : List Expr) → Each Good xs → GoodInner (inn.List xs)
inner_list xs h = from_tokens (inner_tokens (inn.List xs)) _ (ap inner_tokens (sym (inn.rolls-List xs)) ∙ fold-roll-Inner Shown Tokens Tokens Tokens expr_step inner_step iter_step selector_step (Inner-F.List xs)) (list_shown xs h)

pub inner_range : (a : Expr) (b : Option Expr) (c : Expr) → Good a → Maybe Good b → Good c → GoodInner (inn.Range a b c)
inner_range a None c ga gb gc = from_tokens (inner_tokens (inn.Range a None c)) _ (ap inner_tokens (sym (inn.rolls-Range a None c)) ∙ fold-roll-Inner Shown Tokens Tokens Tokens expr_step inner_step iter_step selector_step (Inner-F.Range a None c)) (both ga (word k.Dots tt gc))
inner_range a (Some b) c ga gb gc = from_tokens (inner_tokens (inn.Range a (Some b) c)) _ (ap inner_tokens (sym (inn.rolls-Range a (Some b) c)) ∙ fold-roll-Inner Shown Tokens Tokens Tokens expr_step inner_step iter_step selector_step (Inner-F.Range a (Some b) c)) (both ga (word k.Comma tt (both gb (word k.Dots tt gc))))

pub inner_former : (y : Expr) (over : List Iter) (c : Option Expr) → Good y → Each GoodIter over → Maybe Good c → GoodInner (inn.Former y over c)
inner_former y over None g gs gc = from_tokens (inner_tokens (inn.Former y over None)) _ (ap inner_tokens (sym (inn.rolls-Former y over None)) ∙ fold-roll-Inner Shown Tokens Tokens Tokens expr_step inner_step iter_step selector_step (Inner-F.Former y over None)) (both g (word k.Colon tt (both (commas iter_tokens over gs) none)))
inner_former y over (Some c) g gs gc = from_tokens (inner_tokens (inn.Former y over (Some c))) _ (ap inner_tokens (sym (inn.rolls-Former y over (Some c))) ∙ fold-roll-Inner Shown Tokens Tokens Tokens expr_step inner_step iter_step selector_step (Inner-F.Former y over (Some c))) (both g (word k.Colon tt (both (commas iter_tokens over gs) (word k.Bar tt gc))))

pub inner_filter : (b : Bound) (s c : Expr) → GoodBound b → Good s → Good c → GoodInner (inn.Filter b s c)
inner_filter b s c gb gs gc = from_tokens (inner_tokens (inn.Filter b s c)) _ (ap inner_tokens (sym (inn.rolls-Filter b s c)) ∙ fold-roll-Inner Shown Tokens Tokens Tokens expr_step inner_step iter_step selector_step (Inner-F.Filter b s c)) (both gb (word k.In tt (both (operand_legal (shown s) gs) (word k.Bar tt gc))))

pub iter_over : (b : Bound) (s : Expr) → GoodBound b → Good s → GoodIter (it.Over b s)
iter_over b s gb gs = from_tokens (iter_tokens (it.Over b s)) _ (ap iter_tokens (sym (it.rolls-Over b s)) ∙ fold-roll-Iter Shown Tokens Tokens Tokens expr_step inner_step iter_step selector_step (Iter-F.Over b s)) (both gb (word k.In tt (operand_legal (shown s) gs)))

pub iter_image : (y f v : List ℕ) → IsNameText y → IsNameText f → IsNameText v → GoodIter (it.Image y f v)
iter_image y f v hy hf hv = from_tokens (iter_tokens (it.Image y f v)) _ (ap iter_tokens (sym (it.rolls-Image y f v)) ∙ fold-roll-Iter Shown Tokens Tokens Tokens expr_step inner_step iter_step selector_step (Iter-F.Image y f v)) (named hy (word k.Equal tt (named hf (word k.LeftParen tt (named hv (word k.RightParen tt none))))))

pub selector_round : (xs : List Expr) → Each Good xs → GoodSelector (se.Round xs)
selector_round xs h = from_tokens (selector_tokens (se.Round xs)) _ (ap selector_tokens (sym (se.rolls-Round xs)) ∙ fold-roll-Selector Shown Tokens Tokens Tokens expr_step inner_step iter_step selector_step (Selector-F.Round xs)) (word k.LeftParen tt (both (list_shown xs h) (word k.RightParen tt none)))

pub selector_braces : (xs : List Expr) → Each Good xs → GoodSelector (se.Braces xs)
selector_braces xs h = from_tokens (selector_tokens (se.Braces xs)) _ (ap selector_tokens (sym (se.rolls-Braces xs)) ∙ fold-roll-Selector Shown Tokens Tokens Tokens expr_step inner_step iter_step selector_step (Selector-F.Braces xs)) (word k.LeftBrace tt (both (list_shown xs h) (word k.RightBrace tt none)))

pub selector_slice : (a : Expr) (b : Option Expr) → Good a → Maybe Good b → GoodSelector (se.Slice a b)
selector_slice a None ga gb = from_tokens (selector_tokens (se.Slice a None)) _ (ap selector_tokens (sym (se.rolls-Slice a None)) ∙ fold-roll-Selector Shown Tokens Tokens Tokens expr_step inner_step iter_step selector_step (Selector-F.Slice a None)) (word k.LeftParen tt (both ga (word k.Dots tt (word k.RightParen tt none))))
selector_slice a (Some b) ga gb = from_tokens (selector_tokens (se.Slice a (Some b))) _ (ap selector_tokens (sym (se.rolls-Slice a (Some b))) ∙ fold-roll-Selector Shown Tokens Tokens Tokens expr_step inner_step iter_step selector_step (Selector-F.Slice a (Some b))) (word k.LeftParen tt (both ga (word k.Dots tt (both gb (word k.RightParen tt none)))))

chain_legal : (first : Expr) (others : List (BinaryOp × Expr)) → Good first → Each (λ p. Good p.1) others → Good (chain_of first others)
chain_legal first [] g gs = g
chain_legal first (p ∷ ps) g gs = good_chain first (p ∷ ps) g gs

prefixed_legal : (ps : List Prefix) (y : Expr) → Good y → Good (prefixed ps y)
prefixed_legal [] y g = g
prefixed_legal (p ∷ ps) y g = good_prefixed (p ∷ ps) y g

selected_legal : (p : Expr) (ss : List Selector) → Good p → Each GoodSelector ss → Good (selected p ss)
selected_legal p [] g gs = g
selected_legal p (z ∷ ss) g gs = good_selected p (z ∷ ss) g gs

constant_legal : (kind : Kind) → Maybe Good (constant kind)
unfolding constant
constant_legal k.Om = good_om
constant_legal k.True = good_true
constant_legal k.False = good_false
constant_legal k.Newat = good_newat
constant_legal k.Eof = good_eof
constant_legal k.Ok = good_ok
constant_legal _ = tt

number_ok : (t : List ℕ) (v : ℤ) → IsLegal k.Number t v → IsLegal k.Number [] v
unfolding IsLegal
number_ok t v h = (refl, h.1)

text_ok : (t : List ℕ) (v : ℤ) → IsLegal k.StringLiteral t v → IsLegal k.StringLiteral t (pos 0)
unfolding IsLegal
text_ok t v h = (h.0, refl)

-- ---- the grammar

slot_keeps : Keeps x.slot GoodSlot
unfolding x.slot
slot_keeps = k_or (k_then k_name (λ n h. k_pure (named h none))) (k_past (k_pure (word k.Minus tt none)))

slots_legal : (slots : List Slot) → Each GoodSlot slots → GoodPattern slots
slots_legal slots h = word k.LeftBracket tt (both (commas slot_tokens slots h) (word k.RightBracket tt none))

pub pattern_keeps : (room : ℕ) → Keeps (x.pattern room) GoodPattern
unfolding x.pattern
pattern_keeps room = k_past (k_then (k_separated slot_keeps) (λ slots h. k_past (k_pure (slots_legal slots h))))

bound_keeps : (room : ℕ) → Keeps (x.bound room) GoodBound
unfolding x.bound
bound_keeps room = k_or (k_then k_name (λ n h. k_pure (named h none))) (k_then (pattern_keeps room) (λ slots h. k_pure h))

iter_keeps : (room : ℕ) (source : Lang Expr) → Keeps source Good → Keeps (x.iter room source) GoodIter
unfolding x.iter
iter_keeps room source k_source = k_or
    (k_then (bound_keeps room) (λ b gb. k_past (k_then k_source (λ s gs. k_pure (iter_over b s gb gs)))))
    (k_then k_name (λ y hy. k_past (k_then k_name (λ f hf. k_past (k_then k_name (λ v hv. k_past (k_pure (iter_image y f v hy hf hv))))))))

pub iters_keeps : (room : ℕ) (source : Lang Expr) → Keeps source Good → Keeps (x.iters room source) (Each GoodIter)
unfolding x.iters
iters_keeps room source k_source = k_separated (iter_keeps room source k_source)

operand_keeps : (level : ℕ) (item : Lang Expr) → Keeps item Good → Keeps (x.operand level item) (λ p. Good p.1)
operand_keeps level item k_item = k_then k_any (λ o _. k_then k_item (λ y g. k_pure g))

chain_keeps : (level : ℕ) (item : Lang Expr) → Keeps item Good → Keeps (x.chain level item) Good
chain_keeps level item k_item = k_then k_item (λ first g. k_then (k_many (operand_keeps level item k_item)) (λ others gs. k_pure (chain_legal first others g gs)))

inner_keeps : (room : ℕ) (here : x.Inside) → Keeps here.expr Good → Keeps here.source Good → Keeps (x.inner room here) GoodInner
unfolding x.inner
inner_keeps room here k_expr k_source = k_or (k_then (k_listed k_expr) (λ xs h. k_pure (inner_list xs h)))
    (k_or (k_then k_expr (λ a ga. k_then (k_optional (k_past k_expr)) (λ b gb. k_past (k_then k_expr (λ c gc. k_pure (inner_range a b c ga gb gc))))))
    (k_or (k_then k_expr (λ y g. k_past (k_then (iters_keeps room here.source k_source) (λ over gs. k_then (k_optional (k_past k_expr)) (λ c gc. k_pure (inner_former y over c g gs gc))))))
    (k_then (bound_keeps room) (λ b gb. k_past (k_then k_source (λ s gs. k_past (k_then k_expr (λ c gc. k_pure (inner_filter b s c gb gs gc)))))))))

module _ (room : ℕ) (deep : x.Inside) (k_expr : Keeps deep.expr Good) (k_source : Keeps deep.source Good) where
  selector_keeps : Keeps (x.selector room deep) GoodSelector
  unfolding x.selector
  selector_keeps = k_or (k_past (k_then (k_listed k_expr) (λ xs h. k_past (k_pure (selector_round xs h)))))
      (k_or (k_past (k_then k_expr (λ a ga. k_past (k_then (k_optional k_expr) (λ b gb. k_past (k_pure (selector_slice a b ga gb)))))))
      (k_past (k_then (k_separated k_expr) (λ xs h. k_past (k_pure (selector_braces xs h))))))

  primary_keeps : Keeps (x.primary room deep) Good
  unfolding x.primary
  primary_keeps = k_or (k_then (k_token k.Number) (λ t h. k_pure (good_number t.value (number_ok t.text t.value h))))
      (k_or (k_then (k_token k.StringLiteral) (λ t h. k_pure (good_text t.text (text_ok t.text t.value h))))
      (k_or (k_one_of constant constant_legal)
      (k_or (k_then k_name (λ n h. k_pure (good_name n h)))
      (k_or (k_past (k_then k_expr (λ y g. k_past (k_pure g))))
      (k_or (k_past (k_then k_expr (λ a ga. k_past (k_then k_expr (λ b gb. k_past (k_then k_expr (λ c gc. k_past (k_pure (good_if a b c ga gb gc)))))))))
      (k_or (k_past (k_then (inner_keeps (room - 1) deep k_expr k_source) (λ y g. k_past (k_pure (good_set y g)))))
      (k_past (k_then (inner_keeps (room - 1) deep k_expr k_source) (λ y g. k_past (k_pure (good_tuple y g)))))))))))

  k12 : Keeps (x.e12 room deep) Good
  unfolding x.e12
  k12 = k_then primary_keeps (λ p g. k_then (k_many selector_keeps) (λ ss gs. k_pure (selected_legal p ss g gs)))

  k11 : Keeps (x.e11 room deep) Good
  unfolding x.e11
  k11 = k_then k_any (λ ps _. k_then k12 (λ y g. k_pure (prefixed_legal ps y g)))

  k10 : Keeps (x.e10 room deep) Good
  unfolding x.e10
  k10 = chain_keeps 10 (x.e11 room deep) k11

  k9 : Keeps (x.e9 room deep) Good
  unfolding x.e9
  k9 = chain_keeps 9 (x.e10 room deep) k10

  k8 : Keeps (x.e8 room deep) Good
  unfolding x.e8
  k8 = chain_keeps 8 (x.e9 room deep) k9

  pub k7 : Keeps (x.e7 room deep) Good
  unfolding x.e7
  k7 = chain_keeps 7 (x.e8 room deep) k8

  k6 : Keeps (x.e6 room deep) Good
  unfolding x.e6
  k6 = k_or k7 (k_then k7 (λ a ga. k_then k_any (λ o _. k_then k7 (λ b gb. k_pure (good_compare a o b ga gb)))))

  k5 : Keeps (x.e5 room deep) Good
  unfolding x.e5
  k5 = k_then k_any (λ ps _. k_then k6 (λ y g. k_pure (prefixed_legal ps y g)))

  k4 : Keeps (x.e4 room deep) Good
  unfolding x.e4
  k4 = chain_keeps 4 (x.e5 room deep) k5

  k3 : Keeps (x.e3 room deep) Good
  unfolding x.e3
  k3 = chain_keeps 3 (x.e4 room deep) k4

  k2 : Keeps (x.e2 room deep) Good
  unfolding x.e2
  k2 = chain_keeps 2 (x.e3 room deep) k3

  pub whole_keeps : Keeps (x.whole room deep) Good
  unfolding x.whole
  whole_keeps = k_or (k_then k_any (λ q _. k_then (iters_keeps (room - 1) deep.source k_source) (λ over gs. k_past (k_then k_expr (λ y g. k_pure (good_quantified q over y gs g)))))) k2

-- expressions and sources that stand one nesting deeper
pub nested_keeps : (room : ℕ) → Keeps (x.nested room).expr Good × Keeps (x.nested room).source Good
unfolding x.nested
nested_keeps zero = (k_never, k_never)
nested_keeps (suc room) =
    let deep = nested_keeps room in
    (whole_keeps room (x.nested room) deep.0 deep.1, k7 room (x.nested room) deep.0 deep.1)

pub expr_keeps : (room : ℕ) → Keeps (x.expr room) Good
unfolding x.expr
expr_keeps room = let deep = nested_keeps room in whole_keeps room (x.nested room) deep.0 deep.1
