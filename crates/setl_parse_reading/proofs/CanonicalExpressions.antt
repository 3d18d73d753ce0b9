-- The canonical tokens of an expression derive it.
use Rattle.std.proofs.Common.{◌≡◌, ℕ, suc, Bool, true, false, if◌then◌else◌, [], ◌∷◌, ◌++◌, Option, Some, None, refl, sym, ap, subst, ◌∙◌, inl, inr, ◌⊎◌}
use Rattle.std.proofs.lemmas.List.{append-nil}
use Rattle.setl_tree.specs.declared.kind.Kind.{Kind}
use Rattle.setl_tree.specs.declared.kind.Kind.TheVariants as k
use Rattle.setl_tree.specs.declared.expr.Expr.{Expr}
use Rattle.setl_tree.specs.Tokens.{Tokens}
use Rattle.setl_tree.specs.Lang.{Lang}
use Rattle.setl_tree.specs.Expressions as x
use Rattle.setl_tree.specs.Expressions.{Inside}
use Rattle.setl_tree.specs.Canonical.{Shown, shown, alone, operation, selection, sign, bracketed, as_operand, as_primary, expr_tokens}
use Rattle.setl_parse_reading.specs.code.Reading.{same_kind}
use Rattle.setl_parse_reading.proofs.EveryKind.{kinds, every, all_of as all_kinds, same_kind_is}
use Rattle.setl_parse_reading.proofs.Building.{Spells, seq, then_token, then_opening, ends, outside}

-- ---- levels

abbrev pub primary_l : ℕ → Tokens → Expr → Type 0
primary_l room = x.primary room (x.nested room)

abbrev pub e12_l : ℕ → Tokens → Expr → Type 0
e12_l room = x.e12 room (x.nested room)

chain_alone : (level : ℕ) (M : Lang Expr) (toks : Tokens) (y : Expr) → M toks y → x.chain level M toks y
chain_alone level M toks y s = record { front = toks; back = []; value = y; parts = sym (append-nil toks); first = s; second = record { front = []; back = []; value = []; parts = refl; first = refl; second = (refl, refl) } }

module _ (room : ℕ) (toks : Tokens) (y : Expr) where
  abbrev D : Inside
  D = x.nested room

  pub primary_12 : primary_l room toks y → e12_l room toks y
  unfolding x.e12
  primary_12 s = record { front = toks; back = []; value = y; parts = sym (append-nil toks); first = s; second = record { front = []; back = []; value = []; parts = refl; first = refl; second = (refl, refl) } }

  pub up_11 : e12_l room toks y → x.e11 room D toks y
  unfolding x.e11
  up_11 s = record { front = []; back = toks; value = []; parts = refl; first = refl; second = record { front = toks; back = []; value = y; parts = sym (append-nil toks); first = s; second = (refl, refl) } }

  pub up_10 : x.e11 room D toks y → x.e10 room D toks y
  unfolding x.e10
  up_10 s = chain_alone 10 (x.e11 room D) toks y s

  pub up_9 : x.e10 room D toks y → x.e9 room D toks y
  unfolding x.e9
  up_9 s = chain_alone 9 (x.e10 room D) toks y s

  pub up_8 : x.e9 room D toks y → x.e8 room D toks y
  unfolding x.e8
  up_8 s = chain_alone 8 (x.e9 room D) toks y s

  pub up_7 : x.e8 room D toks y → x.e7 room D toks y
  unfolding x.e7
  up_7 s = chain_alone 7 (x.e8 room D) toks y s

  pub up_6 : x.e7 room D toks y → x.e6 room D toks y
  unfolding x.e6
  up_6 s = inl s

  pub up_5 : x.e6 room D toks y → x.e5 room D toks y
  unfolding x.e5
  up_5 s = record { front = []; back = toks; value = []; parts = refl; first = refl; second = record { front = toks; back = []; value = y; parts = sym (append-nil toks); first = s; second = (refl, refl) } }

  pub up_4 : x.e5 room D toks y → x.e4 room D toks y
  unfolding x.e4
  up_4 s = chain_alone 4 (x.e5 room D) toks y s

  pub up_3 : x.e4 room D toks y → x.e3 room D toks y
  unfolding x.e3
  up_3 s = chain_alone 3 (x.e4 room D) toks y s

  pub up_2 : x.e3 room D toks y → x.e2 room D toks y
  unfolding x.e2
  up_2 s = chain_alone 2 (x.e3 room D) toks y s

  pub up_1 : x.e2 room D toks y → x.expr room toks y
  unfolding x.expr x.whole
  up_1 s = inr s

  pub from_3 : x.e3 room D toks y → x.expr room toks y
  from_3 s = up_1 (up_2 s)

  pub from_4 : x.e4 room D toks y → x.expr room toks y
  from_4 s = from_3 (up_3 s)

  pub from_5 : x.e5 room D toks y → x.expr room toks y
  from_5 s = from_4 (up_4 s)

  pub from_6 : x.e6 room D toks y → x.expr room toks y
  from_6 s = from_5 (up_5 s)

  pub from_7 : x.e7 room D toks y → x.expr room toks y
  from_7 s = from_6 (up_6 s)

  pub from_8 : x.e8 room D toks y → x.expr room toks y
  from_8 s = from_7 (up_7 s)

  pub from_9 : x.e9 room D toks y → x.expr room toks y
  from_9 s = from_8 (up_8 s)

  pub from_10 : x.e10 room D toks y → x.expr room toks y
  from_10 s = from_9 (up_9 s)

  pub from_11 : x.e11 room D toks y → x.expr room toks y
  from_11 s = from_10 (up_10 s)

  pub from_12 : e12_l room toks y → x.expr room toks y
  from_12 s = from_11 (up_11 s)

  pub to_10 : e12_l room toks y → x.e10 room D toks y
  to_10 s = up_10 (up_11 s)

  pub to_9 : e12_l room toks y → x.e9 room D toks y
  to_9 s = up_9 (to_10 s)

  pub to_8 : e12_l room toks y → x.e8 room D toks y
  to_8 s = up_8 (to_9 s)

  pub to_7 : e12_l room toks y → x.e7 room D toks y
  to_7 s = up_7 (to_8 s)

  pub to_6 : e12_l room toks y → x.e6 room D toks y
  to_6 s = up_6 (to_7 s)

  pub to_5 : e12_l room toks y → x.e5 room D toks y
  to_5 s = up_5 (to_6 s)

  pub to_4 : e12_l room toks y → x.e4 room D toks y
  to_4 s = up_4 (to_5 s)

  pub to_3 : e12_l room toks y → x.e3 room D toks y
  to_3 s = up_3 (to_4 s)

-- ---- an expression whose tokens derive it

abbrev pub Flags : Expr → Bool → Bool → Type 0
Flags y operates selects = ((shown y).is_operation ≡ operates) × ((shown y).is_selection ≡ selects)

-- the tokens derive it as a primary expression, with its selectors, or as an expression
abbrev pub Canon : Expr → Type 0
Canon y = (Spells primary_l (expr_tokens y) y × Flags y false false) ⊎ ((Spells e12_l (expr_tokens y) y × Flags y false true) ⊎ (Spells x.expr (expr_tokens y) y × Flags y true false))

same_shown : (L : ℕ → Tokens → Expr → Type 0) (y : Expr) (s : Shown) → shown y ≡ s → Spells L s.tokens y → Spells L (expr_tokens y) y
same_shown L y s h p = subst (λ (z : Tokens). Spells L z y) (sym (ap (λ (z : Shown). z.tokens) h)) p

pub canon_alone : (y : Expr) (toks : Tokens) → shown y ≡ alone toks → Spells primary_l toks y → Canon y
canon_alone y toks h p = inl (same_shown primary_l y (alone toks) h p, (ap (λ (z : Shown). z.is_operation) h, ap (λ (z : Shown). z.is_selection) h))

pub canon_selection : (y : Expr) (toks : Tokens) → shown y ≡ selection toks → Spells e12_l toks y → Canon y
canon_selection y toks h p = inr (inl (same_shown e12_l y (selection toks) h p, (ap (λ (z : Shown). z.is_operation) h, ap (λ (z : Shown). z.is_selection) h)))

pub canon_operation : (y : Expr) (toks : Tokens) → shown y ≡ operation toks → Spells x.expr toks y → Canon y
canon_operation y toks h p = inr (inr (same_shown x.expr y (operation toks) h p, (ap (λ (z : Shown). z.is_operation) h, ap (λ (z : Shown). z.is_selection) h)))

parens_at : (m : ℕ) (toks : Tokens) (y : Expr) → x.expr m toks y → primary_l (suc m) (bracketed k.LeftParen toks k.RightParen) y
unfolding x.primary x.nested x.expr
parens_at m toks y s = inr (inr (inr (inr (inl (then_opening m (sign k.LeftParen) (toks ++ sign k.RightParen ∷ []) refl (seq toks (sign k.RightParen ∷ []) y s (then_token (sign k.RightParen) [] refl ends)))))))

parens : (toks : Tokens) (y : Expr) → Spells x.expr toks y → Spells primary_l (bracketed k.LeftParen toks k.RightParen) y
parens toks y s = record { from = suc s.from; at = outside (λ room. primary_l room (bracketed k.LeftParen toks k.RightParen) y) s.from (λ m le. parens_at m toks y (s.at m le)) }

pub primary_expr : (toks : Tokens) (y : Expr) → Spells primary_l toks y → Spells x.expr toks y
primary_expr toks y s = record { from = s.from; at = λ room le. from_12 room toks y (primary_12 room toks y (s.at room le)) }

pub e12_expr : (toks : Tokens) (y : Expr) → Spells e12_l toks y → Spells x.expr toks y
e12_expr toks y s = record { from = s.from; at = λ room le. from_12 room toks y (s.at room le) }

pub primary_e12 : (toks : Tokens) (y : Expr) → Spells primary_l toks y → Spells e12_l toks y
primary_e12 toks y s = record { from = s.from; at = λ room le. primary_12 room toks y (s.at room le) }

pub whole_of : (y : Expr) → Canon y → Spells x.expr (expr_tokens y) y
whole_of y (inl p) = primary_expr (expr_tokens y) y p.0
whole_of y (inr (inl p)) = e12_expr (expr_tokens y) y p.0
whole_of y (inr (inr p)) = p.0

operand_if : (L : ℕ → Tokens → Expr → Type 0) (y : Expr) (b : Bool) → (shown y).is_operation ≡ b → Spells L (if b then bracketed k.LeftParen (expr_tokens y) k.RightParen else expr_tokens y) y → Spells L (as_operand (shown y)) y
operand_if L y b h p = subst (λ (z : Bool). Spells L (if z then bracketed k.LeftParen (expr_tokens y) k.RightParen else expr_tokens y) y) (sym h) p

primary_if : (L : ℕ → Tokens → Expr → Type 0) (y : Expr) (b : Bool) → (shown y).is_selection ≡ b → Spells L (if b then bracketed k.LeftParen (expr_tokens y) k.RightParen else as_operand (shown y)) y → Spells L (as_primary (shown y)) y
primary_if L y b h p = subst (λ (z : Bool). Spells L (if z then bracketed k.LeftParen (expr_tokens y) k.RightParen else as_operand (shown y)) y) (sym h) p

pub operand_of : (y : Expr) → Canon y → Spells e12_l (as_operand (shown y)) y
operand_of y (inl p) = operand_if e12_l y false p.1.0 (primary_e12 (expr_tokens y) y p.0)
operand_of y (inr (inl p)) = operand_if e12_l y false p.1.0 p.0
operand_of y (inr (inr p)) = operand_if e12_l y true p.1.0 (primary_e12 (bracketed k.LeftParen (expr_tokens y) k.RightParen) y (parens (expr_tokens y) y p.0))

pub primary_of : (y : Expr) → Canon y → Spells primary_l (as_primary (shown y)) y
primary_of y (inl p) = primary_if primary_l y false p.1.1 (operand_if primary_l y false p.1.0 p.0)
primary_of y (inr (inl p)) = primary_if primary_l y true p.1.1 (parens (expr_tokens y) y (e12_expr (expr_tokens y) y p.0))
primary_of y (inr (inr p)) = primary_if primary_l y false p.1.1 (operand_if primary_l y true p.1.0 (parens (expr_tokens y) y p.0))

-- ---- the token of an operator

-- whether the value that a token stands for is written by that token
abbrev pub written_by : {A : Type 0} → (A → Kind) → (Kind → Option A) → Kind → Bool
written_by kind_of meaning kind = elim (meaning kind) as (λ _. Bool) [ None ↦ true | Some a ↦ same_kind (kind_of a) kind ]

written : {A : Type 0} (kind_of : A → Kind) (kind : Kind) (o : Option A) (a : A) → o ≡ Some a → (elim o as (λ _. Bool) [ None ↦ true | Some a ↦ same_kind (kind_of a) kind ]) ≡ true → kind_of a ≡ kind
written kind_of kind None a h test = absurd cc
written kind_of kind (Some b) a h test = let p : b ≡ a = cc in ap kind_of (sym p) ∙ same_kind_is (kind_of b) kind test

pub means_back : {A : Type 0} (kind_of : A → Kind) (meaning : Kind → Option A) → all_kinds (written_by kind_of meaning) kinds ≡ true → (kind : Kind) (a : A) → meaning kind ≡ Some a → meaning (kind_of a) ≡ Some a
means_back kind_of meaning all kind a h = ap meaning (written kind_of kind (meaning kind) a h (every (written_by kind_of meaning) all kind)) ∙ h
