-- What begins an expression, and reading expressions where so many nestings may still open.
use Rattle.std.proofs.Common.{◌≡◌, ℕ, zero, suc, Bool, true, false, if◌then◌else◌, List, [], ◌∷◌, ◌++◌, length, Ok, Err, refl, ap, ◌∙◌, inl, inr, ◌⊎◌}
use Rattle.setl_tree.specs.declared.kind.Kind.{Kind}
use Rattle.setl_tree.specs.declared.kind.Kind.TheVariants as k
use Rattle.setl_tree.specs.declared.expr.Relation.TheVariants as rel
use Rattle.setl_tree.specs.declared.expr.Bound.TheVariants as bd
use Rattle.setl_tree.specs.declared.expr.Inner.TheVariants as inn
use Rattle.setl_tree.specs.declared.expr.Expr.{Expr}
use Rattle.setl_tree.specs.declared.expr.Expr.TheVariants as e
use Rattle.setl_tree.specs.Tokens.{Token, Tokens}
use Rattle.setl_tree.specs.Lang.{Lang, Then}
use Rattle.setl_tree.specs.Lang as lang
use Rattle.setl_tree.specs.Operators.{not_sign, quantifier}
use Rattle.setl_tree.specs.Expressions as grammar
use Rattle.setl_parse_reading.specs.declared.ahead.Ahead.TheVariants.{Expression, Pattern}
use Rattle.setl_parse_reading.specs.declared.fault.Fault.TheVariants.{Nesting}
use Rattle.setl_parse_reading.specs.code.Reading.{◌>>=◌, pure, expect, opening, is, begins_as, next_kind, same_kind, separated}
use Rattle.setl_parse_reading.specs.code.Scan.{either_at, ends_slot, slots_ahead}
use Rattle.setl_parse_reading.specs.code.ReadExpressions as r
use Rattle.setl_parse_reading.proofs.Laws.{Law, Begins, Fails, fails_then, fails_at, passes, opening_fails}
use Rattle.setl_parse_reading.proofs.Reach.{Reach}
use Rattle.setl_parse_reading.proofs.Exact.{Exact}
use Rattle.setl_parse_reading.proofs.Bounds.{below, starts_bound}
use Rattle.setl_parse_reading.proofs.Scanning.{OpenSlots, mapped}

-- ---- what begins an expression

unfoldable pub starts_primary : Kind → Bool
starts_primary k.Number = true
starts_primary k.StringLiteral = true
starts_primary k.Om = true
starts_primary k.True = true
starts_primary k.False = true
starts_primary k.Newat = true
starts_primary k.Eof = true
starts_primary k.Ok = true
starts_primary k.Name = true
starts_primary k.LeftParen = true
starts_primary k.If = true
starts_primary k.LeftBrace = true
starts_primary k.LeftBracket = true
starts_primary _ = false

-- an operand with its prefixes
abbrev pub starts_operand : Kind → Bool
starts_operand kind = if r.begins_prefix kind then true else starts_primary kind

abbrev pub starts_logic : Kind → Bool
starts_logic kind = if begins_as not_sign kind then true else starts_operand kind

abbrev pub starts : Kind → Bool
starts kind = if begins_as quantifier kind then true else starts_logic kind

-- names in brackets
abbrev pub names_l : ℕ → Lang (List (List ℕ))
names_l room = Then (lang.opening room k.LeftBracket) (λ _. Then (lang.separated lang.name) (λ xs. Then (lang.token k.RightBracket) (λ _. lang.pure xs)))

-- Reading expressions where so many nestings may still open.
pub record IsInside (room : ℕ) (R : r.Inside) (L : grammar.Inside) : Type 0 where
  pub expr : Law R.expr L.expr (below 2)
  pub source : Law R.source L.source (below 7)
  pub begins : Begins starts L.expr
  -- a name, and names in brackets
  pub name_expr : (t : Token) → t.kind ≡ k.Name → L.expr (t ∷ []) (e.Name t.text)
  pub name_source : (t : Token) → t.kind ≡ k.Name → L.source (t ∷ []) (e.Name t.text)
  pub names_source : (toks : Tokens) (xs : List (List ℕ)) → names_l room toks xs → L.source toks (e.Tuple (inn.List (mapped e.Name xs)))
  -- an expression that begins with the left side of `in`
  pub goes_on : (i rest : Tokens) (a : Expr) → starts_bound (next_kind i) ≡ true → R.source i ≡ Ok (a, rest) → next_kind rest ≡ k.In
      → R.expr i ≡ (expect k.In >>= λ _. R.source >>= λ s. R.after (e.Compare a rel.In s)) rest
  pub stays : (i : Tokens) (a : Expr) → below 2 (next_kind i) ≡ true → R.after a i ≡ Ok (a, i)
  -- a `-` that no operand follows
  pub no_operand : (t u : Token) (toks : Tokens) → t.kind ≡ k.Minus → ends_slot u.kind ≡ true → Fails (R.expr (t ∷ u ∷ toks))
  -- a bracket that may not open, or that a pattern with a `-` opens
  pub no_tuple : (t : Token) (toks : Tokens) → t.kind ≡ k.LeftBracket → (room ≡ zero) ⊎ (slots_ahead toks ≡ Pattern) → Fails (R.expr (t ∷ toks))

-- What stands before a fault in such expressions is a front, and reading stops where the tokens before it show.
pub record IsExact (room : ℕ) (R : r.Inside) (L : grammar.Inside) : Type 0 where
  pub expr : Exact true room R.expr L.expr
  pub source : Exact true room R.source L.source
  pub after : (a : Expr) → Reach room (R.after a)
  -- a `-` before a name
  pub minus_expr : (t u : Token) → t.kind ≡ k.Minus → u.kind ≡ k.Name → (a : Expr) × L.expr (t ∷ u ∷ []) a
  -- a bracket that may not open
  pub shut : room ≡ zero → (t : Token) (toks : Tokens) → t.kind ≡ k.LeftBracket → R.expr (t ∷ toks) ≡ Err (Nesting (suc (length toks)))
  -- names behind a bracket, up to the end of the tokens
  pub goes : (inside : ℕ) → room ≡ suc inside → (t : Token) (toks : Tokens) → t.kind ≡ k.LeftBracket → OpenSlots toks → (more : Tokens) × (a : Expr) × L.expr (t ∷ (toks ++ more)) a

pub zero_or_more : (room : ℕ) → (room ≡ zero) ⊎ ((m : ℕ) × (room ≡ suc m))
zero_or_more zero = inl refl
zero_or_more (suc m) = inr (m, refl)

pub not_pattern : Expression ≡ Pattern → ⊥
not_pattern h = cc

pub no_pattern_none : slots_ahead [] ≡ Pattern → ⊥
unfolding slots_ahead
no_pattern_none h = cc

pub no_pattern_one : (t : Token) → slots_ahead (t ∷ []) ≡ Pattern → ⊥
unfolding slots_ahead
no_pattern_one t h = cc

pub minus_opens : r.closes k.Minus ≡ false
unfolding r.closes
minus_opens = refl

pub name_opens : r.closes k.Name ≡ false
unfolding r.closes
name_opens = refl

pub comma_expression : either_at k.Comma ≡ Expression
unfolding same_kind
comma_expression = refl

-- with no room a bracket does not open
pub bracket_no_name : is k.Name k.LeftBracket ≡ false
unfolding same_kind
bracket_no_name = refl

pub bracket_fails : (i : Tokens) → next_kind i ≡ k.LeftBracket → Fails (r.bound zero i)
unfolding r.bound r.pattern
bracket_fails i h = fails_at (passes (is k.Name) _ _ i (ap (is k.Name) h ∙ bracket_no_name))
    (fails_then (r.pattern zero) (λ slots. pure (bd.Pattern slots)) i
    (fails_then (opening zero k.LeftBracket) (λ _. separated r.slot >>= λ slots. expect k.RightBracket >>= λ _. pure slots) i (opening_fails k.LeftBracket i)))
