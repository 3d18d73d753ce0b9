-- Tokens with other lines spell the same expressions.
use Rattle.std.proofs.Common.{ℕ, zero, suc, ◌-◌, refl, ap}
use Rattle.setl_tree.specs.declared.kind.Kind.TheVariants as k
use Rattle.setl_tree.specs.declared.expr.Expr.{Expr}
use Rattle.setl_tree.specs.declared.expr.Expr.TheVariants as e
use Rattle.setl_tree.specs.Tokens.{Tokens}
use Rattle.setl_tree.specs.Lang.{Lang}
use Rattle.setl_tree.specs.Operators.{op_at, relation_op, not_sign, prefix_op, fold_sign, quantifier, constant}
use Rattle.setl_tree.specs.Expressions as x
use Rattle.setl_show_laws.proofs.Moves.{Moves, Eq, m_pure, m_never, m_then, s_then, m_past, m_or, m_token, m_one_of, m_opening, m_opening_one_of, m_name, s_many, s_optional, s_separated, s_listed}

-- tokens with other lines spell the same
abbrev pub Stays : {A : Type 0} → (Tokens → A → Type 0) → Type 0
Stays L = Moves L L Eq

slot_stays : Stays x.slot
unfolding x.slot
slot_stays = m_or (s_then m_name (λ n. m_pure refl)) (m_past (m_token k.Minus) (m_pure refl))

pub pattern_stays : (room : ℕ) → Stays (x.pattern room)
unfolding x.pattern
pattern_stays room = m_past (m_opening room k.LeftBracket) (s_then (s_separated slot_stays) (λ slots. m_past (m_token k.RightBracket) (m_pure refl)))

bound_stays : (room : ℕ) → Stays (x.bound room)
unfolding x.bound
bound_stays room = m_or (s_then m_name (λ n. m_pure refl)) (s_then (pattern_stays room) (λ slots. m_pure refl))

iter_stays : (room : ℕ) (source : Lang Expr) → Stays source → Stays (x.iter room source)
unfolding x.iter
iter_stays room source stays = m_or
    (s_then (bound_stays room) (λ b. m_past (m_token k.In) (s_then stays (λ s. m_pure refl))))
    (s_then m_name (λ y. m_past (m_token k.Equal) (s_then m_name (λ f. m_past (m_opening room k.LeftParen) (s_then m_name (λ v. m_past (m_token k.RightParen) (m_pure refl)))))))

pub iters_stay : (room : ℕ) (source : Lang Expr) → Stays source → Stays (x.iters room source)
unfolding x.iters
iters_stay room source stays = s_separated (iter_stays room source stays)

chain_stays : (level : ℕ) (item : Lang Expr) → Stays item → Stays (x.chain level item)
chain_stays level item stays = s_then stays (λ first. s_then (s_many (s_then (m_one_of (op_at level)) (λ o. s_then stays (λ y. m_pure refl)))) (λ others. m_pure refl))

prefix_stays : Stays x.prefix
unfolding x.prefix
prefix_stays = m_or (m_one_of prefix_op) (s_then (m_one_of fold_sign) (λ o. m_past (m_token k.Slash) (m_pure refl)))

inner_stays : (room : ℕ) (here : x.Inside) → Stays here.expr → Stays here.source → Stays (x.inner room here)
unfolding x.inner
inner_stays room here s_expr s_source = m_or (s_then (s_listed s_expr) (λ xs. m_pure refl))
    (m_or (s_then s_expr (λ a. s_then (s_optional (m_past (m_token k.Comma) s_expr)) (λ b. m_past (m_token k.Dots) (s_then s_expr (λ c. m_pure refl)))))
    (m_or (s_then s_expr (λ y. m_past (m_token k.Colon) (s_then (iters_stay room here.source s_source) (λ over. s_then (s_optional (m_past (m_token k.Bar) s_expr)) (λ c. m_pure refl)))))
    (s_then (bound_stays room) (λ b. m_past (m_token k.In) (s_then s_source (λ s. m_past (m_token k.Bar) (s_then s_expr (λ c. m_pure refl))))))))

module _ (room : ℕ) (deep : x.Inside) (s_expr : Stays deep.expr) (s_source : Stays deep.source) where
  selector_stays : Stays (x.selector room deep)
  unfolding x.selector
  selector_stays = m_or (m_past (m_opening room k.LeftParen) (s_then (s_listed s_expr) (λ xs. m_past (m_token k.RightParen) (m_pure refl))))
      (m_or (m_past (m_opening room k.LeftParen) (s_then s_expr (λ a. m_past (m_token k.Dots) (s_then (s_optional s_expr) (λ b. m_past (m_token k.RightParen) (m_pure refl))))))
      (m_past (m_opening room k.LeftBrace) (s_then (s_separated s_expr) (λ xs. m_past (m_token k.RightBrace) (m_pure refl)))))

  primary_stays : Stays (x.primary room deep)
  unfolding x.primary
  primary_stays = m_or (m_then (m_token k.Number) (λ t u h. m_pure (ap e.Number h.1)))
      (m_or (m_then (m_token k.StringLiteral) (λ t u h. m_pure (ap e.Text h.0)))
      (m_or (m_one_of constant)
      (m_or (s_then m_name (λ n. m_pure refl))
      (m_or (m_past (m_opening room k.LeftParen) (s_then s_expr (λ y. m_past (m_token k.RightParen) (m_pure refl))))
      (m_or (m_past (m_opening room k.If) (s_then s_expr (λ a. m_past (m_token k.Then) (s_then s_expr (λ b. m_past (m_token k.Else) (s_then s_expr (λ c. m_past (m_token k.End) (m_pure refl))))))))
      (m_or (m_past (m_opening room k.LeftBrace) (s_then (inner_stays (room - 1) deep s_expr s_source) (λ y. m_past (m_token k.RightBrace) (m_pure refl))))
      (m_past (m_opening room k.LeftBracket) (s_then (inner_stays (room - 1) deep s_expr s_source) (λ y. m_past (m_token k.RightBracket) (m_pure refl))))))))))

  s12 : Stays (x.e12 room deep)
  unfolding x.e12
  s12 = s_then primary_stays (λ p. s_then (s_many selector_stays) (λ ss. m_pure refl))

  s11 : Stays (x.e11 room deep)
  unfolding x.e11
  s11 = s_then (s_many prefix_stays) (λ ps. s_then s12 (λ y. m_pure refl))

  s10 : Stays (x.e10 room deep)
  unfolding x.e10
  s10 = chain_stays 10 (x.e11 room deep) s11

  s9 : Stays (x.e9 room deep)
  unfolding x.e9
  s9 = chain_stays 9 (x.e10 room deep) s10

  s8 : Stays (x.e8 room deep)
  unfolding x.e8
  s8 = chain_stays 8 (x.e9 room deep) s9

  pub s7 : Stays (x.e7 room deep)
  unfolding x.e7
  s7 = chain_stays 7 (x.e8 room deep) s8

  s6 : Stays (x.e6 room deep)
  unfolding x.e6
  s6 = m_or s7 (s_then s7 (λ a. s_then (m_one_of relation_op) (λ o. s_then s7 (λ b. m_pure refl))))

  s5 : Stays (x.e5 room deep)
  unfolding x.e5
  s5 = s_then (s_many (m_one_of not_sign)) (λ ps. s_then s6 (λ y. m_pure refl))

  s4 : Stays (x.e4 room deep)
  unfolding x.e4
  s4 = chain_stays 4 (x.e5 room deep) s5

  s3 : Stays (x.e3 room deep)
  unfolding x.e3
  s3 = chain_stays 3 (x.e4 room deep) s4

  s2 : Stays (x.e2 room deep)
  unfolding x.e2
  s2 = chain_stays 2 (x.e3 room deep) s3

  pub whole_stays : Stays (x.whole room deep)
  unfolding x.whole
  whole_stays = m_or (s_then (m_opening_one_of room quantifier) (λ q. s_then (iters_stay (room - 1) deep.source s_source) (λ over. m_past (m_token k.Bar) (s_then s_expr (λ y. m_pure refl))))) s2

-- expressions and sources that stand one nesting deeper
pub nested_stay : (room : ℕ) → Stays (x.nested room).expr × Stays (x.nested room).source
unfolding x.nested
nested_stay zero = (m_never, m_never)
nested_stay (suc room) =
    let deep = nested_stay room in
    (whole_stays room (x.nested room) deep.0 deep.1, s7 room (x.nested room) deep.0 deep.1)

pub expr_stays : (room : ℕ) → Stays (x.expr room)
unfolding x.expr
expr_stays room = let deep = nested_stay room in whole_stays room (x.nested room) deep.0 deep.1
