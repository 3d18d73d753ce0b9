-- Where reading an expression stops.
use Rattle.std.proofs.Common.{◌≡◌, ℕ, zero, suc, ◌-◌, Bool, true, false, [], ◌∷◌, ◌++◌, Some, None, Err, length, refl, sym, ap, subst, ◌∙◌, arith, inl, inr}
use Rattle.std.proofs.lemmas.List.{append-nil}
use Rattle.setl_tree.specs.declared.kind.Kind.{Kind}
use Rattle.setl_tree.specs.declared.kind.Kind.TheVariants as k
use Rattle.setl_tree.specs.declared.expr.Relation.TheVariants as rel
use Rattle.setl_tree.specs.declared.expr.Prefix.TheVariants as pre
use Rattle.setl_tree.specs.declared.expr.Fold.TheVariants as fold
use Rattle.setl_tree.specs.declared.expr.Quantifier.TheVariants as qu
use Rattle.setl_tree.specs.declared.expr.Selector.TheVariants as se
use Rattle.setl_tree.specs.declared.expr.Inner.TheVariants as inn
use Rattle.setl_tree.specs.declared.expr.Expr.{Expr}
use Rattle.setl_tree.specs.declared.expr.Expr.TheVariants as e
use Rattle.setl_tree.specs.Tokens.{Token, Tokens}
use Rattle.setl_tree.specs.Lang.{Lang, Then, IsToken}
use Rattle.setl_tree.specs.Lang as lang
use Rattle.setl_tree.specs.Operators.{relation_op, not_sign, prefix_op, fold_sign, quantifier, constant, prefixed, selected}
use Rattle.setl_tree.specs.Expressions as grammar
use Rattle.setl_parse_reading.specs.Fronts.{opens_nesting}
use Rattle.setl_parse_reading.specs.code.Reading.{open_if, ◌>>=◌, pure, expect, opening, one_of, is, begins_as}
use Rattle.setl_parse_reading.specs.code.ReadExpressions as r
use Rattle.setl_parse_reading.proofs.EveryKind.{kinds}
use Rattle.setl_parse_reading.proofs.Laws.{always, goes_to, many_none, within, begins_one_of}
use Rattle.setl_parse_reading.specs.declared.fault.Fault.TheVariants.{Nesting}
use Rattle.setl_parse_reading.proofs.EveryKind.{same_kind_self}
use Rattle.setl_parse_reading.proofs.Reach.{fails_to, Reach, reach_then, reach_pure}
use Rattle.setl_parse_reading.proofs.Exact.{Exact, weak, exact_then, exact_map, exact_pure, exact_expect, exact_one_of, exact_choose, exact_either, exact_as, exact_by, exact_opening, exact_opening_one_of, exact_many, exact_more, exact_separated, exact_name, token_of}
use Rattle.setl_parse_reading.proofs.Bounds.{exact_iters}
use Rattle.setl_parse_reading.proofs.Levels.{exact_chain, exact_chain_from, op_2, op_3, op_4, op_7, op_8, op_9, op_10, level_2, level_3, level_4, level_7, level_8, level_9, level_10}
use Rattle.setl_parse_reading.proofs.Scanning.{OpenSlots, closes_slots}
use Rattle.setl_parse_reading.proofs.Insides.{IsExact, IsInside}
use Rattle.setl_parse_reading.proofs.Expressions as laws
use Rattle.setl_parse_reading.proofs.Expressions.{begins_prefix, inside_nested}
use Rattle.setl_parse_reading.proofs.Inners.{exact_inner}

-- ---- prefixes

pub exact_fold : {always : Bool} {room : ℕ} → Exact always room r.fold (Then (lang.one_of fold_sign) (λ o. Then (lang.token k.Slash) (λ _. lang.pure (pre.Folded o))))
unfolding r.fold fold_sign opens_nesting kinds
exact_fold = exact_then (exact_one_of fold_sign k.Plus fold.Plus refl refl (within refl)) (λ o. exact_map (λ _. pre.Folded o) (exact_expect k.Slash refl))

pub exact_prefix : {always : Bool} {room : ℕ} → Exact always room r.prefix grammar.prefix
unfolding r.prefix grammar.prefix prefix_op opens_nesting kinds
exact_prefix = exact_as (exact_choose (begins_as fold_sign) exact_fold (exact_one_of prefix_op k.Minus pre.Minus refl refl (within refl))) (λ toks a s. elim s [ inl f ↦ inr f | inr o ↦ inl o ])

pub exact_prefixes : {always : Bool} {room : ℕ} → Exact always room r.prefixes (lang.many grammar.prefix)
unfolding r.prefixes
exact_prefixes = exact_many r.begins_prefix exact_prefix begins_prefix

pub exact_nots : {always : Bool} {room : ℕ} → Exact always room r.nots (lang.many (lang.one_of not_sign))
unfolding r.nots not_sign opens_nesting kinds
exact_nots = exact_many (begins_as not_sign) (exact_one_of not_sign k.Not pre.Not refl refl (within refl)) (begins_one_of not_sign)

module _ (room : ℕ) (R : r.Inside) (L : grammar.Inside) (E : (inside : ℕ) → room ≡ suc inside → IsInside inside R L) where
  -- an operand is a source and an expression
  operand_source : (toks : Tokens) (y : Expr) → grammar.e11 room L toks y → grammar.e7 room L toks y
  unfolding grammar.e10 grammar.e9 grammar.e8 grammar.e7
  operand_source toks y s = (laws.chain_alone room R L E) 7 (grammar.e8 room L) toks y ((laws.chain_alone room R L E) 8 (grammar.e9 room L) toks y ((laws.chain_alone room R L E) 9 (grammar.e10 room L) toks y ((laws.chain_alone room R L E) 10 (grammar.e11 room L) toks y s)))

  operand_whole : (toks : Tokens) (y : Expr) → grammar.e11 room L toks y → grammar.whole room L toks y
  unfolding grammar.e6 grammar.e5 grammar.e4 grammar.e3 grammar.e2 grammar.whole
  operand_whole toks y s =
      let at_6 : grammar.e6 room L toks y = inl (operand_source toks y s) in
      let at_5 : grammar.e5 room L toks y = record { front = []; back = toks; value = []; parts = refl; first = refl; second = record { front = toks; back = []; value = y; parts = sym (append-nil toks); first = at_6; second = (refl, refl) } } in
      inr ((laws.chain_alone room R L E) 2 (grammar.e3 room L) toks y ((laws.chain_alone room R L E) 3 (grammar.e4 room L) toks y ((laws.chain_alone room R L E) 4 (grammar.e5 room L) toks y at_5)))

  minus_name : (t u : Token) → t.kind ≡ k.Minus → u.kind ≡ k.Name → grammar.e11 room L (t ∷ u ∷ []) (prefixed (pre.Minus ∷ []) (e.Name u.text))
  unfolding grammar.e11 grammar.e12 grammar.prefix
  minus_name t u minus name =
      let sign : lang.many grammar.prefix (t ∷ []) (pre.Minus ∷ []) = record { front = t ∷ []; back = []; parts = refl; first = inl (record { it = t; alone = refl; means = ap prefix_op minus ∙ (laws.minus_facts room R L E).3 }); second = refl } in
      let at_12 : grammar.e12 room L (u ∷ []) (e.Name u.text) = record { front = u ∷ []; back = []; value = e.Name u.text; parts = refl; first = (laws.name_primary room R L E) u name; second = record { front = []; back = []; value = []; parts = refl; first = refl; second = (refl, refl) } } in
      record { front = t ∷ []; back = u ∷ []; value = pre.Minus ∷ []; parts = refl; first = sign; second = record { front = u ∷ []; back = []; value = e.Name u.text; parts = refl; first = at_12; second = (refl, refl) } }

  module _ (X : (inside : ℕ) → room ≡ suc inside → IsExact inside R L) where
    module _ (inside : ℕ) (is_suc : room ≡ suc inside) where
      abbrev there : IsExact inside R L
      there = X inside is_suc

      exact_slice : {always : Bool} (a : Expr) → Exact always inside (r.slice room R a) ((laws.slice_l room R L E) a)
      unfolding r.slice opens_nesting
      exact_slice a = exact_choose (is k.RightParen)
          (exact_map (λ _. se.Slice a None) (exact_expect k.RightParen refl))
          (exact_then (weak there.expr) (λ b. exact_map (λ _. se.Slice a (Some b)) (exact_expect k.RightParen refl)))

      exact_arguments : {always : Bool} (a : Expr) → Exact always inside (r.arguments room R a) ((laws.arguments_l room R L E) a)
      unfolding r.arguments opens_nesting
      exact_arguments a = exact_choose (is k.Dots)
          (exact_then (exact_expect k.Dots refl) (λ _. exact_slice a))
          (exact_then (exact_more (weak there.expr)) (λ xs. exact_map (λ _. se.Round (a ∷ xs)) (exact_expect k.RightParen refl)))

      exact_round : {always : Bool} → Exact always inside (r.round room R) (laws.round_l room R L E)
      unfolding r.round opens_nesting
      exact_round = exact_choose (is k.RightParen)
          (exact_map (λ _. se.Round []) (exact_expect k.RightParen refl))
          (exact_then (weak there.expr) exact_arguments)

      exact_inside : {always : Bool} → Exact always inside (r.inner (room - 1) R) (grammar.inner (room - 1) L)
      exact_inside {always = always} = subst (λ (z : ℕ). Exact always inside (r.inner z R) (grammar.inner z L)) ((laws.inside_room room R L E) inside is_suc) (exact_inner inside R L (E inside is_suc) there)

      exact_former : {always : Bool} → Exact always inside (r.iters (room - 1) R.source) (grammar.iters (room - 1) L.source)
      exact_former {always = always} = subst (λ (z : ℕ). Exact always inside (r.iters z R.source) (grammar.iters z L.source)) ((laws.inside_room room R L E) inside is_suc) (exact_iters inside R.source L.source (E inside is_suc).source there.source)

    pub exact_braces : Exact false room (r.braces room R) (laws.braces_l room R L E)
    unfolding r.braces opens_nesting
    exact_braces = exact_opening room k.LeftBrace refl (λ m s _. exact_then (exact_separated (weak (X m s).expr)) (λ xs. exact_map (λ _. se.Braces xs) (exact_expect k.RightBrace refl)))

    pub exact_selector : Exact false room (r.selector room R) (grammar.selector room L)
    unfolding r.selector opens_nesting
    exact_selector = exact_as (exact_choose (is k.LeftParen) (exact_opening room k.LeftParen refl (λ m s _. exact_round m s)) exact_braces) (laws.selector_to room R L E)

    pub exact_selectors : {always : Bool} → Exact always room (r.selectors room R) (lang.many (grammar.selector room L))
    unfolding r.selectors
    exact_selectors = exact_many r.begins_selector exact_selector (laws.begins_selector room R L E)

    exact_parenthesized : Exact false room (r.parenthesized room R) (laws.parenthesized_l room R L E)
    unfolding r.parenthesized opens_nesting
    exact_parenthesized = exact_opening room k.LeftParen refl (λ m s _. exact_then (weak (X m s).expr) (λ x. exact_map (λ _. x) (exact_expect k.RightParen refl)))

    exact_if : Exact false room (r.if_expr room R) (laws.if_l room R L E)
    unfolding r.if_expr opens_nesting
    exact_if = exact_opening room k.If refl (λ m s _. exact_then (weak (X m s).expr) (λ a. exact_then (exact_expect k.Then refl) (λ _. exact_then (weak (X m s).expr) (λ b. exact_then (exact_expect k.Else refl) (λ _. exact_then (weak (X m s).expr) (λ c.
        exact_map (λ _. e.If a b c) (exact_expect k.End refl)))))))

    exact_set : Exact false room (r.set room R) (laws.set_l room R L E)
    unfolding r.set opens_nesting
    exact_set = exact_opening room k.LeftBrace refl (λ m s _. exact_then (exact_inside m s) (λ x. exact_map (λ _. e.Set x) (exact_expect k.RightBrace refl)))

    exact_tuple : Exact false room (r.tuple room R) (laws.tuple_l room R L E)
    unfolding r.tuple opens_nesting
    exact_tuple = exact_opening room k.LeftBracket refl (λ m s _. exact_then (exact_inside m s) (λ x. exact_map (λ _. e.Tuple x) (exact_expect k.RightBracket refl)))

    exact_word : {always : Bool} → Exact always room (one_of constant) (lang.one_of constant)
    unfolding constant opens_nesting kinds
    exact_word = exact_one_of constant k.Om e.Om refl refl (within refl)

    exact_kind : (kind : Kind) → Exact false room (r.primary_by room R kind) (grammar.primary room L)
    unfolding grammar.primary opens_nesting
    exact_kind k.Number = exact_as (exact_map (λ t. e.Number t.value) (exact_expect k.Number refl)) (λ u a s. inl s)
    exact_kind k.StringLiteral = exact_as (exact_map (λ t. e.Text t.text) (exact_expect k.StringLiteral refl)) (λ u a s. inr (inl s))
    exact_kind k.Name = exact_as (exact_map e.Name exact_name) (λ u a s. inr (inr (inr (inl s))))
    exact_kind k.LeftParen = exact_as exact_parenthesized (λ u a s. inr (inr (inr (inr (inl s)))))
    exact_kind k.If = exact_as exact_if (λ u a s. inr (inr (inr (inr (inr (inl s))))))
    exact_kind k.LeftBrace = exact_as exact_set (λ u a s. inr (inr (inr (inr (inr (inr (inl s)))))))
    exact_kind k.LeftBracket = exact_as exact_tuple (λ u a s. inr (inr (inr (inr (inr (inr (inr s)))))))
    exact_kind _ = exact_as exact_word (λ u a s. inr (inr (inl s)))

    pub exact_primary : Exact true room (r.primary room R) (grammar.primary room L)
    unfolding r.primary
    exact_primary = exact_by exact_kind (λ _. record { toks = token_of k.Name ∷ []; value = e.Name []; spelled = (laws.name_primary room R L E) (token_of k.Name) refl })

    pub exact_e12 : Exact true room (r.e12 room R) (grammar.e12 room L)
    unfolding r.e12 grammar.e12
    exact_e12 = exact_then exact_primary (λ p. exact_map (selected p) exact_selectors)

    pub exact_e11 : Exact true room (r.e11 room R) (grammar.e11 room L)
    unfolding r.e11 grammar.e11
    exact_e11 = exact_then exact_prefixes (λ ps. exact_map (prefixed ps) exact_e12)

    pub exact_e7 : Exact true room (r.e7 room R) (grammar.e7 room L)
    unfolding r.e7 grammar.e7 grammar.e8 grammar.e9 grammar.e10
    exact_e7 = exact_chain level_7 op_7 (exact_chain level_8 op_8 (exact_chain level_9 op_9 (exact_chain level_10 op_10 exact_e11)))

    exact_compared : {always : Bool} (a : Expr) → Exact always room (r.compared room R a) ((laws.compared_l room R L E) a)
    unfolding r.compared relation_op opens_nesting kinds
    exact_compared a = exact_choose (begins_as relation_op)
        (exact_then (exact_one_of relation_op k.Equal rel.Equal refl refl (within refl)) (λ o. exact_map (λ b. e.Compare a o b) (weak exact_e7)))
        (exact_pure a)

    pub exact_e6 : Exact true room (r.e6 room R) (grammar.e6 room L)
    unfolding r.e6
    exact_e6 = exact_as (exact_then exact_e7 exact_compared) (laws.e6_to room R L E)

    pub exact_e5 : Exact true room (r.e5 room R) (grammar.e5 room L)
    unfolding r.e5 grammar.e5
    exact_e5 = exact_then exact_nots (λ ps. exact_map (prefixed ps) exact_e6)

    pub exact_e2 : Exact true room (r.e2 room R) (grammar.e2 room L)
    unfolding r.e2 grammar.e2 grammar.e3 grammar.e4
    exact_e2 = exact_chain level_2 op_2 (exact_chain level_3 op_3 (exact_chain level_4 op_4 exact_e5))

    pub reach_after : (a : Expr) → Reach room (r.after room R a)
    unfolding r.after grammar.e3 grammar.e4
    reach_after a = reach_then (reach_then (reach_then (reach_pure a)
        (λ a. (exact_chain_from {always = true} level_4 op_4 exact_e5 a).reach))
        (λ a. (exact_chain_from {always = true} level_3 op_3 (exact_chain level_4 op_4 exact_e5) a).reach))
        (λ a. (exact_chain_from {always = true} level_2 op_2 (exact_chain level_3 op_3 (exact_chain level_4 op_4 exact_e5)) a).reach)

    exact_quantified : Exact false room (r.quantified room R) (laws.quantified_l room R L E)
    unfolding r.quantified laws.quantified_l quantifier opens_nesting kinds
    exact_quantified = exact_opening_one_of room quantifier k.Exists qu.Exists refl refl (within refl) (λ m s q. exact_then (exact_former m s) (λ over. exact_then (exact_expect k.Bar refl) (λ _. exact_map (λ x. e.Quantified q over x) (weak (X m s).expr))))

    pub exact_whole : Exact true room (r.whole room R) (grammar.whole room L)
    unfolding r.whole grammar.whole laws.quantified_l
    exact_whole = exact_either (begins_as quantifier) exact_quantified exact_e2

    -- names behind a bracket go on to a tuple
    tuple_goes : (inside : ℕ) → room ≡ suc inside → (t : Token) (toks : Tokens) → t.kind ≡ k.LeftBracket → OpenSlots toks → (more : Tokens) × (a : Expr) × grammar.whole room L (t ∷ (toks ++ more)) a
    unfolding grammar.primary grammar.inner
    tuple_goes inside is_suc t toks bracket slots =
        let minus : Token = token_of k.Name in
        let c = closes_slots L.expr (λ t name. (e.Name t.text, (E inside is_suc).name_expr t name)) (λ t hole. let m = (X inside is_suc).minus_expr t minus hole refl in (minus ∷ [], m.0, m.1)) toks slots in
        let list : grammar.inner (room - 1) L c.list (inn.List c.values) = inl (record { front = c.list; back = []; value = c.values; parts = sym (append-nil c.list); first = inr c.spelled; second = (refl, refl) }) in
        let opens : lang.opening room k.LeftBracket (t ∷ []) t = subst (λ (z : ℕ). lang.opening z k.LeftBracket (t ∷ []) t) (sym is_suc) (record { alone = refl; kind = bracket }) in
        let tuple : grammar.primary room L (t ∷ (c.list ++ c.close ∷ [])) (e.Tuple (inn.List c.values)) = inr (inr (inr (inr (inr (inr (inr (record {
          front = t ∷ [];
          back = c.list ++ c.close ∷ [];
          value = t;
          parts = refl;
          first = opens;
          second = record {
            front = c.list;
            back = c.close ∷ [];
            value = inn.List c.values;
            parts = refl;
            first = list;
            second = record { front = c.close ∷ []; back = []; value = c.close; parts = refl; first = record { alone = refl; kind = c.closed }; second = (refl, refl) };
          };
        }))))))) in
        (c.more, e.Tuple (inn.List c.values), subst (λ (z : Tokens). grammar.whole room L (t ∷ z) (e.Tuple (inn.List c.values))) (sym c.parts) ((laws.primary_whole room R L E) (t ∷ (c.list ++ c.close ∷ [])) (e.Tuple (inn.List c.values)) tuple))

    opening_shut : (t : Token) (toks : Tokens) → t.kind ≡ k.LeftBracket → opening zero k.LeftBracket (t ∷ toks) ≡ Err (Nesting (suc (length toks)))
    unfolding opening
    opening_shut t toks bracket =
        let here : is k.LeftBracket t.kind ≡ true = ap (is k.LeftBracket) bracket ∙ same_kind_self k.LeftBracket in
        ap (λ (b : Bool). open_if zero b (t ∷ toks)) here

    -- a bracket that may not open
    bracket_shut : room ≡ zero → (t : Token) (toks : Tokens) → t.kind ≡ k.LeftBracket → r.whole room R (t ∷ toks) ≡ Err (Nesting (suc (length toks)))
    unfolding r.e6 r.e7 r.e11 r.e12 r.prefixes r.primary r.tuple
    bracket_shut none t toks bracket =
        let no_prefix = many_none r.begins_prefix r.prefix (t ∷ toks) (ap r.begins_prefix bracket ∙ (laws.bracket_facts room R L E).2) in
        let as_tuple : r.primary room R (t ∷ toks) ≡ r.tuple room R (t ∷ toks) = ap (λ (z : Kind). r.primary_by room R z (t ∷ toks)) bracket in
        let opened : opening room k.LeftBracket (t ∷ toks) ≡ Err (Nesting (suc (length toks))) = ap (λ (z : ℕ). opening z k.LeftBracket (t ∷ toks)) none ∙ opening_shut t toks bracket in
        let at_tuple : r.primary room R (t ∷ toks) ≡ Err (Nesting (suc (length toks))) = as_tuple ∙ fails_to (λ _. r.inner (room - 1) R >>= λ x. expect k.RightBracket >>= λ _. pure (e.Tuple x)) opened in
        let at_12 : r.e12 room R (t ∷ toks) ≡ Err (Nesting (suc (length toks))) = fails_to (λ p. r.selectors room R >>= λ ss. pure (selected p ss)) at_tuple in
        let at_11 : r.e11 room R (t ∷ toks) ≡ Err (Nesting (suc (length toks))) = goes_to (λ ps. r.e12 room R >>= λ x. pure (prefixed ps x)) no_prefix ∙ fails_to (λ x. pure (prefixed [] x)) at_12 in
        let at_7 = fails_to (r.chain_from 7 (r.levels 10 (r.e11 room R) 3)) (fails_to (r.chain_from 8 (r.levels 10 (r.e11 room R) 2)) (fails_to (r.chain_from 9 (r.levels 10 (r.e11 room R) 1)) (fails_to (r.chain_from 10 (r.e11 room R)) at_11))) in
        (laws.whole_is room R L E) (t ∷ toks) (ap (begins_as quantifier) bracket ∙ (laws.bracket_facts room R L E).0) (ap (begins_as not_sign) bracket ∙ (laws.bracket_facts room R L E).1) ∙ fails_to (r.after room R) (fails_to (r.compared room R) at_7)

    pub is_exact : IsExact room (record { expr = r.whole room R; source = r.e7 room R; after = r.after room R }) (record { expr = grammar.whole room L; source = grammar.e7 room L })
    is_exact = record {
      expr = exact_whole;
      source = exact_e7;
      after = reach_after;
      minus_expr = λ t u minus name. (prefixed (pre.Minus ∷ []) (e.Name u.text), operand_whole (t ∷ u ∷ []) (prefixed (pre.Minus ∷ []) (e.Name u.text)) (minus_name t u minus name));
      shut = bracket_shut;
      goes = tuple_goes;
    }

-- ---- where reading stops

pub nested_exact : (room inside : ℕ) → room ≡ suc inside → IsExact inside (r.nested room) (grammar.nested room)
unfolding r.nested grammar.nested
nested_exact zero inside h = absurd (omega (arith, h))
nested_exact (suc room) inside h = subst (λ (z : ℕ). IsExact z (r.nested (suc room)) (grammar.nested (suc room))) (omega (arith, h)) (is_exact room (r.nested room) (grammar.nested room) (inside_nested room) (nested_exact room))

pub exact_expr : {always : Bool} (room : ℕ) → Exact always room (r.expr room) (grammar.expr room)
unfolding r.expr grammar.expr
exact_expr room = weak (exact_whole room (r.nested room) (grammar.nested room) (inside_nested room) (nested_exact room))
