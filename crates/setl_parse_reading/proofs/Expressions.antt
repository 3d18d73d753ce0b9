-- Reading expressions.
use Rattle.std.proofs.Common.{◌≡◌, ℕ, zero, suc, ◌-◌, true, false, not, List, [], ◌∷◌, ◌++◌, Option, Some, None, Ok, Err, refl, sym, ap, subst, ◌∙◌, arith, inl, inr, ◌⊎◌}
use Rattle.std.proofs.lemmas.List.{append-nil}
use Rattle.setl_tree.specs.declared.kind.Kind.{Kind}
use Rattle.setl_tree.specs.declared.kind.Kind.TheVariants as k
use Rattle.setl_tree.specs.declared.expr.Relation.TheVariants as rel
use Rattle.setl_tree.specs.declared.expr.Prefix.TheVariants as pre
use Rattle.setl_tree.specs.declared.expr.Selector.{Selector}
use Rattle.setl_tree.specs.declared.expr.Selector.TheVariants as se
use Rattle.setl_tree.specs.declared.expr.Inner.TheVariants as inn
use Rattle.setl_tree.specs.declared.expr.Expr.{Expr}
use Rattle.setl_tree.specs.declared.expr.Expr.TheVariants as e
use Rattle.setl_tree.specs.Tokens.{Token, Tokens}
use Rattle.setl_tree.specs.Lang.{Lang, Then, IsToken}
use Rattle.setl_tree.specs.Lang as lang
use Rattle.setl_tree.specs.Operators.{level_of, op_at, binary_op, relation_op, not_sign, prefix_op, fold_sign, quantifier, constant, chain_of, prefixed, selected}
use Rattle.setl_tree.specs.Expressions as grammar
use Rattle.setl_parse_reading.specs.declared.ahead.Ahead.TheVariants.{Pattern}
use Rattle.setl_parse_reading.specs.code.Reading.{but, Outcome, Reader, ◌>>=◌, and_then, pure, peek, expect, opening, one_of, meant, is, begins_as, next_kind, rest_of, same_kind}
use Rattle.setl_parse_reading.specs.code.Scan.{ends_slot, slots_ahead}
use Rattle.setl_parse_reading.specs.code.ReadExpressions as r
use Rattle.setl_parse_reading.proofs.EveryKind.{kinds}
use Rattle.setl_parse_reading.proofs.Laws.{Took, Law, Follows, Within, Begins, Fails, always, anything, took_as, fails_then, fails_at, takes, passes, goes_to, opening_fails, opening_takes, many_none, same_outcome, bind_assoc, law_of, chosen, next_of, not_is, within, within_always, same, law_pure, law_then, law_map, law_stops, law_expect, law_one_of, law_choose, law_as, law_opening, law_opening_one_of, law_many, law_more, law_separated, law_name, begins_name, begins_token, begins_then, begins_or, begins_within, begins_one_of, begins_many, begins_opening, begins_opening_one_of, follows_begins, follows_token, follows_or, follows_then, follows_map, follows_more, follows_pure, follows_opening}
use Rattle.setl_parse_reading.proofs.Regroup.{more_l, behind, with_second, optional_none, optional_some, optional_to, listed_none, listed_some, listed_to}
use Rattle.setl_parse_reading.proofs.Bounds.{below, below_more, starts_bound, law_iters}
use Rattle.setl_parse_reading.proofs.Levels.{law_chain, level_2, level_3, level_4, level_7, level_8, level_9, level_10}
use Rattle.setl_parse_reading.proofs.Scanning.{name_token, name_is, mapped, separated_map, some_token}
use Rattle.setl_parse_reading.proofs.Insides.{IsInside, starts_primary, starts_operand, starts_logic, starts, names_l, zero_or_more}
use Rattle.setl_parse_reading.proofs.Inners.{law_inner, inner_fails}

-- ---- prefixes

pub law_fold : Law r.fold (Then (lang.one_of fold_sign) (λ o. Then (lang.token k.Slash) (λ _. lang.pure (pre.Folded o)))) always
unfolding r.fold fold_sign
law_fold = law_then (law_one_of fold_sign refl) (λ o. law_map (λ _. pre.Folded o) (law_expect k.Slash)) (λ o. anything)

prefix_no_fold : Within (begins_as prefix_op) (λ kind. not (begins_as fold_sign kind))
unfolding kinds prefix_op fold_sign
prefix_no_fold = within refl

-- the signs of a fold and the other prefixes are told apart by their first token
pub law_prefix : Law r.prefix grammar.prefix always
unfolding r.prefix grammar.prefix prefix_op
law_prefix = law_as
    (law_choose (begins_as fold_sign) law_fold (law_one_of prefix_op refl)
    (follows_begins (begins_then (begins_one_of fold_sign)) same)
    (follows_begins (begins_one_of prefix_op) prefix_no_fold))
    (λ toks a s. elim s [ inl f ↦ inr f | inr o ↦ inl o ])
    (λ toks a s. elim s [ inl o ↦ inr o | inr f ↦ inl f ])

prefix_begins : Within (begins_as prefix_op) r.begins_prefix
unfolding kinds prefix_op fold_sign r.begins_prefix
prefix_begins = within refl

fold_begins : Within (begins_as fold_sign) r.begins_prefix
unfolding kinds prefix_op fold_sign r.begins_prefix
fold_begins = within refl

pub begins_prefix : Begins r.begins_prefix grammar.prefix
unfolding grammar.prefix
begins_prefix = begins_or (begins_within (begins_one_of prefix_op) prefix_begins) (begins_then (begins_within (begins_one_of fold_sign) fold_begins))

primary_no_prefix : Within starts_primary (λ kind. not (r.begins_prefix kind))
unfolding kinds starts_primary r.begins_prefix prefix_op fold_sign
primary_no_prefix = within refl

pub law_prefixes : Law r.prefixes (lang.many grammar.prefix) (λ kind. not (r.begins_prefix kind))
unfolding r.prefixes
law_prefixes = law_many law_prefix begins_prefix within_always within_always same

pub law_nots : Law r.nots (lang.many (lang.one_of not_sign)) (λ kind. not (begins_as not_sign kind))
unfolding r.nots not_sign
law_nots = law_many (law_one_of not_sign refl) (begins_one_of not_sign) within_always within_always same

module _ (room : ℕ) (R : r.Inside) (L : grammar.Inside) (E : (inside : ℕ) → room ≡ suc inside → IsInside inside R L) where
  -- ---- selectors, as they are read

  abbrev pub slice_l : Expr → Lang Selector
  slice_l a = lang.◌∣◌ (Then (lang.token k.RightParen) (λ _. lang.pure (se.Slice a None))) (Then L.expr (λ b. Then (lang.token k.RightParen) (λ _. lang.pure (se.Slice a (Some b)))))

  abbrev pub arguments_l : Expr → Lang Selector
  arguments_l a = lang.◌∣◌ (Then (lang.token k.Dots) (λ _. slice_l a)) (Then (more_l L.expr) (λ xs. Then (lang.token k.RightParen) (λ _. lang.pure (se.Round (a ∷ xs)))))

  abbrev pub round_l : Lang Selector
  round_l = lang.◌∣◌ (Then (lang.token k.RightParen) (λ _. lang.pure (se.Round []))) (Then L.expr arguments_l)

  abbrev pub braces_l : Lang Selector
  braces_l = Then (lang.opening room k.LeftBrace) (λ _. Then (lang.separated L.expr) (λ xs. Then (lang.token k.RightBrace) (λ _. lang.pure (se.Braces xs))))

  abbrev selector_l : Lang Selector
  selector_l = lang.◌∣◌ (Then (lang.opening room k.LeftParen) (λ _. round_l)) braces_l

  starts_no_paren : Within starts (but k.RightParen)
  unfolding kinds same_kind starts_primary r.begins_prefix prefix_op fold_sign not_sign quantifier
  starts_no_paren = within refl

  comma_below : Within (is k.Comma) (below 2)
  unfolding kinds level_of same_kind
  comma_below = within refl

  paren_below : Within (is k.RightParen) (below 2)
  unfolding kinds level_of same_kind
  paren_below = within refl

  paren_comma : Within (is k.RightParen) (but k.Comma)
  unfolding kinds same_kind
  paren_comma = within refl

  brace_below : Within (is k.RightBrace) (below 2)
  unfolding kinds level_of same_kind
  brace_below = within refl

  brace_comma : Within (is k.RightBrace) (but k.Comma)
  unfolding kinds same_kind
  brace_comma = within refl

  paren_dots : Within (is k.RightParen) (but k.Dots)
  unfolding kinds same_kind
  paren_dots = within refl

  comma_dots : Within (is k.Comma) (but k.Dots)
  unfolding kinds same_kind
  comma_dots = within refl

  module _ (inside : ℕ) (is_inside : room ≡ suc inside) where
    abbrev here : IsInside inside R L
    here = E inside is_inside

    law_slice : (a : Expr) → Law (r.slice room R a) (slice_l a) always
    unfolding r.slice same_kind level_of
    law_slice a = law_choose (is k.RightParen)
        (law_map (λ _. se.Slice a None) (law_expect k.RightParen))
        (law_then here.expr (λ b. law_map (λ _. se.Slice a (Some b)) (law_expect k.RightParen)) (λ b. follows_token k.RightParen refl))
        (follows_token k.RightParen refl)
        (follows_begins (begins_then here.begins) starts_no_paren)

    law_arguments : (a : Expr) → Law (r.arguments room R a) (arguments_l a) always
    unfolding r.arguments same_kind level_of
    law_arguments a = law_choose (is k.Dots)
        (law_then (law_expect k.Dots) (λ _. law_slice a) (λ _. anything))
        (law_then (law_more here.expr comma_below paren_below paren_comma) (λ xs. law_map (λ _. se.Round (a ∷ xs)) (law_expect k.RightParen)) (λ xs. follows_token k.RightParen refl))
        (follows_token k.Dots refl)
        (follows_then (follows_more {stops = is k.RightParen} comma_dots paren_dots) (λ xs. follows_token k.RightParen refl))

    arguments_below : (a : Expr) → Follows (arguments_l a) always (below 2)
    unfolding level_of same_kind
    arguments_below a = follows_or (follows_token k.Dots refl) (follows_then (follows_more {stops = is k.RightParen} comma_below paren_below) (λ xs. follows_token k.RightParen refl))

    law_round : Law (r.round room R) round_l always
    unfolding r.round same_kind
    law_round = law_choose (is k.RightParen)
        (law_map (λ _. se.Round []) (law_expect k.RightParen))
        (law_then here.expr law_arguments arguments_below)
        (follows_token k.RightParen refl)
        (follows_begins (begins_then here.begins) starts_no_paren)

  pub law_braces : Law (r.braces room R) braces_l always
  unfolding r.braces same_kind
  law_braces = law_opening room k.LeftBrace (λ m s _. law_then (law_separated (E m s).expr comma_below brace_below brace_comma) (λ xs. law_map (λ _. se.Braces xs) (law_expect k.RightBrace)) (λ xs. follows_token k.RightBrace refl))

  law_selector_l : Law (r.selector room R) selector_l always
  unfolding r.selector same_kind
  law_selector_l = law_choose (is k.LeftParen)
      (law_opening room k.LeftParen (λ m s _. law_round m s))
      law_braces
      (follows_opening room k.LeftParen refl)
      (follows_opening room k.LeftBrace refl)

  pub selector_to : (toks : Tokens) (a : Selector) → selector_l toks a → grammar.selector room L toks a
  unfolding grammar.selector
  selector_to toks a (inr braces) = inr (inr braces)
  selector_to toks a (inl round) = elim round.second [
    | inl none ↦ inl (with_second round (listed_none none))
    | inr some ↦ elim some.second [
      | inl dots ↦ elim dots.second [
        | inl open_end ↦ inr (inl (with_second round (with_second some (with_second dots (optional_none open_end)))))
        | inr to ↦ inr (inl (with_second round (with_second some (with_second dots (optional_some to)))))
      ]
      | inr others ↦ inl (with_second round (listed_some (with_second some others)))
    ]
  ]

  selector_from : (toks : Tokens) (a : Selector) → grammar.selector room L toks a → selector_l toks a
  unfolding grammar.selector
  selector_from toks a (inl round) = inl (with_second round (elim (listed_to round.second) [ inl none ↦ inl none | inr some ↦ inr (behind (λ a t y h. inr h) some) ]))
  selector_from toks a (inr (inl slice)) = inl (with_second slice (inr (behind (λ a t y h. inl (behind (λ _ t y h.
      elim (optional_to {K = λ b. Then (lang.token k.RightParen) (λ _. lang.pure (se.Slice a b))} h) [ inl none ↦ inl none | inr some ↦ inr some ]) h)) slice.second)))
  selector_from toks a (inr (inr braces)) = inr braces

  pub law_selector : Law (r.selector room R) (grammar.selector room L) always
  law_selector = law_as law_selector_l selector_to selector_from

  pub begins_selector : Begins r.begins_selector (grammar.selector room L)
  unfolding grammar.selector r.begins_selector
  begins_selector = begins_or (begins_then (begins_opening room k.LeftParen refl)) (begins_or (begins_then (begins_opening room k.LeftParen refl)) (begins_then (begins_opening room k.LeftBrace refl)))

  no_selector : Within (below 12) (λ kind. not (r.begins_selector kind))
  unfolding kinds level_of r.begins_selector
  no_selector = within refl

  pub law_selectors : Law (r.selectors room R) (lang.many (grammar.selector room L)) (below 12)
  unfolding r.selectors
  law_selectors = law_many law_selector begins_selector within_always within_always no_selector

  -- ---- primary expressions

  abbrev number_l : Lang Expr
  number_l = Then (lang.token k.Number) (λ t. lang.pure (e.Number t.value))

  abbrev string_l : Lang Expr
  string_l = Then (lang.token k.StringLiteral) (λ t. lang.pure (e.Text t.text))

  abbrev name_l : Lang Expr
  name_l = Then lang.name (λ x. lang.pure (e.Name x))

  abbrev pub parenthesized_l : Lang Expr
  parenthesized_l = Then (lang.opening room k.LeftParen) (λ _. Then L.expr (λ x. Then (lang.token k.RightParen) (λ _. lang.pure x)))

  abbrev pub if_l : Lang Expr
  if_l = Then (lang.opening room k.If) (λ _. Then L.expr (λ a. Then (lang.token k.Then) (λ _. Then L.expr (λ b. Then (lang.token k.Else) (λ _. Then L.expr (λ c. Then (lang.token k.End) (λ _. lang.pure (e.If a b c))))))))

  abbrev pub set_l : Lang Expr
  set_l = Then (lang.opening room k.LeftBrace) (λ _. Then (grammar.inner (room - 1) L) (λ x. Then (lang.token k.RightBrace) (λ _. lang.pure (e.Set x))))

  abbrev pub tuple_l : Lang Expr
  tuple_l = Then (lang.opening room k.LeftBracket) (λ _. Then (grammar.inner (room - 1) L) (λ x. Then (lang.token k.RightBracket) (λ _. lang.pure (e.Tuple x))))

  law_number : Law (r.primary_by room R k.Number) number_l always
  law_number = law_map (λ t. e.Number t.value) (law_expect k.Number)

  law_string : Law (r.primary_by room R k.StringLiteral) string_l always
  law_string = law_map (λ t. e.Text t.text) (law_expect k.StringLiteral)

  law_name_expr : Law (r.primary_by room R k.Name) name_l always
  law_name_expr = law_map e.Name law_name

  law_constant : Law (one_of constant) (lang.one_of constant) always
  unfolding constant
  law_constant = law_one_of constant refl

  law_parenthesized : Law (r.parenthesized room R) parenthesized_l always
  unfolding r.parenthesized level_of
  law_parenthesized = law_opening room k.LeftParen (λ m s _. law_then (E m s).expr (λ x. law_map (λ _. x) (law_expect k.RightParen)) (λ x. follows_token k.RightParen refl))

  law_if : Law (r.if_expr room R) if_l always
  unfolding r.if_expr level_of
  law_if = law_opening room k.If (λ m s _. law_then (E m s).expr (λ a. law_then (law_expect k.Then) (λ _. law_then (E m s).expr (λ b. law_then (law_expect k.Else) (λ _. law_then (E m s).expr (λ c.
      law_map (λ _. e.If a b c) (law_expect k.End)) (λ c. follows_token k.End refl)) (λ _. anything)) (λ b. follows_token k.Else refl)) (λ _. anything)) (λ a. follows_token k.Then refl))

  pub inside_room : (m : ℕ) → room ≡ suc m → m ≡ room - 1
  inside_room m s = omega (arith, s)

  law_inside : (m : ℕ) → room ≡ suc m → Law (r.inner (room - 1) R) (grammar.inner (room - 1) L) r.closes
  law_inside m s = subst (λ (z : ℕ). Law (r.inner z R) (grammar.inner z L) r.closes) (inside_room m s) (law_inner m R L (E m s))

  law_set : Law (r.set room R) set_l always
  unfolding r.set r.closes
  law_set = law_opening room k.LeftBrace (λ m s _. law_then (law_inside m s) (λ x. law_map (λ _. e.Set x) (law_expect k.RightBrace)) (λ x. follows_token k.RightBrace refl))

  law_tuple : Law (r.tuple room R) tuple_l always
  unfolding r.tuple r.closes
  law_tuple = law_opening room k.LeftBracket (λ m s _. law_then (law_inside m s) (λ x. law_map (λ _. e.Tuple x) (law_expect k.RightBracket)) (λ x. follows_token k.RightBracket refl))

  primary_sound : (kind : Kind) (toks : Tokens) (a : Expr) (rest : Tokens) → r.primary_by room R kind toks ≡ Ok (a, rest) → Took (grammar.primary room L) toks a rest
  unfolding grammar.primary
  primary_sound k.Number toks a rest h = took_as (law_number.sound.took toks a rest h) (λ u a s. inl s)
  primary_sound k.StringLiteral toks a rest h = took_as (law_string.sound.took toks a rest h) (λ u a s. inr (inl s))
  primary_sound k.Name toks a rest h = took_as (law_name_expr.sound.took toks a rest h) (λ u a s. inr (inr (inr (inl s))))
  primary_sound k.LeftParen toks a rest h = took_as (law_parenthesized.sound.took toks a rest h) (λ u a s. inr (inr (inr (inr (inl s)))))
  primary_sound k.If toks a rest h = took_as (law_if.sound.took toks a rest h) (λ u a s. inr (inr (inr (inr (inr (inl s))))))
  primary_sound k.LeftBrace toks a rest h = took_as (law_set.sound.took toks a rest h) (λ u a s. inr (inr (inr (inr (inr (inr (inl s)))))))
  primary_sound k.LeftBracket toks a rest h = took_as (law_tuple.sound.took toks a rest h) (λ u a s. inr (inr (inr (inr (inr (inr (inr s)))))))
  primary_sound _ toks a rest h = took_as (law_constant.sound.took toks a rest h) (λ u a s. inr (inr (inl s)))

  -- the other kinds are read as words
  word_by : (kind : Kind) (a : Expr) → constant kind ≡ Some a → (toks : Tokens) → r.primary_by room R kind toks ≡ one_of constant toks
  unfolding constant
  word_by k.Number a h toks = absurd cc
  word_by k.StringLiteral a h toks = absurd cc
  word_by k.Name a h toks = absurd cc
  word_by k.LeftParen a h toks = absurd cc
  word_by k.If a h toks = absurd cc
  word_by k.LeftBrace a h toks = absurd cc
  word_by k.LeftBracket a h toks = absurd cc
  word_by _ a h toks = refl

  primary_reads : (used rest : Tokens) (a : Expr) → grammar.primary room L used a → (peek >>= r.primary_by room R) (used ++ rest) ≡ Ok (a, rest)
  unfolding grammar.primary same_kind
  primary_reads used rest a (inl s) = chosen k.Number (r.primary_by room R) law_number (begins_then (begins_token k.Number refl)) used rest a s refl
  primary_reads used rest a (inr (inl s)) = chosen k.StringLiteral (r.primary_by room R) law_string (begins_then (begins_token k.StringLiteral refl)) used rest a s refl
  primary_reads used rest a (inr (inr (inl s))) =
      let next : next_kind (used ++ rest) ≡ s.it.kind = ap (λ (z : Tokens). next_kind (z ++ rest)) s.alone in
      ap (λ (z : Kind). r.primary_by room R z (used ++ rest)) next ∙ word_by s.it.kind a s.means (used ++ rest) ∙ law_constant.complete.reads used rest a s refl
  primary_reads used rest a (inr (inr (inr (inl s)))) = chosen k.Name (r.primary_by room R) law_name_expr (begins_then (begins_name refl)) used rest a s refl
  primary_reads used rest a (inr (inr (inr (inr (inl s))))) = chosen k.LeftParen (r.primary_by room R) law_parenthesized (begins_then (begins_opening room k.LeftParen refl)) used rest a s refl
  primary_reads used rest a (inr (inr (inr (inr (inr (inl s)))))) = chosen k.If (r.primary_by room R) law_if (begins_then (begins_opening room k.If refl)) used rest a s refl
  primary_reads used rest a (inr (inr (inr (inr (inr (inr (inl s))))))) = chosen k.LeftBrace (r.primary_by room R) law_set (begins_then (begins_opening room k.LeftBrace refl)) used rest a s refl
  primary_reads used rest a (inr (inr (inr (inr (inr (inr (inr s))))))) = chosen k.LeftBracket (r.primary_by room R) law_tuple (begins_then (begins_opening room k.LeftBracket refl)) used rest a s refl

  pub law_primary : Law (r.primary room R) (grammar.primary room L) always
  unfolding r.primary
  law_primary = law_of (λ toks a rest h. primary_sound (next_kind toks) toks a rest h) (λ used rest a s stop. primary_reads used rest a s)

  constant_starts : Within (begins_as constant) starts_primary
  unfolding kinds constant starts_primary
  constant_starts = within refl

  pub begins_primary : Begins starts_primary (grammar.primary room L)
  unfolding grammar.primary starts_primary
  begins_primary = begins_or (begins_then (begins_token k.Number refl)) (begins_or (begins_then (begins_token k.StringLiteral refl)) (begins_or (begins_within (begins_one_of constant) constant_starts)
      (begins_or (begins_then (begins_name refl)) (begins_or (begins_then (begins_opening room k.LeftParen refl)) (begins_or (begins_then (begins_opening room k.If refl))
      (begins_or (begins_then (begins_opening room k.LeftBrace refl)) (begins_then (begins_opening room k.LeftBracket refl))))))))

  -- ---- levels

  pub law_e12 : Law (r.e12 room R) (grammar.e12 room L) (below 12)
  unfolding r.e12 grammar.e12
  law_e12 = law_then law_primary (λ p. law_map (selected p) law_selectors) (λ p. anything)

  begins_e12 : Begins starts_primary (grammar.e12 room L)
  unfolding grammar.e12
  begins_e12 = begins_then begins_primary

  pub law_e11 : Law (r.e11 room R) (grammar.e11 room L) (below 12)
  unfolding r.e11 grammar.e11
  law_e11 = law_then law_prefixes (λ ps. law_map (prefixed ps) law_e12) (λ ps. follows_map (follows_begins begins_e12 primary_no_prefix))

  primary_starts : Within starts_primary starts_operand
  unfolding kinds starts_primary r.begins_prefix prefix_op fold_sign
  primary_starts = within refl

  prefix_starts : Within r.begins_prefix starts_operand
  unfolding kinds starts_primary r.begins_prefix prefix_op fold_sign
  prefix_starts = within refl

  begins_e11 : Begins starts_operand (grammar.e11 room L)
  unfolding grammar.e11
  begins_e11 = begins_many begins_prefix prefix_starts (λ ps. begins_then (begins_within begins_e12 primary_starts))

  pub law_e7 : Law (r.e7 room R) (grammar.e7 room L) (below 7)
  unfolding r.e7 grammar.e7 grammar.e8 grammar.e9 grammar.e10
  law_e7 = law_chain level_7 (law_chain level_8 (law_chain level_9 (law_chain level_10 (law_stops law_e11 (below_more 12 (omega arith))))))

  begins_e7 : Begins starts_operand (grammar.e7 room L)
  unfolding grammar.e7 grammar.e8 grammar.e9 grammar.e10
  begins_e7 = begins_then (begins_then (begins_then (begins_then begins_e11)))

  -- e6 as it is read
  abbrev pub compared_l : Expr → Lang Expr
  compared_l a = lang.◌∣◌ (Then (lang.one_of relation_op) (λ o. Then (grammar.e7 room L) (λ b. lang.pure (e.Compare a o b)))) (lang.pure a)

  relation_below : Within (begins_as relation_op) (below 7)
  unfolding kinds relation_op level_of
  relation_below = within refl

  no_relation : Within (below 6) (λ kind. not (begins_as relation_op kind))
  unfolding kinds relation_op level_of
  no_relation = within refl

  pub law_compared : (a : Expr) → Law (r.compared room R a) (compared_l a) (below 6)
  unfolding r.compared relation_op
  law_compared a = law_choose (begins_as relation_op)
      (law_then (law_one_of relation_op refl) (λ o. law_map (λ b. e.Compare a o b) (law_stops law_e7 (below_more 7 (omega arith)))) (λ o. anything))
      (law_stops (law_pure a) within_always)
      (follows_begins (begins_then (begins_one_of relation_op)) same)
      (follows_pure no_relation)

  pub e6_to : (toks : Tokens) (y : Expr) → Then (grammar.e7 room L) compared_l toks y → grammar.e6 room L toks y
  unfolding grammar.e6
  e6_to toks y s = elim s.second [
    | inl some ↦ inr (with_second s some)
    | inr none ↦ inl (subst (λ (z : Expr). grammar.e7 room L toks z) none.1 (subst (λ (z : Tokens). grammar.e7 room L z s.value) (sym (s.parts ∙ ap (λ (z : Tokens). s.front ++ z) none.0 ∙ append-nil s.front)) s.first))
  ]

  e6_from : (toks : Tokens) (y : Expr) → grammar.e6 room L toks y → Then (grammar.e7 room L) compared_l toks y
  unfolding grammar.e6
  e6_from toks y (inl s) = record { front = toks; back = []; value = y; parts = sym (append-nil toks); first = s; second = inr (refl, refl) }
  e6_from toks y (inr s) = behind (λ a t y h. inl h) s

  pub law_e6 : Law (r.e6 room R) (grammar.e6 room L) (below 6)
  unfolding r.e6
  law_e6 = law_as (law_then law_e7 law_compared (λ a. follows_or (follows_begins (begins_then (begins_one_of relation_op)) relation_below) (follows_pure (below_more 7 (omega arith))))) e6_to e6_from

  begins_e6 : Begins starts_operand (grammar.e6 room L)
  unfolding grammar.e6
  begins_e6 = begins_or begins_e7 (begins_then begins_e7)

  operand_no_not : Within starts_operand (λ kind. not (begins_as not_sign kind))
  unfolding kinds starts_primary r.begins_prefix prefix_op fold_sign not_sign
  operand_no_not = within refl

  pub law_e5 : Law (r.e5 room R) (grammar.e5 room L) (below 6)
  unfolding r.e5 grammar.e5
  law_e5 = law_then law_nots (λ ps. law_map (prefixed ps) law_e6) (λ ps. follows_map (follows_begins begins_e6 operand_no_not))

  operand_logic : Within starts_operand starts_logic
  unfolding kinds starts_primary r.begins_prefix prefix_op fold_sign not_sign
  operand_logic = within refl

  not_logic : Within (begins_as not_sign) starts_logic
  unfolding kinds starts_primary r.begins_prefix prefix_op fold_sign not_sign
  not_logic = within refl

  begins_e5 : Begins starts_logic (grammar.e5 room L)
  unfolding grammar.e5
  begins_e5 = begins_many (begins_one_of not_sign) not_logic (λ ps. begins_then (begins_within begins_e6 operand_logic))

  law_e5_operand : Law (r.e5 room R) (grammar.e5 room L) (below 5)
  law_e5_operand = law_stops law_e5 (below_more 6 (omega arith))

  pub law_e2 : Law (r.e2 room R) (grammar.e2 room L) (below 2)
  unfolding r.e2 grammar.e2 grammar.e3 grammar.e4
  law_e2 = law_chain level_2 (law_chain level_3 (law_chain level_4 law_e5_operand))

  begins_e2 : Begins starts_logic (grammar.e2 room L)
  unfolding grammar.e2 grammar.e3 grammar.e4
  begins_e2 = begins_then (begins_then (begins_then begins_e5))

  -- ---- expressions

  unfoldable pub quantified_l : Lang Expr
  quantified_l = Then (lang.opening_one_of room quantifier) (λ q. Then (grammar.iters (room - 1) L.source) (λ over. Then (lang.token k.Bar) (λ _. Then L.expr (λ x. lang.pure (e.Quantified q over x)))))

  law_quantified : Law (r.quantified room R) quantified_l (below 2)
  unfolding r.quantified quantified_l quantifier level_of same_kind
  law_quantified = law_opening_one_of room quantifier refl (λ m s q. law_then (law_iters (room - 1) R.source L.source (E m s).source)
      (λ over. law_then (law_expect k.Bar) (λ _. law_map (λ x. e.Quantified q over x) (E m s).expr) (λ _. anything)) (λ over. follows_token k.Bar refl))

  logic_no_quantifier : Within starts_logic (λ kind. not (begins_as quantifier kind))
  unfolding kinds starts_primary r.begins_prefix prefix_op fold_sign not_sign quantifier
  logic_no_quantifier = within refl

  pub law_whole : Law (r.whole room R) (grammar.whole room L) (below 2)
  unfolding r.whole grammar.whole quantified_l
  law_whole = law_choose (begins_as quantifier)
      law_quantified
      law_e2
      (follows_begins (begins_then (begins_opening_one_of room quantifier)) same)
      (follows_begins begins_e2 logic_no_quantifier)

  quantifier_starts : Within (begins_as quantifier) starts
  unfolding kinds starts_primary r.begins_prefix prefix_op fold_sign not_sign quantifier
  quantifier_starts = within refl

  logic_starts : Within starts_logic starts
  unfolding kinds starts_primary r.begins_prefix prefix_op fold_sign not_sign quantifier
  logic_starts = within refl

  pub begins_whole : Begins starts (grammar.whole room L)
  unfolding grammar.whole
  begins_whole = begins_or (begins_then (begins_within (begins_opening_one_of room quantifier) quantifier_starts)) (begins_within begins_e2 logic_starts)

  -- ---- what the laws of the inside ask for

  ends_below : Within (below 2) (λ kind. not (begins_as (op_at 2) kind))
  unfolding kinds op_at level_of binary_op
  ends_below = within refl

  ends_below_3 : Within (below 2) (λ kind. not (begins_as (op_at 3) kind))
  unfolding kinds op_at level_of binary_op
  ends_below_3 = within refl

  ends_below_4 : Within (below 2) (λ kind. not (begins_as (op_at 4) kind))
  unfolding kinds op_at level_of binary_op
  ends_below_4 = within refl

  no_operands : (level : ℕ) (item : Reader Expr) (first : Expr) (i : Tokens) → begins_as (op_at level) (next_kind i) ≡ false → r.chain_from level item first i ≡ Ok (first, i)
  unfolding r.operands
  no_operands level item first i none = goes_to (λ others. pure (chain_of first others)) (many_none (begins_as (op_at level)) (r.operand level item) i none)

  pub after_stays : (i : Tokens) (a : Expr) → below 2 (next_kind i) ≡ true → r.after room R a i ≡ Ok (a, i)
  unfolding r.after
  after_stays i a stop =
      let at_4 = no_operands 4 (r.e5 room R) a i (not_is (begins_as (op_at 4) (next_kind i)) (ends_below_4.at (next_kind i) stop)) in
      let at_3 = no_operands 3 (r.levels 4 (r.e5 room R) 1) a i (not_is (begins_as (op_at 3) (next_kind i)) (ends_below_3.at (next_kind i) stop)) in
      let at_2 = no_operands 2 (r.levels 4 (r.e5 room R) 2) a i (not_is (begins_as (op_at 2) (next_kind i)) (ends_below.at (next_kind i) stop)) in
      let one : r.levels_from 4 (r.e5 room R) 1 a i ≡ Ok (a, i) = at_4 in
      let two : r.levels_from 4 (r.e5 room R) 2 a i ≡ Ok (a, i) = goes_to (r.chain_from 3 (r.levels 4 (r.e5 room R) 1)) one ∙ at_3 in
      goes_to (r.chain_from 2 (r.levels 4 (r.e5 room R) 2)) two ∙ at_2

  -- an expression without `not` in front goes on from its first comparison
  levels_are : (top : ℕ) (item : Reader Expr) (n : ℕ) (i : Tokens) → r.levels top item n i ≡ (item >>= r.levels_from top item n) i
  levels_are top item zero i = same_outcome (item i)
  levels_are top item (suc n) i = ap (λ o. and_then o (r.chain_from (top - n) (r.levels top item n))) (levels_are top item n i) ∙ bind_assoc (item i) (r.levels_from top item n) (r.chain_from (top - n) (r.levels top item n))

  bound_no_quantifier : Within starts_bound (λ kind. not (begins_as quantifier kind))
  unfolding kinds same_kind quantifier
  bound_no_quantifier = within refl

  bound_no_not : Within starts_bound (λ kind. not (begins_as not_sign kind))
  unfolding kinds same_kind not_sign
  bound_no_not = within refl

  bound_no_prefix : Within starts_bound (λ kind. not (r.begins_prefix kind))
  unfolding kinds same_kind r.begins_prefix fold_sign prefix_op
  bound_no_prefix = within refl

  pub whole_is : (i : Tokens) → begins_as quantifier (next_kind i) ≡ false → begins_as not_sign (next_kind i) ≡ false → r.whole room R i ≡ (r.e6 room R >>= r.after room R) i
  unfolding r.whole r.e2 r.e5 r.after r.nots
  whole_is i no_quantifier no_not =
      let none = many_none (begins_as not_sign) (one_of not_sign) i no_not in
      let e5_is : r.e5 room R i ≡ r.e6 room R i = goes_to (λ ps. r.e6 room R >>= λ x. pure (prefixed ps x)) none ∙ sym (same_outcome (r.e6 room R i)) in
      passes (begins_as quantifier) _ _ i no_quantifier ∙ levels_are 4 (r.e5 room R) 3 i ∙ ap (λ o. and_then o (r.levels_from 4 (r.e5 room R) 3)) e5_is

  in_relation : relation_op k.In ≡ Some rel.In
  unfolding relation_op
  in_relation = refl

  in_is_relation : begins_as relation_op k.In ≡ true
  unfolding relation_op
  in_is_relation = refl

  -- behind the left side of `in`
  compared_in : (a : Expr) (i : Tokens) → next_kind i ≡ k.In → r.compared room R a i ≡ (expect k.In >>= λ _. r.e7 room R >>= λ s. pure (e.Compare a rel.In s)) i
  unfolding r.compared one_of
  compared_in a i next =
      let t = some_token i k.In next (λ same. cc) in
      let taken : expect k.In i ≡ Ok (t.0, rest_of i) = ap (expect k.In) t.1 ∙ (law_expect k.In).complete.reads (t.0 ∷ []) (rest_of i) t.0 (record { alone = refl; kind = t.2 }) refl in
      takes (begins_as relation_op) _ _ i (ap (begins_as relation_op) next ∙ in_is_relation)
      ∙ goes_to (λ o. r.e7 room R >>= λ b. pure (e.Compare a o b)) (ap (λ (z : Option _). meant z i) (ap relation_op next ∙ in_relation))
      ∙ sym (goes_to (λ _. r.e7 room R >>= λ s. pure (e.Compare a rel.In s)) taken)

  regroup : (o : Outcome Token) (f : Expr → Expr) (g : Expr → Reader Expr) → and_then (and_then o (λ _. r.e7 room R >>= λ s. pure (f s))) g ≡ and_then o (λ _. r.e7 room R >>= λ s. g (f s))
  regroup (Ok x) f g = bind_assoc (r.e7 room R x.1) (λ s. pure (f s)) g
  regroup (Err d) f g = refl

  pub whole_goes_on : (i rest : Tokens) (a : Expr) → starts_bound (next_kind i) ≡ true → r.e7 room R i ≡ Ok (a, rest) → next_kind rest ≡ k.In
      → r.whole room R i ≡ (expect k.In >>= λ _. r.e7 room R >>= λ s. r.after room R (e.Compare a rel.In s)) rest
  unfolding r.e6
  whole_goes_on i rest a bound reads next =
      let no_quantifier = not_is (begins_as quantifier (next_kind i)) (bound_no_quantifier.at (next_kind i) bound) in
      let no_not = not_is (begins_as not_sign (next_kind i)) (bound_no_not.at (next_kind i) bound) in
      let e6_is : r.e6 room R i ≡ (expect k.In >>= λ _. r.e7 room R >>= λ s. pure (e.Compare a rel.In s)) rest = goes_to (r.compared room R) reads ∙ compared_in a rest next in
      whole_is i no_quantifier no_not ∙ ap (λ o. and_then o (r.after room R)) e6_is ∙ regroup (expect k.In rest) (λ s. e.Compare a rel.In s) (r.after room R)

  -- where no operand is read, no expression is
  whole_fails : (i : Tokens) → begins_as quantifier (next_kind i) ≡ false → begins_as not_sign (next_kind i) ≡ false → Fails (r.e11 room R i) → Fails (r.whole room R i)
  unfolding r.e6 r.e7
  whole_fails i no_quantifier no_not fails = fails_at (whole_is i no_quantifier no_not)
      (fails_then (r.e6 room R) (r.after room R) i (fails_then (r.e7 room R) (r.compared room R) i
      (fails_then (r.levels 10 (r.e11 room R) 3) (r.chain_from 7 (r.levels 10 (r.e11 room R) 3)) i
      (fails_then (r.levels 10 (r.e11 room R) 2) (r.chain_from 8 (r.levels 10 (r.e11 room R) 2)) i
      (fails_then (r.levels 10 (r.e11 room R) 1) (r.chain_from 9 (r.levels 10 (r.e11 room R) 1)) i
      (fails_then (r.e11 room R) (r.chain_from 10 (r.e11 room R)) i fails))))))

  pub minus_facts : (begins_as quantifier k.Minus ≡ false) × (begins_as not_sign k.Minus ≡ false) × (begins_as fold_sign k.Minus ≡ false) × (prefix_op k.Minus ≡ Some pre.Minus)
  unfolding quantifier not_sign fold_sign prefix_op
  minus_facts = (refl, refl, refl, refl)

  slot_no_prefix : Within ends_slot (λ kind. not (r.begins_prefix kind))
  unfolding kinds ends_slot r.begins_prefix fold_sign prefix_op
  slot_no_prefix = within refl

  slot_no_primary : Within ends_slot (λ kind. not (starts_primary kind))
  unfolding kinds ends_slot starts_primary
  slot_no_primary = within refl

  -- what does not begin an operand is none
  primary_fails : (i : Tokens) → starts_primary (next_kind i) ≡ false → Fails (r.primary room R i)
  primary_fails i none x h =
      let t = law_primary.sound.took i x.0 x.1 h in
      let b : starts_primary (next_kind i) ≡ true = ap (λ (z : Tokens). starts_primary (next_kind z)) t.parts ∙ next_of starts_primary t.used x.1 (begins_primary.at t.used x.0 t.spelled) in
      absurd (cc (b, none))

  pub minus_fails : (t u : Token) (toks : Tokens) → t.kind ≡ k.Minus → ends_slot u.kind ≡ true → Fails (r.whole room R (t ∷ u ∷ toks))
  unfolding r.e11 r.e12 grammar.prefix
  minus_fails t u toks minus ends =
      let sign : lang.many grammar.prefix (t ∷ []) (pre.Minus ∷ []) = record { front = t ∷ []; back = []; parts = refl; first = inl (record { it = t; alone = refl; means = ap prefix_op minus ∙ minus_facts.3 }); second = refl } in
      let signs : r.prefixes (t ∷ u ∷ toks) ≡ Ok (pre.Minus ∷ [], u ∷ toks) = law_prefixes.complete.reads (t ∷ []) (u ∷ toks) (pre.Minus ∷ []) sign (slot_no_prefix.at u.kind ends) in
      let none = fails_then (r.primary room R) (λ p. r.selectors room R >>= λ ss. pure (selected p ss)) (u ∷ toks) (primary_fails (u ∷ toks) (not_is (starts_primary u.kind) (slot_no_primary.at u.kind ends))) in
      whole_fails (t ∷ u ∷ toks) (ap (begins_as quantifier) minus ∙ minus_facts.0) (ap (begins_as not_sign) minus ∙ minus_facts.1)
      (fails_at (goes_to (λ ps. r.e12 room R >>= λ x. pure (prefixed ps x)) signs) (fails_then (r.e12 room R) (λ x. pure (prefixed (pre.Minus ∷ []) x)) (u ∷ toks) none))

  pub bracket_facts : (begins_as quantifier k.LeftBracket ≡ false) × (begins_as not_sign k.LeftBracket ≡ false) × (r.begins_prefix k.LeftBracket ≡ false)
  unfolding quantifier not_sign fold_sign prefix_op r.begins_prefix
  bracket_facts = (refl, refl, refl)

  -- a tuple whose bracket may not open, or whose inside fails
  tuple_fails : (t : Token) (toks : Tokens) → t.kind ≡ k.LeftBracket → ((inside : ℕ) → room ≡ suc inside → Fails (r.inner inside R toks)) → Fails (r.tuple room R (t ∷ toks))
  unfolding r.tuple
  tuple_fails t toks bracket inside =
      let go : Token → Reader Expr = λ _. r.inner (room - 1) R >>= λ x. expect k.RightBracket >>= λ _. pure (e.Tuple x) in
      elim (zero_or_more room) [
        | inl none ↦ fails_then (opening room k.LeftBracket) go (t ∷ toks) (subst (λ (z : ℕ). Fails (opening z k.LeftBracket (t ∷ toks))) (sym none) (opening_fails k.LeftBracket (t ∷ toks)))
        | inr m ↦
            let opened : opening room k.LeftBracket (t ∷ toks) ≡ Ok (t, toks) = ap (λ (z : ℕ). opening z k.LeftBracket (t ∷ toks)) m.1 ∙ opening_takes m.0 k.LeftBracket t toks bracket in
            fails_at (goes_to go opened) (fails_then (r.inner (room - 1) R) (λ x. expect k.RightBracket >>= λ _. pure (e.Tuple x)) toks
            (subst (λ (z : ℕ). Fails (r.inner z R toks)) (inside_room m.0 m.1) (inside m.0 m.1)))
      ]

  pub bracket_fails : (t : Token) (toks : Tokens) → t.kind ≡ k.LeftBracket → ((inside : ℕ) → room ≡ suc inside → Fails (r.inner inside R toks)) → Fails (r.whole room R (t ∷ toks))
  unfolding r.e11 r.e12 r.prefixes r.primary
  bracket_fails t toks bracket inside =
      let none = many_none r.begins_prefix r.prefix (t ∷ toks) (ap r.begins_prefix bracket ∙ bracket_facts.2) in
      let as_tuple : r.primary room R (t ∷ toks) ≡ r.tuple room R (t ∷ toks) = ap (λ (z : Kind). r.primary_by room R z (t ∷ toks)) bracket in
      whole_fails (t ∷ toks) (ap (begins_as quantifier) bracket ∙ bracket_facts.0) (ap (begins_as not_sign) bracket ∙ bracket_facts.1)
      (fails_at (goes_to (λ ps. r.e12 room R >>= λ x. pure (prefixed ps x)) none)
      (fails_then (r.e12 room R) (λ x. pure (prefixed [] x)) (t ∷ toks) (fails_then (r.primary room R) (λ p. r.selectors room R >>= λ ss. pure (selected p ss)) (t ∷ toks)
      (fails_at as_tuple (tuple_fails t toks bracket inside)))))

  -- ---- operands alone

  pub chain_alone : (level : ℕ) (M : Lang Expr) (toks : Tokens) (y : Expr) → M toks y → grammar.chain level M toks y
  chain_alone level M toks y s = record { front = toks; back = []; value = y; parts = sym (append-nil toks); first = s; second = record { front = []; back = []; value = []; parts = refl; first = refl; second = (refl, refl) } }

  pub primary_source : (toks : Tokens) (y : Expr) → grammar.primary room L toks y → grammar.e7 room L toks y
  unfolding grammar.e12 grammar.e11 grammar.e10 grammar.e9 grammar.e8 grammar.e7
  primary_source toks y s =
      let at_12 : grammar.e12 room L toks y = record { front = toks; back = []; value = y; parts = sym (append-nil toks); first = s; second = record { front = []; back = []; value = []; parts = refl; first = refl; second = (refl, refl) } } in
      let at_11 : grammar.e11 room L toks y = record { front = []; back = toks; value = []; parts = refl; first = refl; second = record { front = toks; back = []; value = y; parts = sym (append-nil toks); first = at_12; second = (refl, refl) } } in
      chain_alone 7 (grammar.e8 room L) toks y (chain_alone 8 (grammar.e9 room L) toks y (chain_alone 9 (grammar.e10 room L) toks y (chain_alone 10 (grammar.e11 room L) toks y at_11)))

  pub primary_whole : (toks : Tokens) (y : Expr) → grammar.primary room L toks y → grammar.whole room L toks y
  unfolding grammar.e6 grammar.e5 grammar.e4 grammar.e3 grammar.e2 grammar.whole
  primary_whole toks y s =
      let at_6 : grammar.e6 room L toks y = inl (primary_source toks y s) in
      let at_5 : grammar.e5 room L toks y = record { front = []; back = toks; value = []; parts = refl; first = refl; second = record { front = toks; back = []; value = y; parts = sym (append-nil toks); first = at_6; second = (refl, refl) } } in
      inr (chain_alone 2 (grammar.e3 room L) toks y (chain_alone 3 (grammar.e4 room L) toks y (chain_alone 4 (grammar.e5 room L) toks y at_5)))

  pub name_primary : (t : Token) → t.kind ≡ k.Name → grammar.primary room L (t ∷ []) (e.Name t.text)
  unfolding grammar.primary
  name_primary t name = inr (inr (inr (inl (record { front = t ∷ []; back = []; value = t.text; parts = refl; first = name_token t name; second = (refl, refl) }))))

  name_of : (inside : ℕ) → room ≡ suc inside → (toks : Tokens) (x : List ℕ) → lang.name toks x → L.expr toks (e.Name x)
  name_of inside is_inside toks x s =
      let t = name_is toks x s in
      subst (λ (z : List ℕ). L.expr toks (e.Name z)) t.3 (subst (λ (z : Tokens). L.expr z (e.Name t.0.text)) (sym t.1) ((E inside is_inside).name_expr t.0 t.2))

  pub names_primary : (toks : Tokens) (xs : List (List ℕ)) → names_l room toks xs → grammar.primary room L toks (e.Tuple (inn.List (mapped e.Name xs)))
  unfolding grammar.primary grammar.inner
  names_primary toks xs s = elim (zero_or_more room) [
    | inl none ↦ absurd (subst (λ (z : ℕ). lang.opening z k.LeftBracket s.front s.value) none s.first)
    | inr m ↦
        let n = s.second in
        let list : grammar.inner (room - 1) L n.front (inn.List (mapped e.Name n.value)) = inl (record {
          front = n.front;
          back = [];
          value = mapped e.Name n.value;
          parts = sym (append-nil n.front);
          first = inr (separated_map {M = L.expr} e.Name (name_of m.0 m.1) n.front n.value n.first);
          second = (refl, refl);
        }) in
        inr (inr (inr (inr (inr (inr (inr (record {
          front = s.front;
          back = s.back;
          value = s.value;
          parts = s.parts;
          first = s.first;
          second = record {
            front = n.front;
            back = n.back;
            value = inn.List (mapped e.Name n.value);
            parts = n.parts;
            first = list;
            second = record {
              front = n.second.front;
              back = n.second.back;
              value = n.second.value;
              parts = n.second.parts;
              first = n.second.first;
              second = (n.second.second.0, ap (λ (z : List (List ℕ)). e.Tuple (inn.List (mapped e.Name z))) n.second.second.1);
            };
          };
        })))))))
  ]

  no_inside : (toks : Tokens) → (room ≡ zero) ⊎ (slots_ahead toks ≡ Pattern) → (inside : ℕ) → room ≡ suc inside → Fails (r.inner inside R toks)
  no_inside toks (inl none) inside is_inside = absurd (omega (arith, none, is_inside))
  no_inside toks (inr hole) inside is_inside = inner_fails inside R L (E inside is_inside) toks hole

  -- ---- where so many nestings may still open

  pub is_inside : IsInside room (record { expr = r.whole room R; source = r.e7 room R; after = r.after room R }) (record { expr = grammar.whole room L; source = grammar.e7 room L })
  is_inside = record {
    expr = law_whole;
    source = law_e7;
    begins = begins_whole;
    name_expr = λ t name. primary_whole (t ∷ []) (e.Name t.text) (name_primary t name);
    name_source = λ t name. primary_source (t ∷ []) (e.Name t.text) (name_primary t name);
    names_source = λ toks xs s. primary_source toks (e.Tuple (inn.List (mapped e.Name xs))) (names_primary toks xs s);
    goes_on = whole_goes_on;
    stays = after_stays;
    no_operand = minus_fails;
    no_tuple = λ t toks bracket why. bracket_fails t toks bracket (no_inside toks why);
  }

pub inside_nested : (room inside : ℕ) → room ≡ suc inside → IsInside inside (r.nested room) (grammar.nested room)
unfolding r.nested grammar.nested
inside_nested zero inside h = absurd (omega (arith, h))
inside_nested (suc room) inside h = subst (λ (z : ℕ). IsInside z (r.nested (suc room)) (grammar.nested (suc room))) (omega (arith, h)) (is_inside room (r.nested room) (grammar.nested room) (inside_nested room))

-- reading an expression with at most so many nestings inside one another
pub law_expr : (room : ℕ) → Law (r.expr room) (grammar.expr room) (below 2)
unfolding r.expr grammar.expr
law_expr room = law_whole room (r.nested room) (grammar.nested room) (inside_nested room)

pub law_source : (room : ℕ) → Law (r.source room) (grammar.source room) (below 7)
unfolding r.source grammar.source
law_source room = law_e7 room (r.nested room) (grammar.nested room) (inside_nested room)

pub begins_expr : (room : ℕ) → Begins starts (grammar.expr room)
unfolding grammar.expr
begins_expr room = begins_whole room (r.nested room) (grammar.nested room) (inside_nested room)

-- what stands one nesting deeper
pub nested_inside : (room inside : ℕ) → room ≡ suc inside → IsInside inside (r.nested room) (grammar.nested room)
nested_inside = inside_nested
