-- Reading what stands inside braces and brackets.
use Rattle.std.proofs.Common.{◌≡◌, ℕ, zero, suc, ◌+◌, ◌≤◌, Bool, true, false, not, cond, List, [], ◌∷◌, ◌++◌, length, Some, None, Ok, Err, length-append, refl, sym, ap, subst, ◌∙◌, append_assoc, arith, inl, inr, ◌⊎◌}
use Rattle.std.proofs.lemmas.List.{append-nil}
use Rattle.setl_tree.specs.declared.kind.Kind.TheVariants as k
use Rattle.setl_tree.specs.declared.expr.Relation.TheVariants as rel
use Rattle.setl_tree.specs.declared.expr.Slot.TheVariants as sl
use Rattle.setl_tree.specs.declared.expr.Bound.{Bound}
use Rattle.setl_tree.specs.declared.expr.Bound.TheVariants as bd
use Rattle.setl_tree.specs.declared.expr.Inner.{Inner}
use Rattle.setl_tree.specs.declared.expr.Inner.TheVariants as inn
use Rattle.setl_tree.specs.declared.expr.Expr.{Expr}
use Rattle.setl_tree.specs.declared.expr.Expr.TheVariants as e
use Rattle.setl_tree.specs.Tokens.{Token, Tokens}
use Rattle.setl_tree.specs.Lang.{Lang, Then}
use Rattle.setl_tree.specs.Lang as lang
use Rattle.setl_tree.specs.Operators.{level_of, not_sign, prefix_op, fold_sign, quantifier}
use Rattle.setl_tree.specs.Expressions as grammar
use Rattle.setl_parse_reading.specs.declared.ahead.Ahead.{Ahead}
use Rattle.setl_parse_reading.specs.declared.ahead.Ahead.TheVariants.{Expression, Either, Pattern}
use Rattle.setl_parse_reading.specs.declared.fault.Fault.TheVariants.{Syntax, Nesting}
use Rattle.setl_parse_reading.specs.Fronts.{opens_nesting}
use Rattle.setl_parse_reading.specs.code.Reading.{open_if, but, Outcome, Reader, ◌>>=◌, ◌>>◌, and_then, pure, expect, opening, is, next_kind, rest_of, same_kind, many_from, more, separated}
use Rattle.setl_parse_reading.specs.code.Scan.{either_at, slots_ahead, ahead, bound_expr}
use Rattle.setl_parse_reading.specs.code.ReadExpressions as r
use Rattle.setl_parse_reading.proofs.EveryKind.{kinds, same_kind_is, same_kind_self}
use Rattle.setl_parse_reading.proofs.Laws.{Took, Law, Follows, Within, Begins, Fails, anything, bind_ok, ok_parts, took_as, fails_then, fails_at, takes, passes, goes_to, bind_assoc, law_of, not_is, within, within_always, same, law_pure, law_then, law_map, law_stops, law_expect, law_choose, law_as, law_more, law_optional, begins_token, begins_then, follows_begins, follows_token, follows_or, follows_map, follows_more, follows_optional, follows_pure}
use Rattle.setl_parse_reading.proofs.Reach.{left, Extends, Reach, ends, and_left, left_none, far, fails_to, reach_then, reach_expect, reach_choose}
use Rattle.setl_parse_reading.proofs.Openers.{Opener, Shows}
use Rattle.setl_parse_reading.proofs.Exact.{Exact, Goes, Fronted, fronted_as, weak, exact_then, exact_map, exact_pure, exact_expect, exact_choose, exact_as, exact_optional, exact_more, token_of}
use Rattle.setl_parse_reading.proofs.Regroup.{more_l, behind, assoc, unassoc, with_second, optional_none, optional_some, optional_to, listed_none, listed_some, listed_to, more_one, more_none, more_to}
use Rattle.setl_parse_reading.proofs.Bounds.{below, over, starts_bound, law_bound, law_iters, exact_bound, exact_iters}
use Rattle.setl_parse_reading.proofs.Scanning.{Open, closes_slots, ahead_local, Named, named, holed, not_short, name_token, mapped, separated_map, bracketed, ahead_is, ahead_name, ahead_minus, either_at_in, either_at_not, some_token, bound_seen, slot_exprs_names}
use Rattle.setl_parse_reading.proofs.Insides.{starts_primary, starts, names_l, IsInside, IsExact, zero_or_more, not_pattern, no_pattern_none, no_pattern_one, minus_opens, name_opens, comma_expression, bracket_no_name, bracket_fails}

module _ (room : ℕ) (R : r.Inside) (L : grammar.Inside) (E : IsInside room R L) where
  -- ---- an expression in front, or nothing

  abbrev former_l : Expr → Lang Inner
  former_l x = Then (grammar.iters room L.source) (λ over. Then (lang.optional (lang.◌>>◌ (lang.token k.Bar) L.expr)) (λ c. lang.pure (inn.Former x over c)))

  abbrev third_l : Expr → Expr → Lang Inner
  third_l a b = lang.◌∣◌ (Then (lang.token k.Dots) (λ _. Then L.expr (λ c. lang.pure (inn.Range a (Some b) c)))) (Then (more_l L.expr) (λ xs. lang.pure (inn.List (a ∷ b ∷ xs))))

  abbrev second_l : Expr → Lang Inner
  second_l a = lang.◌∣◌ (Then (lang.token k.Comma) (λ _. Then L.expr (third_l a))) (lang.pure (inn.List (a ∷ [])))

  abbrev unranged_l : Expr → Lang Inner
  unranged_l a = lang.◌∣◌ (Then (lang.token k.Colon) (λ _. former_l a)) (second_l a)

  abbrev rest_l : Expr → Lang Inner
  rest_l a = lang.◌∣◌ (Then (lang.token k.Dots) (λ _. Then L.expr (λ c. lang.pure (inn.Range a None c)))) (unranged_l a)

  abbrev plain_l : Lang Inner
  plain_l = lang.◌∣◌ (lang.pure (inn.List [])) (Then L.expr rest_l)

  closes_below : Within r.closes (below 2)
  unfolding kinds level_of r.closes
  closes_below = within refl

  comma_below : Within (is k.Comma) (below 2)
  unfolding kinds level_of same_kind
  comma_below = within refl

  closes_comma : Within r.closes (but k.Comma)
  unfolding kinds r.closes same_kind
  closes_comma = within refl

  closes_dots : Within r.closes (but k.Dots)
  unfolding kinds r.closes same_kind
  closes_dots = within refl

  closes_colon : Within r.closes (but k.Colon)
  unfolding kinds r.closes same_kind
  closes_colon = within refl

  closes_bar : Within r.closes (but k.Bar)
  unfolding kinds r.closes same_kind
  closes_bar = within refl

  closes_over : Within r.closes over
  unfolding kinds r.closes same_kind level_of
  closes_over = within refl

  bar_over : Within (is k.Bar) over
  unfolding kinds same_kind level_of
  bar_over = within refl

  comma_dots : Within (is k.Comma) (but k.Dots)
  unfolding kinds same_kind
  comma_dots = within refl

  begins_bar : Begins (is k.Bar) (lang.◌>>◌ (lang.token k.Bar) L.expr)
  unfolding same_kind
  begins_bar = begins_then (begins_token k.Bar refl)

  law_condition : Law (r.condition room R) (lang.◌>>◌ (lang.token k.Bar) L.expr) (below 2)
  unfolding r.condition
  law_condition = law_then (law_expect k.Bar) (λ _. E.expr) (λ _. anything)

  law_former : (x : Expr) → Law (r.former room R x) (former_l x) r.closes
  unfolding r.former
  law_former x = law_then (law_iters room R.source L.source E.source)
      (λ over. law_map (λ c. inn.Former x over c) (law_optional law_condition begins_bar closes_below closes_bar))
      (λ over. follows_map (follows_optional begins_bar bar_over closes_over))

  law_third : (a b : Expr) → Law (r.third room R a b) (third_l a b) r.closes
  unfolding r.third same_kind
  law_third a b = law_choose (is k.Dots)
      (law_then (law_expect k.Dots) (λ _. law_map (λ c. inn.Range a (Some b) c) (law_stops E.expr closes_below)) (λ _. anything))
      (law_map (λ xs. inn.List (a ∷ b ∷ xs)) (law_more E.expr comma_below closes_below closes_comma))
      (follows_token k.Dots refl)
      (follows_map (follows_more comma_dots closes_dots))

  third_below : (a b : Expr) → Follows (third_l a b) r.closes (below 2)
  unfolding level_of
  third_below a b = follows_or (follows_token k.Dots refl) (follows_map (follows_more comma_below closes_below))

  law_second : (a : Expr) → Law (r.second room R a) (second_l a) r.closes
  unfolding r.second same_kind
  law_second a = law_choose (is k.Comma)
      (law_then (law_expect k.Comma) (λ _. law_then E.expr (law_third a) (third_below a)) (λ _. anything))
      (law_stops (law_pure (inn.List (a ∷ []))) within_always)
      (follows_token k.Comma refl)
      (follows_pure closes_comma)

  law_unranged : (a : Expr) → Law (r.unranged room R a) (unranged_l a) r.closes
  unfolding r.unranged same_kind
  law_unranged a = law_choose (is k.Colon)
      (law_then (law_expect k.Colon) (λ _. law_former a) (λ _. anything))
      (law_second a)
      (follows_token k.Colon refl)
      (follows_or (follows_token k.Comma refl) (follows_pure closes_colon))

  law_rest : (a : Expr) → Law (r.rest_of_inner room R a) (rest_l a) r.closes
  unfolding r.rest_of_inner same_kind
  law_rest a = law_choose (is k.Dots)
      (law_then (law_expect k.Dots) (λ _. law_map (λ c. inn.Range a None c) (law_stops E.expr closes_below)) (λ _. anything))
      (law_unranged a)
      (follows_token k.Dots refl)
      (follows_or (follows_token k.Colon refl) (follows_or (follows_token k.Comma refl) (follows_pure closes_dots)))

  rest_below : (a : Expr) → Follows (rest_l a) r.closes (below 2)
  unfolding level_of
  rest_below a = follows_or (follows_token k.Dots refl) (follows_or (follows_token k.Colon refl) (follows_or (follows_token k.Comma refl) (follows_pure closes_below)))

  starts_no_closer : Within starts (λ kind. not (r.closes kind))
  unfolding kinds r.closes r.begins_prefix starts_primary not_sign prefix_op fold_sign quantifier
  starts_no_closer = within refl

  law_plain : Law (r.plain room R) plain_l r.closes
  unfolding r.plain
  law_plain = law_choose r.closes
      (law_stops (law_pure _) within_always)
      (law_then E.expr law_rest rest_below)
      (follows_pure same)
      (follows_begins (begins_then E.begins) starts_no_closer)

  plain_to : (toks : Tokens) (a : Inner) → plain_l toks a → grammar.inner room L toks a
  unfolding grammar.inner
  plain_to toks a (inl none) = inl (listed_none none)
  plain_to toks a (inr some) = elim some.second [
    | inl dots ↦ inr (inl (with_second some (optional_none dots)))
    | inr (inl colon) ↦ inr (inr (inl (with_second some colon)))
    | inr (inr (inl comma)) ↦ elim comma.second.second [
      | inl dots ↦ inr (inl (with_second some (optional_some (unassoc (with_second comma (with_second comma.second dots))))))
      | inr more ↦ inl (listed_some (with_second some (more_one {K = λ xs. lang.pure (inn.List (some.value ∷ xs))} (with_second comma (with_second comma.second more)))))
    ]
    | inr (inr (inr one)) ↦ inl (listed_some (with_second some (more_none {K = λ xs. lang.pure (inn.List (some.value ∷ xs))} one)))
  ]

  -- `bound in source | condition`
  abbrev filter_l : Lang Inner
  filter_l = Then (grammar.bound room) (λ b. Then (lang.token k.In) (λ _. Then L.source (λ s. Then (lang.token k.Bar) (λ _. Then L.expr (λ c. lang.pure (inn.Filter b s c))))))

  inner_from : (toks : Tokens) (a : Inner) → grammar.inner room L toks a → plain_l toks a ⊎ filter_l toks a
  unfolding grammar.inner
  inner_from toks a (inl list) = inl (elim (listed_to list) [
    | inl none ↦ inl none
    | inr some ↦ inr (behind (λ a t y h. elim (more_to {K = λ xs. lang.pure (inn.List (a ∷ xs))} h) [
      | inl one ↦ inr (inr (inr one))
      | inr more ↦ inr (inr (inl (behind (λ _ t y h. behind (λ b t y h. inr h) h) more)))
    ]) some)
  ])
  inner_from toks a (inr (inl range)) = inl (inr (behind (λ a t y h. elim (optional_to {K = λ o. Then (lang.token k.Dots) (λ _. Then L.expr (λ c. lang.pure (inn.Range a o c)))} h) [
    | inl none ↦ inl none
    | inr two ↦ inr (inr (inl (behind (λ _ t y h. behind (λ b t y h. inl h) h) (assoc two))))
  ]) range))
  inner_from toks a (inr (inr (inl former))) = inl (inr (behind (λ a t y h. inr (inl h)) former))
  inner_from toks a (inr (inr (inr filter))) = inr filter

  filter_to : (toks : Tokens) (a : Inner) → filter_l toks a → grammar.inner room L toks a
  unfolding grammar.inner
  filter_to toks a s = inr (inr (inr s))

  -- ---- a bound in front

  abbrev condition_l : Bound → Expr → Lang Inner
  condition_l b s = Then (lang.token k.Bar) (λ _. Then L.expr (λ c. lang.pure (inn.Filter b s c)))

  law_filter : (b : Bound) (s : Expr) → Law (r.filter room R b s) (condition_l b s) (below 2)
  unfolding r.filter
  law_filter b s = law_as (law_map (λ c. inn.Filter b s c) law_condition) (λ toks a h. assoc h) (λ toks a h. unassoc h)

  law_filtered : Law (r.bound_first room R (r.filter room R)) filter_l (below 2)
  unfolding r.bound_first level_of
  law_filtered = law_then (law_bound room)
      (λ b. law_then (law_expect k.In) (λ _. law_then E.source (law_filter b) (λ s. follows_token k.Bar refl)) (λ _. anything))
      (λ b. anything)

  -- a bound in front that is an expression too
  record Both (i : Tokens) : Type 0 where
    bound : Bound
    rest : Tokens
    reads : r.bound room i ≡ Ok (bound, rest)
    in_next : next_kind rest ≡ k.In
    as_source : R.source i ≡ Ok (bound_expr bound, rest)

  in_below : below 7 k.In ≡ true
  unfolding level_of
  in_below = refl

  both_name : (t : Token) (rest : Tokens) → t.kind ≡ k.Name → next_kind rest ≡ k.In → Both (t ∷ rest)
  unfolding grammar.bound
  both_name t rest name next = record {
    bound = bd.Name t.text;
    rest = rest;
    reads = (law_bound room).complete.reads (t ∷ []) rest (bd.Name t.text) (inl (record { front = t ∷ []; back = []; value = t.text; parts = refl; first = name_token t name; second = (refl, refl) })) refl;
    in_next = next;
    as_source = E.source.complete.reads (t ∷ []) rest (e.Name t.text) (E.name_source t name) (ap (below 7) next ∙ in_below);
  }

  both_bracket : (m : ℕ) → room ≡ suc m → (t : Token) (toks : Tokens) → t.kind ≡ k.LeftBracket → Named toks → Both (t ∷ toks)
  unfolding grammar.bound grammar.pattern grammar.slot
  both_bracket m is_suc t toks bracket n =
      let used : Tokens = t ∷ (n.front ++ n.close ∷ []) in
      let whole : t ∷ toks ≡ used ++ n.rest = ap (λ (z : Tokens). t ∷ z) (n.parts ∙ sym (append_assoc n.front (n.close ∷ []) n.rest)) in
      let slots = mapped sl.Name n.xs in
      let as_slots : lang.separated grammar.slot n.front slots = separated_map {M = grammar.slot} sl.Name (λ t x s. inl (record { front = t; back = []; value = x; parts = sym (append-nil t); first = s; second = (refl, refl) })) n.front n.xs n.spelled in
      let as_pattern : grammar.pattern room used slots = subst (λ (z : ℕ). grammar.pattern z used slots) (sym is_suc) (bracketed grammar.slot m t n.front n.close slots bracket n.closed as_slots) in
      let as_bound : grammar.bound room used (bd.Pattern slots) = inr (record { front = used; back = []; value = slots; parts = sym (append-nil used); first = as_pattern; second = (refl, refl) }) in
      let as_names : names_l room used n.xs = subst (λ (z : ℕ). names_l z used n.xs) (sym is_suc) (bracketed lang.name m t n.front n.close n.xs bracket n.closed n.spelled) in
      let exprs : e.Tuple (inn.List (mapped e.Name n.xs)) ≡ bound_expr (bd.Pattern slots) = ap (λ z. e.Tuple (inn.List z)) (sym (slot_exprs_names n.xs)) in
      record {
        bound = bd.Pattern slots;
        rest = n.rest;
        reads = ap (r.bound room) whole ∙ (law_bound room).complete.reads used n.rest (bd.Pattern slots) as_bound refl;
        in_next = n.in_next;
        as_source = ap R.source whole ∙ E.source.complete.reads used n.rest (e.Tuple (inn.List (mapped e.Name n.xs))) (E.names_source used n.xs as_names) (ap (below 7) n.in_next ∙ in_below)
            ∙ ap (λ (z : Expr). Ok (z, n.rest)) exprs;
      }

  name_is_bound : starts_bound k.Name ≡ true
  unfolding same_kind
  name_is_bound = refl

  bracket_is_bound : starts_bound k.LeftBracket ≡ true
  unfolding same_kind
  bracket_is_bound = refl

  not_expression : Expression ≡ Either → ⊥
  not_expression h = cc

  -- where the bound may be an expression, it is read as both, or its bracket may not open
  either : (i : Tokens) → ahead i ≡ Either → (starts_bound (next_kind i) ≡ true) × (Both i ⊎ ((room ≡ zero) × (next_kind i ≡ k.LeftBracket)))
  either i h = elim (ahead_is i) [
    | inl name ↦
        let t = some_token i k.Name name.0 (λ same. cc) in
        let next : next_kind (rest_of i) ≡ k.In = either_at_in (next_kind (rest_of i)) (sym name.1 ∙ h) in
        (ap starts_bound name.0 ∙ name_is_bound, inl (subst Both (sym t.1) (both_name t.0 (rest_of i) t.2 next)))
    | inr (inl bracket) ↦
        let t = some_token i k.LeftBracket bracket.0 (λ same. cc) in
        let n = named (rest_of i) (sym bracket.1 ∙ h) in (
          ap starts_bound bracket.0 ∙ bracket_is_bound,
          elim (zero_or_more room) [
            | inl none ↦ inr (none, bracket.0)
            | inr m ↦ inl (subst Both (sym t.1) (both_bracket m.0 m.1 t.0 (rest_of i) t.2 n))
          ],
        )
    | inr (inr none) ↦ absurd (not_expression (sym none ∙ h))
  ]

  starts_bound_open : Within starts_bound (λ kind. not (r.closes kind))
  unfolding kinds same_kind r.closes
  starts_bound_open = within refl

  -- what goes on behind `bound in source`
  goes : Bound → Reader Inner
  goes b = expect k.In >>= λ _. R.source >>= λ s. R.after (e.Compare (bound_expr b) rel.In s) >>= r.rest_of_inner room R

  regroup : {A : Type 0} (o : Outcome Token) (after : Expr → Reader Expr) (g : Expr → Reader A) → and_then (and_then o (λ _. R.source >>= after)) g ≡ and_then o (λ _. R.source >>= λ s. after s >>= g)
  regroup (Ok x) after g = bind_assoc (R.source x.1) after g
  regroup (Err d) after g = refl

  plain_goes : (i : Tokens) (both : Both i) → starts_bound (next_kind i) ≡ true → r.plain room R i ≡ goes both.bound both.rest
  unfolding goes r.plain
  plain_goes i both bound =
      let opens : r.closes (next_kind i) ≡ false = not_is (r.closes (next_kind i)) (starts_bound_open.at (next_kind i) bound) in
      let on = E.goes_on i both.rest (bound_expr both.bound) bound both.as_source both.in_next in
      rw (opens, on) (regroup (expect k.In both.rest) (λ s. R.after (e.Compare (bound_expr both.bound) rel.In s)) (r.rest_of_inner room R))

  bound_goes : (i : Tokens) (both : Both i) (go_on : Bound → Expr → Reader Inner) → r.bound_first room R go_on i ≡ (expect k.In >>= λ _. R.source >>= λ s. go_on both.bound s) both.rest
  unfolding r.bound_first
  bound_goes i both go_on = rw both.reads refl

  bar_stays : below 2 k.Bar ≡ true
  unfolding level_of
  bar_stays = refl

  bar_closes : r.closes k.Bar ≡ false
  unfolding r.closes
  bar_closes = refl

  bar_dots : is k.Dots k.Bar ≡ false
  unfolding same_kind
  bar_dots = refl

  bar_colon : is k.Colon k.Bar ≡ false
  unfolding same_kind
  bar_colon = refl

  bar_comma : is k.Comma k.Bar ≡ false
  unfolding same_kind
  bar_comma = refl

  one_at_bar : (x : Expr) (i : Tokens) → next_kind i ≡ k.Bar → r.rest_of_inner room R x i ≡ Ok (inn.List (x ∷ []), i)
  unfolding r.rest_of_inner r.unranged r.second
  one_at_bar x i h = passes (is k.Dots) _ _ i (ap (is k.Dots) h ∙ bar_dots) ∙ passes (is k.Colon) _ _ i (ap (is k.Colon) h ∙ bar_colon) ∙ passes (is k.Comma) _ _ i (ap (is k.Comma) h ∙ bar_comma)

  -- at `|` an expression would end the inside
  no_bar : (b : Bound) (s : Expr) (i : Tokens) (a : Inner) (rest : Tokens) → next_kind i ≡ k.Bar → r.closes (next_kind rest) ≡ true
      → (R.after (e.Compare (bound_expr b) rel.In s) >>= r.rest_of_inner room R) i ≡ Ok (a, rest) → ⊥
  no_bar b s i a rest bar stop h =
      let x = e.Compare (bound_expr b) rel.In s in
      let stays = E.stays i x (ap (below 2) bar ∙ bar_stays) in
      let ends : (R.after x >>= r.rest_of_inner room R) i ≡ Ok (inn.List (x ∷ []), i) = rw stays (one_at_bar x i bar) in
      let p = ok_parts (inn.List (x ∷ [])) a i rest (sym ends ∙ h) in
      let open_again : r.closes (next_kind rest) ≡ false = ap (λ (z : Tokens). r.closes (next_kind z)) (sym p.1) ∙ ap r.closes bar ∙ bar_closes in
      absurd (cc (stop, open_again))

  choose_is : {A : Type 0} (b c : Bool) (x y : Reader A) → b ≡ c → cond b x y ≡ cond c x y
  choose_is b c x y h = ap (λ (z : Bool). cond z x y) h

  -- what is read as an expression in front is read behind `bound in source`
  either_plain : (b : Bound) (i : Tokens) (a : Inner) (rest : Tokens) → r.closes (next_kind rest) ≡ true → goes b i ≡ Ok (a, rest)
      → (expect k.In >>= λ _. R.source >>= λ s. r.filter_or_plain room R b s) i ≡ Ok (a, rest)
  unfolding goes r.filter_or_plain
  either_plain b i a rest stop h =
      let one = bind_ok (expect k.In i) (λ _. R.source >>= λ s. R.after (e.Compare (bound_expr b) rel.In s) >>= r.rest_of_inner room R) (a, rest) h in
      let two = bind_ok (R.source one.0.1) (λ s. R.after (e.Compare (bound_expr b) rel.In s) >>= r.rest_of_inner room R) (a, rest) one.2 in
      let s = two.0.0 in
      let at = two.0.1 in
      let go : (c : Bool) → is k.Bar (next_kind at) ≡ c → cond c (r.filter room R b s) (R.after (e.Compare (bound_expr b) rel.In s) >>= r.rest_of_inner room R) at ≡ Ok (a, rest) = λ c.
      elim c as (λ c. is k.Bar (next_kind at) ≡ c → cond c (r.filter room R b s) (R.after (e.Compare (bound_expr b) rel.In s) >>= r.rest_of_inner room R) at ≡ Ok (a, rest)) [
        | true ↦ λ bar. absurd (no_bar b s at a rest (same_kind_is (next_kind at) k.Bar bar) stop two.2)
        | false ↦ λ bar. two.2
      ] in
      rw (one.1, two.1) (go (is k.Bar (next_kind at)) refl)

  -- a condition begins with `|`
  filter_at_bar : (b : Bound) (s : Expr) (i : Tokens) (y : Inner × Tokens) → r.filter room R b s i ≡ Ok y → is k.Bar (next_kind i) ≡ true
  unfolding r.filter r.condition expect
  filter_at_bar b s i y h =
      let one = bind_ok ((expect k.Bar >> R.expr) i) (λ c. pure (inn.Filter b s c)) y h in
      let two = bind_ok (expect k.Bar i) (λ _. R.expr) one.0 one.1 in
      let three = (law_expect k.Bar).sound.took i two.0.0 two.0.1 two.1 in
      let next : next_kind i ≡ k.Bar = ap next_kind (three.parts ∙ ap (λ (z : Tokens). z ++ two.0.1) three.spelled.alone) ∙ three.spelled.kind in
      ap (is k.Bar) next ∙ same_kind_self k.Bar

  -- what is read as a filter is read where the bound may be an expression
  either_filter : (i : Tokens) (a : Inner) (rest : Tokens) → r.bound_first room R (r.filter room R) i ≡ Ok (a, rest) → r.bound_first room R (r.filter_or_plain room R) i ≡ Ok (a, rest)
  unfolding r.bound_first r.filter_or_plain
  either_filter i a rest h =
      let zero_ = bind_ok (r.bound room i) (λ b. expect k.In >>= λ _. R.source >>= λ s. r.filter room R b s) (a, rest) h in
      let one = bind_ok (expect k.In zero_.0.1) (λ _. R.source >>= λ s. r.filter room R zero_.0.0 s) (a, rest) zero_.2 in
      let two = bind_ok (R.source one.0.1) (λ s. r.filter room R zero_.0.0 s) (a, rest) one.2 in
      let bar = filter_at_bar zero_.0.0 two.0.0 two.0.1 (a, rest) two.2 in
      rw (zero_.1, one.1, two.1, bar) two.2

  -- behind `bound in source`
  turn_goes : (b : Bound) (s : Expr) (c : Bool) (at : Tokens) → (cond c (r.filter room R b s) (R.after (e.Compare (bound_expr b) rel.In s) >>= r.rest_of_inner room R) at ≡ r.filter room R b s at)
      ⊎ (cond c (r.filter room R b s) (R.after (e.Compare (bound_expr b) rel.In s) >>= r.rest_of_inner room R) at ≡ (R.after (e.Compare (bound_expr b) rel.In s) >>= r.rest_of_inner room R) at)
  turn_goes b s true at = inl refl
  turn_goes b s false at = inr refl

  source_goes : (b : Bound) (o : Outcome Expr) → (and_then o (λ s. r.filter_or_plain room R b s) ≡ and_then o (λ s. r.filter room R b s))
      ⊎ (and_then o (λ s. r.filter_or_plain room R b s) ≡ and_then o (λ s. R.after (e.Compare (bound_expr b) rel.In s) >>= r.rest_of_inner room R))
  unfolding r.filter_or_plain
  source_goes b (Ok x) = turn_goes b x.0 (is k.Bar (next_kind x.1)) x.1
  source_goes b (Err d) = inl refl

  in_goes : (b : Bound) (o : Outcome Token) → (and_then o (λ _. R.source >>= λ s. r.filter_or_plain room R b s) ≡ and_then o (λ _. R.source >>= λ s. r.filter room R b s))
      ⊎ (and_then o (λ _. R.source >>= λ s. r.filter_or_plain room R b s) ≡ and_then o (λ _. R.source >>= λ s. R.after (e.Compare (bound_expr b) rel.In s) >>= r.rest_of_inner room R))
  in_goes b (Ok x) = source_goes b (R.source x.1)
  in_goes b (Err d) = inl refl

  -- where the bound may be an expression, it is read as a filter or as an expression
  either_goes : (i : Tokens) (both : Both i) → starts_bound (next_kind i) ≡ true
      → (r.bound_first room R (r.filter_or_plain room R) i ≡ r.bound_first room R (r.filter room R) i) ⊎ (r.bound_first room R (r.filter_or_plain room R) i ≡ r.plain room R i)
  unfolding goes r.filter_or_plain
  either_goes i both begins =
      let b = both.bound in
      let to_filter = bound_goes i both (r.filter room R) in
      let whole = bound_goes i both (r.filter_or_plain room R) in
      elim (in_goes b (expect k.In both.rest)) [
        | inl alike ↦ inl (whole ∙ alike ∙ sym to_filter)
        | inr alike ↦ inr (whole ∙ alike ∙ sym (plain_goes i both begins))
      ]

  -- ---- a pattern with a `-` is no expression

  plain_fails : (i : Tokens) → r.closes (next_kind i) ≡ false → Fails (R.expr i) → Fails (r.plain room R i)
  unfolding r.plain
  plain_fails i opens fails = rw opens (fails_then R.expr (r.rest_of_inner room R) i fails)

  hole_fails : (i : Tokens) → ahead i ≡ Pattern → Fails (r.plain room R i)
  hole_fails i h = elim (ahead_is i) [
    | inl name ↦ absurd (either_at_not (next_kind (rest_of i)) (sym name.1 ∙ h))
    | inr (inl bracket) ↦
        let t = some_token i k.LeftBracket bracket.0 (λ same. cc) in
        let opens : r.closes (next_kind i) ≡ false = not_is (r.closes (next_kind i)) (starts_bound_open.at (next_kind i) (ap starts_bound bracket.0 ∙ bracket_is_bound)) in
        plain_fails i opens (subst (λ (z : Tokens). Fails (R.expr z)) (sym t.1) (E.no_tuple t.0 (rest_of i) t.2 (inr (sym bracket.1 ∙ h))))
    | inr (inr none) ↦ absurd (not_pattern (sym none ∙ h))
  ]

  room_fails : (i : Tokens) → room ≡ zero → next_kind i ≡ k.LeftBracket → Fails (r.plain room R i)
  room_fails i none bracket =
      let t = some_token i k.LeftBracket bracket (λ same. cc) in
      let opens : r.closes (next_kind i) ≡ false = not_is (r.closes (next_kind i)) (starts_bound_open.at (next_kind i) (ap starts_bound bracket ∙ bracket_is_bound)) in
      plain_fails i opens (subst (λ (z : Tokens). Fails (R.expr z)) (sym t.1) (E.no_tuple t.0 (rest_of i) t.2 (inl none)))

  bound_fails : (i : Tokens) (go_on : Bound → Expr → Reader Inner) → room ≡ zero → next_kind i ≡ k.LeftBracket → Fails (r.bound_first room R go_on i)
  unfolding r.bound_first
  bound_fails i go_on none bracket = fails_then (r.bound room) (λ b. expect k.In >>= λ _. R.source >>= λ s. go_on b s) i (subst (λ (z : ℕ). Fails (r.bound z i)) (sym none) (bracket_fails i bracket))

  -- ---- all that stands inside

  inner_sound : (at : Ahead) (i : Tokens) (a : Inner) (rest : Tokens) → ahead i ≡ at → r.inner_by room R at i ≡ Ok (a, rest) → Took (grammar.inner room L) i a rest
  inner_sound Expression i a rest seen h = took_as (law_plain.sound.took i a rest h) plain_to
  inner_sound Pattern i a rest seen h = took_as (law_filtered.sound.took i a rest h) filter_to
  inner_sound Either i a rest seen h =
      let e = either i seen in
      elim e.1 [
        | inl both ↦ elim (either_goes i both e.0) [
          | inl alike ↦ took_as (law_filtered.sound.took i a rest (sym alike ∙ h)) filter_to
          | inr alike ↦ took_as (law_plain.sound.took i a rest (sym alike ∙ h)) plain_to
        ]
        | inr none ↦ absurd (bound_fails i (r.filter_or_plain room R) none.0 none.1 (a, rest) h)
      ]

  inner_reads : (at : Ahead) (used rest : Tokens) (a : Inner) → ahead (used ++ rest) ≡ at → plain_l used a ⊎ filter_l used a → r.closes (next_kind rest) ≡ true → r.inner_by room R at (used ++ rest) ≡ Ok (a, rest)
  inner_reads Expression used rest a seen (inl plain) stop = law_plain.complete.reads used rest a plain stop
  inner_reads Expression used rest a seen (inr filter) stop =
      let whole : used ++ rest ≡ filter.front ++ (filter.back ++ rest) = ap (λ (z : Tokens). z ++ rest) filter.parts ∙ append_assoc filter.front filter.back rest in
      let in_ = filter.second in
      let next : next_kind (filter.back ++ rest) ≡ k.In = ap (λ (z : Tokens). next_kind (z ++ rest)) (in_.parts ∙ ap (λ (z : Tokens). z ++ in_.back) in_.first.alone) ∙ in_.first.kind in
      absurd (bound_seen room filter.front (filter.back ++ rest) filter.value filter.first next (ap ahead (sym whole) ∙ seen))
  inner_reads Pattern used rest a seen (inl plain) stop = absurd (hole_fails (used ++ rest) seen (a, rest) (law_plain.complete.reads used rest a plain stop))
  inner_reads Pattern used rest a seen (inr filter) stop = law_filtered.complete.reads used rest a filter (closes_below.at (next_kind rest) stop)
  inner_reads Either used rest a seen (inl plain) stop =
      let i = used ++ rest in
      let e = either i seen in
      let read = law_plain.complete.reads used rest a plain stop in
      elim e.1 [
        | inl both ↦ bound_goes i both (r.filter_or_plain room R) ∙ either_plain both.bound both.rest a rest stop (sym (plain_goes i both e.0) ∙ read)
        | inr none ↦ absurd (room_fails i none.0 none.1 (a, rest) read)
      ]
  inner_reads Either used rest a seen (inr filter) stop = either_filter (used ++ rest) a rest (law_filtered.complete.reads used rest a filter (closes_below.at (next_kind rest) stop))

  pub law_inner : Law (r.inner room R) (grammar.inner room L) r.closes
  unfolding r.inner
  law_inner = law_of
      (λ toks a rest h. inner_sound (ahead toks) toks a rest refl h)
      (λ used rest a s stop. inner_reads (ahead (used ++ rest)) used rest a refl (inner_from used a s) stop)

  -- ---- the inside of a pattern with a `-` is no inside of a tuple

  dots_comma : is k.Dots k.Comma ≡ false
  unfolding same_kind
  dots_comma = refl

  colon_comma : is k.Colon k.Comma ≡ false
  unfolding same_kind
  colon_comma = refl

  name_reads : (t u : Token) (toks : Tokens) → t.kind ≡ k.Name → u.kind ≡ k.Comma → R.expr (t ∷ u ∷ toks) ≡ Ok (e.Name t.text, u ∷ toks)
  name_reads t u toks name comma = E.expr.complete.reads (t ∷ []) (u ∷ toks) (e.Name t.text) (E.name_expr t name) (comma_below.at u.kind (ap (is k.Comma) comma ∙ same_kind_self k.Comma))

  -- more expressions
  turns_fail : (n : ℕ) (found : List Expr) (c : Token) (toks : Tokens) → c.kind ≡ k.Comma → slots_ahead toks ≡ Pattern → length (c ∷ toks) ≤ n → Fails (many_from (is k.Comma) (expect k.Comma >> R.expr) n found (c ∷ toks))
  unfolding many_from
  turns_fail zero found c toks comma hole fits = absurd (omega (arith, fits))
  turns_fail (suc n) found c [] comma hole fits = absurd (no_pattern_none hole)
  turns_fail (suc n) found c (t ∷ []) comma hole fits = absurd (no_pattern_one t hole)
  turns_fail (suc n) found c (t ∷ u ∷ toks) comma hole fits =
      let taken : expect k.Comma (c ∷ t ∷ u ∷ toks) ≡ Ok (c, t ∷ u ∷ toks) = (law_expect k.Comma).complete.reads (c ∷ []) (t ∷ u ∷ toks) c (record { alone = refl; kind = comma }) refl in
      let begins : is k.Comma c.kind ≡ true = ap (is k.Comma) comma ∙ same_kind_self k.Comma in
      let turn : many_from (is k.Comma) (expect k.Comma >> R.expr) (suc n) found (c ∷ t ∷ u ∷ toks) ≡ (R.expr >>= λ x. many_from (is k.Comma) (expect k.Comma >> R.expr) n (found ++ x ∷ [])) (t ∷ u ∷ toks) =
      takes (is k.Comma) _ _ (c ∷ t ∷ u ∷ toks) begins ∙ bind_assoc (expect k.Comma (c ∷ t ∷ u ∷ toks)) (λ _. R.expr) (λ x. many_from (is k.Comma) (expect k.Comma >> R.expr) n (found ++ x ∷ []))
      ∙ goes_to (λ _. R.expr >>= λ x. many_from (is k.Comma) (expect k.Comma >> R.expr) n (found ++ x ∷ [])) taken in
      elim (holed t u toks hole) [
        | inl minus ↦ fails_at turn (fails_then R.expr (λ x. many_from (is k.Comma) (expect k.Comma >> R.expr) n (found ++ x ∷ [])) (t ∷ u ∷ toks) (E.no_operand t u toks minus.0 minus.1))
        | inr name ↦ fails_at (turn ∙ goes_to (λ x. many_from (is k.Comma) (expect k.Comma >> R.expr) n (found ++ x ∷ [])) (name_reads t u toks name.0 name.1))
            (turns_fail n (found ++ e.Name t.text ∷ []) u toks name.1 name.2 (omega (arith, fits)))
      ]

  more_fails : (c : Token) (toks : Tokens) → c.kind ≡ k.Comma → slots_ahead toks ≡ Pattern → Fails (more R.expr (c ∷ toks))
  unfolding more
  more_fails c toks comma hole = turns_fail (length (c ∷ toks)) [] c toks comma hole (omega arith)

  -- behind one name
  third_fails : (a b : Expr) (u : Token) (toks : Tokens) → u.kind ≡ k.Comma → slots_ahead toks ≡ Pattern → Fails (r.third room R a b (u ∷ toks))
  unfolding r.third
  third_fails a b u toks comma hole = fails_at (passes (is k.Dots) _ _ (u ∷ toks) (ap (is k.Dots) comma ∙ dots_comma)) (fails_then (more R.expr) (λ xs. pure (inn.List (a ∷ b ∷ xs))) (u ∷ toks) (more_fails u toks comma hole))

  at_comma : (a : Expr) (c : Token) (toks : Tokens) → c.kind ≡ k.Comma → r.rest_of_inner room R a (c ∷ toks) ≡ (R.expr >>= λ b. r.third room R a b) toks
  unfolding r.rest_of_inner r.unranged r.second
  at_comma a c toks comma =
      let taken : expect k.Comma (c ∷ toks) ≡ Ok (c, toks) = (law_expect k.Comma).complete.reads (c ∷ []) toks c (record { alone = refl; kind = comma }) refl in
      passes (is k.Dots) _ _ (c ∷ toks) (ap (is k.Dots) comma ∙ dots_comma) ∙ passes (is k.Colon) _ _ (c ∷ toks) (ap (is k.Colon) comma ∙ colon_comma)
      ∙ takes (is k.Comma) _ _ (c ∷ toks) (ap (is k.Comma) comma ∙ same_kind_self k.Comma) ∙ goes_to (λ _. R.expr >>= λ b. r.third room R a b) taken

  second_fails : (a : Expr) (c t u : Token) (toks : Tokens) → c.kind ≡ k.Comma → slots_ahead (t ∷ u ∷ toks) ≡ Pattern → Fails (r.rest_of_inner room R a (c ∷ t ∷ u ∷ toks))
  second_fails a c t u toks comma hole = elim (holed t u toks hole) [
    | inl minus ↦ fails_at (at_comma a c (t ∷ u ∷ toks) comma) (fails_then R.expr (λ b. r.third room R a b) (t ∷ u ∷ toks) (E.no_operand t u toks minus.0 minus.1))
    | inr name ↦ fails_at (at_comma a c (t ∷ u ∷ toks) comma ∙ goes_to (λ b. r.third room R a b) (name_reads t u toks name.0 name.1)) (third_fails a (e.Name t.text) u toks name.1 name.2)
  ]

  inner_plain : (i : Tokens) → ahead i ≡ Expression → r.closes (next_kind i) ≡ false → r.inner room R i ≡ (R.expr >>= r.rest_of_inner room R) i
  unfolding r.inner r.plain
  inner_plain i seen opens = ap (λ (z : Ahead). r.inner_by room R z i) seen ∙ passes r.closes _ _ i opens

  pub inner_fails : (toks : Tokens) → slots_ahead toks ≡ Pattern → Fails (r.inner room R toks)
  inner_fails [] hole = absurd (no_pattern_none hole)
  inner_fails (t ∷ []) hole = absurd (no_pattern_one t hole)
  inner_fails (t ∷ u ∷ toks) hole = elim (holed t u toks hole) [
    | inl minus ↦ fails_at (inner_plain (t ∷ u ∷ toks) (ahead_minus (t ∷ u ∷ toks) minus.0) (ap r.closes minus.0 ∙ minus_opens))
        (fails_then R.expr (r.rest_of_inner room R) (t ∷ u ∷ toks) (E.no_operand t u toks minus.0 minus.1))
    | inr name ↦
        let seen : ahead (t ∷ u ∷ toks) ≡ Expression = ahead_name (t ∷ u ∷ toks) name.0 ∙ ap either_at name.1 ∙ comma_expression in
        let two = not_short toks name.2 in
        fails_at (inner_plain (t ∷ u ∷ toks) seen (ap r.closes name.0 ∙ name_opens) ∙ goes_to (r.rest_of_inner room R) (name_reads t u toks name.0 name.1))
        (subst (λ (z : Tokens). Fails (r.rest_of_inner room R (e.Name t.text) (u ∷ z))) (sym two.3) (second_fails (e.Name t.text) u two.0 two.1 two.2 name.1 (ap slots_ahead (sym two.3) ∙ name.2)))
  ]

  -- ---- where reading stops

  module _ (X : IsExact room R L) where
    pub exact_condition : {always : Bool} → Exact always room (r.condition room R) (lang.◌>>◌ (lang.token k.Bar) L.expr)
    unfolding r.condition opens_nesting
    exact_condition = exact_then (exact_expect k.Bar refl) (λ _. weak X.expr)

    exact_former : {always : Bool} (x : Expr) → Exact always room (r.former room R x) (former_l x)
    unfolding r.former
    exact_former x = exact_then (exact_iters room R.source L.source E.source X.source) (λ over. exact_map (λ c. inn.Former x over c) (exact_optional (is k.Bar) exact_condition))

    exact_third : {always : Bool} (a b : Expr) → Exact always room (r.third room R a b) (third_l a b)
    unfolding r.third opens_nesting
    exact_third a b = exact_choose (is k.Dots)
        (exact_then (exact_expect k.Dots refl) (λ _. exact_map (λ c. inn.Range a (Some b) c) (weak X.expr)))
        (exact_map (λ xs. inn.List (a ∷ b ∷ xs)) (exact_more (weak X.expr)))

    exact_second : {always : Bool} (a : Expr) → Exact always room (r.second room R a) (second_l a)
    unfolding r.second opens_nesting
    exact_second a = exact_choose (is k.Comma) (exact_then (exact_expect k.Comma refl) (λ _. exact_then (weak X.expr) (exact_third a))) (exact_pure (inn.List (a ∷ [])))

    exact_unranged : {always : Bool} (a : Expr) → Exact always room (r.unranged room R a) (unranged_l a)
    unfolding r.unranged opens_nesting
    exact_unranged a = exact_choose (is k.Colon) (exact_then (exact_expect k.Colon refl) (λ _. exact_former a)) (exact_second a)

    exact_rest : {always : Bool} (a : Expr) → Exact always room (r.rest_of_inner room R a) (rest_l a)
    unfolding r.rest_of_inner opens_nesting
    exact_rest a = exact_choose (is k.Dots) (exact_then (exact_expect k.Dots refl) (λ _. exact_map (λ c. inn.Range a None c) (weak X.expr))) (exact_unranged a)

    exact_plain : Exact true room (r.plain room R) plain_l
    unfolding r.plain
    exact_plain = exact_choose r.closes (exact_pure _) (exact_then (weak X.expr) exact_rest)

    exact_filter : {always : Bool} (b : Bound) (s : Expr) → Exact always room (r.filter room R b s) (condition_l b s)
    unfolding r.filter
    exact_filter b s = exact_as (exact_map (λ c. inn.Filter b s c) exact_condition) (λ toks a h. assoc h)

    exact_filtered : Exact true room (r.bound_first room R (r.filter room R)) filter_l
    unfolding r.bound_first opens_nesting
    exact_filtered = exact_then (exact_bound room) (λ b. exact_then (exact_expect k.In refl) (λ _. exact_then X.source (exact_filter b)))

    reach_bound : (go_on : Bound → Expr → Reader Inner) → ((b : Bound) (s : Expr) → Reach room (go_on b s)) → Reach room (r.bound_first room R go_on)
    unfolding r.bound_first
    reach_bound go_on reach = reach_then (exact_bound {always = true} room).reach (λ b. reach_then (reach_expect k.In) (λ _. reach_then X.source.reach (λ s. reach b s)))

    reach_either : (b : Bound) (s : Expr) → Reach room (r.filter_or_plain room R b s)
    unfolding r.filter_or_plain
    reach_either b s = reach_choose (is k.Bar) (exact_filter {always = true} b s).reach (reach_then (X.after (e.Compare (bound_expr b) rel.In s)) (λ a. (exact_rest {always = true} a).reach))

    reach_filter : (b : Bound) (s : Expr) → Reach room (r.filter room R b s)
    reach_filter b s = (exact_filter {always = true} b s).reach

    reach_by : (at : Ahead) → Reach room (r.inner_by room R at)
    reach_by Expression = exact_plain.reach
    reach_by Either = reach_bound (r.filter_or_plain room R) reach_either
    reach_by Pattern = reach_bound (r.filter room R) reach_filter

    -- a front that the scan runs to the end of is read to its end, as a bound and as an expression
    -- a bracket in front may open
    abbrev Roomy : Tokens → Type 0
    Roomy front = next_kind front ≡ k.LeftBracket → (m : ℕ) × (room ≡ suc m)

    not_both : {b : Bool} → b ≡ false → b ≡ true → ⊥
    not_both h g = absurd (cc (h, g))

    bound_read : (front more : Tokens) (b : Bound) → grammar.bound room (front ++ more) b → left (r.bound room front) ≤ 0
    bound_read front more b s =
        let read = (law_bound room).complete.reads (front ++ more) [] b s refl in
        let whole : r.bound room (front ++ more) ≡ Ok (b, []) = ap (r.bound room) (sym (append-nil (front ++ more))) ∙ read in
        let none = ap left whole in
        left_none (r.bound room front) (r.bound room (front ++ more)) more ((exact_bound {always = true} room).reach.local front more) (omega (arith, none))

    plain_read : (front more : Tokens) (a : Expr) → L.expr (front ++ more) a → left (r.plain room R front) ≤ 0
    unfolding r.closes
    plain_read front more a s =
        let back : Tokens = more ++ token_of k.RightBrace ∷ [] in
        let spelled : plain_l (front ++ more) (inn.List (a ∷ [])) = inr (record { front = front ++ more; back = []; value = a; parts = sym (append-nil (front ++ more)); first = s; second = inr (inr (inr (refl, refl))) }) in
        let read = law_plain.complete.reads (front ++ more) (token_of k.RightBrace ∷ []) (inn.List (a ∷ [])) spelled refl in
        let whole = ap (r.plain room R) (sym (append_assoc front more (token_of k.RightBrace ∷ []))) ∙ read in
        let one = ap left whole in
        left_none (r.plain room R front) (r.plain room R (front ++ back)) back (exact_plain.reach.local front back) (omega (arith, one, length-append more (token_of k.RightBrace ∷ [])))

    open_bound : (front : Tokens) → Open front → Roomy front → left (r.bound room front) ≤ 0
    unfolding grammar.bound grammar.pattern grammar.slot
    open_bound [] opened roomy = (exact_bound {always = true} room).reach.within []
    open_bound (t ∷ toks) (inl name) roomy =
        bound_read (t ∷ toks) [] (bd.Name t.text) (inl (record { front = t ∷ []; back = []; value = t.text; parts = append-nil (t ∷ toks) ∙ ap (λ (z : Tokens). t ∷ z) name.1; first = name_token t name.0; second = (refl, refl) }))
    open_bound (t ∷ toks) (inr bracket) roomy =
        let m = roomy bracket.0 in
        let c = closes_slots grammar.slot
        (λ t name. (sl.Name t.text, inl (record { front = t ∷ []; back = []; value = t.text; parts = refl; first = name_token t name; second = (refl, refl) })))
        (λ t minus. ([], sl.Skip, inr (record { front = t ∷ []; back = []; value = t; parts = refl; first = record { alone = refl; kind = minus }; second = (refl, refl) }))) toks bracket.1 in
        let used : Tokens = t ∷ (c.list ++ c.close ∷ []) in
        let as_pattern : grammar.pattern room used c.values = subst (λ (z : ℕ). grammar.pattern z used c.values) (sym m.1) (bracketed grammar.slot m.0 t c.list c.close c.values bracket.0 c.closed c.spelled) in
        let as_bound : grammar.bound room used (bd.Pattern c.values) = inr (record { front = used; back = []; value = c.values; parts = sym (append-nil used); first = as_pattern; second = (refl, refl) }) in
        let same : used ≡ t ∷ (toks ++ c.more) = ap (λ (z : Tokens). t ∷ z) (sym c.parts) in
        bound_read (t ∷ toks) c.more (bd.Pattern c.values) (subst (λ (z : Tokens). grammar.bound room z (bd.Pattern c.values)) same as_bound)

    open_plain : (front : Tokens) → Open front → Roomy front → left (r.plain room R front) ≤ 0
    open_plain [] opened roomy = exact_plain.reach.within []
    open_plain (t ∷ toks) (inl name) roomy =
        let same : t ∷ [] ≡ t ∷ (toks ++ []) = ap (λ (z : Tokens). t ∷ z) (sym (append-nil toks ∙ name.1)) in
        plain_read (t ∷ toks) [] (e.Name t.text) (subst (λ (z : Tokens). L.expr z (e.Name t.text)) same (E.name_expr t name.0))
    open_plain (t ∷ toks) (inr bracket) roomy =
        let m = roomy bracket.0 in
        let g = X.goes m.0 m.1 t toks bracket.0 bracket.1 in
        plain_read (t ∷ toks) g.0 g.1 g.2

    behind_bound : (b : Bound) → (go_on : Bound → Expr → Reader Inner) → ((b : Bound) (s : Expr) → Reach room (go_on b s)) → (i : Tokens) → left ((expect k.In >>= λ _. R.source >>= λ s. go_on b s) i) ≤ length i
    behind_bound b go_on reach i = (reach_then (reach_expect {room = room} k.In) (λ _. reach_then X.source.reach (λ s. reach b s))).within i

    bound_far : (front back : Tokens) → Open front → Roomy front → left (r.bound room (front ++ back)) ≤ length back
    bound_far front back opened roomy = far (r.bound room front) (r.bound room (front ++ back)) back ((exact_bound {always = true} room).reach.local front back) (open_bound front opened roomy)

    first_none : (go_on : Bound → Expr → Reader Inner) → ((b : Bound) (s : Expr) → Reach room (go_on b s)) → (front : Tokens) → Open front → Roomy front → left (r.bound_first room R go_on front) ≤ 0
    unfolding r.bound_first
    first_none go_on reach front opened roomy = and_left (r.bound room front) (λ b. expect k.In >>= λ _. R.source >>= λ s. go_on b s) 0 (open_bound front opened roomy) (λ b. behind_bound b go_on reach)

    first_far : (go_on : Bound → Expr → Reader Inner) → ((b : Bound) (s : Expr) → Reach room (go_on b s)) → (front back : Tokens) → Open front → Roomy front → left (r.bound_first room R go_on (front ++ back)) ≤ length back
    unfolding r.bound_first
    first_far go_on reach front back opened roomy = and_left (r.bound room (front ++ back)) (λ b. expect k.In >>= λ _. R.source >>= λ s. go_on b s) (length back) (bound_far front back opened roomy) (λ b. behind_bound b go_on reach)

    open_none : (at : Ahead) (front : Tokens) → Open front → Roomy front → left (r.inner_by room R at front) ≤ 0
    open_none Expression front opened roomy = open_plain front opened roomy
    open_none Either front opened roomy = first_none (r.filter_or_plain room R) reach_either front opened roomy
    open_none Pattern front opened roomy = first_none (r.filter room R) reach_filter front opened roomy

    open_far : (at : Ahead) (front back : Tokens) → Open front → Roomy front → left (r.inner_by room R at (front ++ back)) ≤ length back
    open_far Expression front back opened roomy = far (r.plain room R front) (r.plain room R (front ++ back)) back (exact_plain.reach.local front back) (open_plain front opened roomy)
    open_far Either front back opened roomy = first_far (r.filter_or_plain room R) reach_either front back opened roomy
    open_far Pattern front back opened roomy = first_far (r.filter room R) reach_filter front back opened roomy

    -- a bracket that may not open
    bound_shut : room ≡ zero → (i : Tokens) → next_kind i ≡ k.LeftBracket → r.bound room i ≡ Err (Nesting (length i))
    unfolding r.bound r.pattern opening
    bound_shut none i bracket =
        let t = some_token i k.LeftBracket bracket (λ same. cc) in
        let here : is k.LeftBracket (next_kind i) ≡ true = ap (is k.LeftBracket) bracket ∙ same_kind_self k.LeftBracket in
        let opens : opening zero k.LeftBracket i ≡ Err (Nesting (length i)) = ap (λ (b : Bool). open_if zero b i) here in
        let opened : opening room k.LeftBracket i ≡ Err (Nesting (length i)) = ap (λ (z : ℕ). opening z k.LeftBracket i) none ∙ opens in
        passes (is k.Name) _ _ i (ap (is k.Name) bracket ∙ bracket_no_name)
        ∙ fails_to (λ slots. pure (bd.Pattern slots)) (fails_to (λ _. separated r.slot >>= λ slots. expect k.RightBracket >>= λ _. pure slots) opened)

    first_shut : (go_on : Bound → Expr → Reader Inner) → room ≡ zero → (i : Tokens) → next_kind i ≡ k.LeftBracket → r.bound_first room R go_on i ≡ Err (Nesting (length i))
    unfolding r.bound_first
    first_shut go_on none i bracket = fails_to (λ b. expect k.In >>= λ _. R.source >>= λ s. go_on b s) (bound_shut none i bracket)

    plain_shut : room ≡ zero → (i : Tokens) → next_kind i ≡ k.LeftBracket → r.plain room R i ≡ Err (Nesting (length i))
    unfolding r.plain
    plain_shut none i bracket =
        let t = some_token i k.LeftBracket bracket (λ same. cc) in
        let opens : r.closes (next_kind i) ≡ false = not_is (r.closes (next_kind i)) (starts_bound_open.at (next_kind i) (ap starts_bound bracket ∙ bracket_is_bound)) in
        let shut : R.expr i ≡ Err (Nesting (length i)) = subst (λ (z : Tokens). R.expr z ≡ Err (Nesting (length z))) (sym t.1) (X.shut none t.0 (rest_of i) t.2) in
        passes r.closes _ _ i opens ∙ fails_to (r.rest_of_inner room R) shut

    by_shut : (at : Ahead) → room ≡ zero → (i : Tokens) → next_kind i ≡ k.LeftBracket → r.inner_by room R at i ≡ Err (Nesting (length i))
    by_shut Expression none i bracket = plain_shut none i bracket
    by_shut Either none i bracket = first_shut (r.filter_or_plain room R) none i bracket
    by_shut Pattern none i bracket = first_shut (r.filter room R) none i bracket

    shut_extends : (front back : Tokens) → next_kind front ≡ k.LeftBracket → Extends {A = Inner} back (Err (Nesting (length front))) (Err (Nesting (length (front ++ back))))
    shut_extends [] back bracket = absurd cc
    shut_extends (t ∷ front) back bracket = let same : suc (length (front ++ back)) ≡ suc (length front) + length back = omega (arith, length-append front back) in ap (λ (n : ℕ). Err (Nesting n)) same

    next_front : (front back : Tokens) → next_kind front ≡ k.LeftBracket → next_kind (front ++ back) ≡ k.LeftBracket
    next_front [] back bracket = absurd cc
    next_front (t ∷ front) back bracket = bracket

    open_local : (front back : Tokens) → Open front → Roomy front → Extends back (r.inner room R front) (r.inner room R (front ++ back))
    unfolding r.inner
    open_local front back opened roomy = ends (r.inner_by room R (ahead front) front) back (r.inner_by room R (ahead (front ++ back)) (front ++ back)) (open_none (ahead front) front opened roomy) (open_far (ahead (front ++ back)) front back opened roomy)

    shut_local : (front back : Tokens) → room ≡ zero → next_kind front ≡ k.LeftBracket → Extends back (r.inner room R front) (r.inner room R (front ++ back))
    unfolding r.inner
    shut_local front back none bracket =
        let one = by_shut (ahead front) none front bracket in
        let two = by_shut (ahead (front ++ back)) none (front ++ back) (next_front front back bracket) in
        subst (λ z. Extends back z (r.inner_by room R (ahead (front ++ back)) (front ++ back))) (sym one) (subst (λ z. Extends {A = Inner} back (Err (Nesting (length front))) z) (sym two) (shut_extends front back bracket))

    is_or_not : (b : Bool) → (b ≡ true) ⊎ (b ≡ false)
    is_or_not true = inl refl
    is_or_not false = inr refl

    inner_local : (front back : Tokens) → Extends back (r.inner room R front) (r.inner room R (front ++ back))
    unfolding r.inner
    inner_local front back = elim (ahead_local front back) [
      | inl same ↦ subst (λ z. Extends back (r.inner_by room R (ahead front) front) (r.inner_by room R z (front ++ back))) (sym same) ((reach_by (ahead front)).local front back)
      | inr opened ↦ elim (zero_or_more room) [
        | inr m ↦ open_local front back opened (λ _. m)
        | inl none ↦ elim (is_or_not (is k.LeftBracket (next_kind front))) [
          | inl bracket ↦ shut_local front back none (same_kind_is (next_kind front) k.LeftBracket bracket)
          | inr other ↦ open_local front back opened (λ h. absurd (not_both other (ap (is k.LeftBracket) h ∙ same_kind_self k.LeftBracket)))
        ]
      ]
    ]

    inner_stop : (at : Ahead) (i : Tokens) (count : ℕ) → Goes room i count → ahead i ≡ at → r.inner_by room R at i ≡ Err (Syntax count) → Fronted (grammar.inner room L) i count
    inner_stop Expression i count goes seen h = fronted_as (exact_plain.stop i count goes h) plain_to
    inner_stop Pattern i count goes seen h = fronted_as (exact_filtered.stop i count goes h) filter_to
    inner_stop Either i count goes seen h =
        let e = either i seen in
        elim e.1 [
          | inl both ↦ elim (either_goes i both e.0) [
            | inl alike ↦ fronted_as (exact_filtered.stop i count goes (sym alike ∙ h)) filter_to
            | inr alike ↦ fronted_as (exact_plain.stop i count goes (sym alike ∙ h)) plain_to
          ]
          | inr none ↦ let shut = first_shut (r.filter_or_plain room R) none.0 i none.1 in absurd (cc (shut, h))
        ]

    inner_shows : (at : Ahead) (i : Tokens) → ahead i ≡ at → Shows room i (r.inner_by room R at i)
    unfolding opens_nesting
    inner_shows Expression i seen = exact_plain.shows i
    inner_shows Pattern i seen = exact_filtered.shows i
    inner_shows Either i seen =
        let e = either i seen in
        elim e.1 [
          | inl both ↦ elim (either_goes i both e.0) [
            | inl alike ↦ subst (λ z. Shows room i z) (sym alike) (exact_filtered.shows i)
            | inr alike ↦ subst (λ z. Shows room i z) (sym alike) (exact_plain.shows i)
          ]
          | inr none ↦
              let t = some_token i k.LeftBracket none.1 (λ same. cc) in
              let here : Opener i (length i) = record { front = []; token = t.0; others = rest_of i; parts = t.1; place = sym (ap length t.1); opens = ap opens_nesting t.2 } in
              subst (λ z. Shows room i z) (sym (first_shut (r.filter_or_plain room R) none.0 i none.1)) here
        ]

    pub exact_inner : {always : Bool} → Exact always room (r.inner room R) (grammar.inner room L)
    unfolding r.inner grammar.inner
    exact_inner = record {
      sound = law_inner.sound;
      stop = λ toks count goes h. inner_stop (ahead toks) toks count goes refl h;
      some = λ enough. record { toks = []; value = inn.List []; spelled = inl (listed_none (refl, refl)) };
      reach = record { within = λ i. (reach_by (ahead i)).within i; local = inner_local; faults = λ i e fits h. (reach_by (ahead i)).faults i e fits h };
      shows = λ toks. inner_shows (ahead toks) toks refl;
    }
