-- Reading statements.
use Rattle.std.proofs.Common.{◌≡◌, ℕ, zero, suc, ◌-◌, Bool, true, not, if◌then◌else◌, false, List, [], ◌∷◌, ◌++◌, Some, Ok, refl, ap, subst, ◌∙◌, arith, inl, inr}
use Rattle.setl_tree.specs.declared.kind.Kind.{Kind}
use Rattle.setl_tree.specs.declared.kind.Kind.TheVariants as k
use Rattle.setl_tree.specs.declared.expr.Expr.{Expr}
use Rattle.setl_tree.specs.declared.expr.Selector.{Selector}
use Rattle.setl_tree.specs.declared.expr.Selector.TheVariants as se
use Rattle.setl_tree.specs.declared.expr.BinaryOp.TheVariants as op
use Rattle.setl_tree.specs.declared.stmt.FromEnd.TheVariants as fr
use Rattle.setl_tree.specs.declared.stmt.Place.{Place}
use Rattle.setl_tree.specs.declared.stmt.Branch.{Branch, roll-Branch}
use Rattle.setl_tree.specs.declared.stmt.Stmt.{Stmt, roll-Stmt}
use Rattle.setl_tree.specs.declared.stmt.StmtKind.{StmtKind}
use Rattle.setl_tree.specs.declared.stmt.StmtKind.TheVariants as st
use Rattle.setl_tree.specs.Tokens.{Token, Tokens}
use Rattle.setl_tree.specs.Lang.{Lang, Then}
use Rattle.setl_tree.specs.Lang as lang
use Rattle.setl_tree.specs.Operators.{level_of, update_op, prefix_op, fold_sign, not_sign, quantifier}
use Rattle.setl_tree.specs.Expressions.{nested, expr, pattern, iters}
use Rattle.setl_tree.specs.Statements as grammar
use Rattle.setl_tree.specs.Statements.{from_word, simple}
use Rattle.setl_parse_reading.specs.Fronts.{opens_nesting}
use Rattle.setl_parse_reading.specs.code.Reading.{Reader, ◌>>=◌, peek, is, but, begins_as, next_kind, same_kind, many, name}
use Rattle.setl_parse_reading.specs.code.ReadExpressions as r
use Rattle.setl_parse_reading.specs.code.ReadStatements as s
use Rattle.setl_parse_reading.specs.code.ReadStatements.{begins_stmt}
use Rattle.setl_parse_reading.proofs.EveryKind.{kinds, same_kind_self}
use Rattle.setl_parse_reading.proofs.Laws.{Took, Law, Follows, Within, Begins, always, anything, took_as, law_of, chosen, within, within_always, same, law_then, law_map, law_expect, law_one_of, law_choose, law_opening, law_many, law_separated, law_listed, law_optional, law_lined, law_name, begins_name, begins_token, begins_then, begins_or, begins_within, begins_one_of, begins_many, begins_lined, begins_opening, begins_separated, follows_begins, follows_token, follows_then, follows_many, follows_optional, follows_opening}
use Rattle.setl_parse_reading.proofs.Regroup.{behind, assoc, unassoc, pure_then, then_pure, map_then, then_map, with_second, then_or, in_left, in_right, listed_none, many_nil, many_cons, many_to}
use Rattle.setl_parse_reading.proofs.Exact.{Exact, Behind, weak, behind_of, behind_then, behind_choose, behind_expect, behind_optional, behind_closed, behind_opening, exact_then, exact_map, exact_expect, exact_one_of, exact_choose, exact_either, exact_as, exact_by, exact_pure, exact_opening, exact_many, exact_optional, exact_separated, exact_listed, exact_lined, exact_name}
use Rattle.setl_parse_reading.proofs.Bounds.{below, over, law_pattern, begins_pattern, law_iters, exact_pattern, exact_iters}
use Rattle.setl_parse_reading.proofs.Insides.{IsExact, IsInside, starts_primary, starts}
use Rattle.setl_parse_reading.proofs.Expressions.{law_expr, begins_expr, nested_inside, law_braces}
use Rattle.setl_parse_reading.proofs.ExactExpressions.{exact_braces, nested_exact, exact_expr}

-- ---- ends

follows_alone : (kind : Kind) {stops q : Kind → Bool} → q kind ≡ true → Follows (lang.token kind) stops q
follows_alone kind h = follows_begins (begins_token kind h) same

pub law_ending : (word : Kind) → Within (is k.Semicolon) (but word) → Law (s.ending word) (grammar.ending word) always
unfolding s.ending grammar.ending same_kind
law_ending word other = law_then (law_expect k.End)
    (λ _. law_then (law_optional (law_expect word) (begins_token word (same_kind_self word)) within_always other) (λ _. law_expect k.Semicolon) (λ _. follows_alone k.Semicolon (same_kind_self k.Semicolon)))
    (λ _. anything)

pub exact_ending : {always : Bool} {room : ℕ} (word : Kind) → opens_nesting word ≡ false → Exact always room (s.ending word) (grammar.ending word)
unfolding s.ending grammar.ending opens_nesting
exact_ending word plain = exact_then (exact_expect k.End refl) (λ _. exact_then (exact_optional (is word) (exact_expect word plain)) (λ _. exact_expect k.Semicolon refl))

behind_ending : {inside : ℕ} (word : Kind) → Behind inside (s.ending word) (grammar.ending word)
unfolding s.ending grammar.ending
behind_ending word = behind_then (behind_expect k.End) (λ _. behind_then (behind_optional (is word) (behind_expect word)) (λ _. behind_expect k.Semicolon))

pub begins_ending : (word : Kind) → Begins (is k.End) (grammar.ending word)
unfolding grammar.ending same_kind
begins_ending word = begins_then (begins_token k.End refl)

-- behind the statements of a body
abbrev pub ends_body : Kind → Bool
ends_body kind = not (begins_stmt kind)

end_ends_body : Within (is k.End) ends_body
unfolding kinds same_kind begins_stmt
end_ends_body = within refl

module _ (room : ℕ) where
  abbrev here : (inside : ℕ) → room ≡ suc inside → IsInside inside (r.nested room) (nested room)
  here = nested_inside room

  starts_no_paren : Within starts (but k.RightParen)
  unfolding kinds same_kind starts_primary r.begins_prefix prefix_op fold_sign not_sign quantifier
  starts_no_paren = within refl

  comma_below : Within (is k.Comma) (below 2)
  unfolding kinds level_of same_kind
  comma_below = within refl

  paren_below : Within (is k.RightParen) (below 2)
  unfolding kinds level_of same_kind
  paren_below = within refl

  paren_comma : Within (is k.RightParen) (but k.Comma)
  unfolding kinds same_kind
  paren_comma = within refl

  semicolon_below : Within (is k.Semicolon) (below 2)
  unfolding kinds level_of same_kind
  semicolon_below = within refl

  -- ---- places

  abbrev round_l : Lang Selector
  round_l = Then (lang.opening room k.LeftParen) (λ _. Then (lang.separated (nested room).expr) (λ xs. Then (lang.token k.RightParen) (λ _. lang.pure (se.Round xs))))

  abbrev braces_l : Lang Selector
  braces_l = Then (lang.opening room k.LeftBrace) (λ _. Then (lang.separated (nested room).expr) (λ xs. Then (lang.token k.RightBrace) (λ _. lang.pure (se.Braces xs))))

  law_place_round : Law (s.place_round room) round_l always
  unfolding s.place_round same_kind
  law_place_round = law_opening room k.LeftParen (λ m e _. law_then (law_separated (here m e).expr comma_below paren_below paren_comma) (λ xs. law_map (λ _. se.Round xs) (law_expect k.RightParen)) (λ xs. follows_token k.RightParen refl))

  law_place_braces : Law (r.braces room (r.nested room)) braces_l always
  law_place_braces = law_braces room (r.nested room) (nested room) here

  law_place_selector : Law (s.place_selector room) (grammar.place_selector room) always
  unfolding s.place_selector grammar.place_selector same_kind
  law_place_selector = law_choose (is k.LeftParen) law_place_round law_place_braces (follows_opening room k.LeftParen refl) (follows_opening room k.LeftBrace refl)

  begins_place_selector : Begins r.begins_selector (grammar.place_selector room)
  unfolding grammar.place_selector r.begins_selector
  begins_place_selector = begins_or (begins_then (begins_opening room k.LeftParen refl)) (begins_then (begins_opening room k.LeftBrace refl))

  abbrev no_selector : Kind → Bool
  no_selector kind = not (r.begins_selector kind)

  law_place_selectors : Law (s.place_selectors room) (lang.many (grammar.place_selector room)) no_selector
  unfolding s.place_selectors
  law_place_selectors = law_many law_place_selector begins_place_selector within_always within_always same

  law_place : Law (s.place room) (grammar.place room) no_selector
  unfolding s.place grammar.place
  law_place = law_then law_name (λ x. law_map (λ ss. record { name = x; selectors = ss }) law_place_selectors) (λ x. anything)

  -- ---- statements that begin with a name, as they are read

  abbrev assign_l : Place → Lang StmtKind
  assign_l p = Then (lang.token k.Assign) (λ _. Then (expr room) (λ x. Then (lang.token k.Semicolon) (λ _. lang.pure (st.Assign p x))))

  abbrev update_l : Place → Lang StmtKind
  update_l p = Then (lang.one_of update_op) (λ o. Then (lang.token k.Assign) (λ _. Then (expr room) (λ x. Then (lang.token k.Semicolon) (λ _. lang.pure (st.Update p o x)))))

  abbrev stored_l : Place → Lang StmtKind
  stored_l p = lang.◌∣◌ (assign_l p) (update_l p)

  abbrev selected_l : List ℕ → Selector → Lang StmtKind
  selected_l x s = Then (lang.many (grammar.place_selector room)) (λ ss. stored_l (record { name = x; selectors = s ∷ ss }))

  abbrev after_l : List ℕ → List Expr → Lang StmtKind
  after_l f xs = lang.◌∣◌ (Then (lang.token k.Semicolon) (λ _. lang.pure (st.Call f xs))) (selected_l f (se.Round xs))

  abbrev called_l : List ℕ → Lang StmtKind
  called_l f = lang.◌∣◌ (Then (lang.token k.RightParen) (λ _. Then (lang.token k.Semicolon) (λ _. lang.pure (st.Call f []))))
      (Then (lang.separated (nested room).expr) (λ xs. Then (lang.token k.RightParen) (λ _. after_l f xs)))

  abbrev braced_l : List ℕ → Lang StmtKind
  braced_l x = lang.◌∣◌ (Then braces_l (selected_l x)) (stored_l (record { name = x; selectors = [] }))

  abbrev store_l : List ℕ → Lang StmtKind
  store_l x = lang.◌∣◌ (Then (lang.opening room k.LeftParen) (λ _. called_l x)) (braced_l x)

  abbrev taken_l : List ℕ → Lang StmtKind
  taken_l x = Then (lang.one_of from_word) (λ w. Then (grammar.place room) (λ p. Then (lang.token k.Semicolon) (λ _. lang.pure (st.Take x w p))))

  abbrev behind_l : List ℕ → Lang StmtKind
  behind_l x = lang.◌∣◌ (taken_l x) (store_l x)

  abbrev named_l : Lang StmtKind
  named_l = Then lang.name behind_l

  -- `:=` or an operator
  abbrev storing : Kind → Bool
  storing kind = if is k.Assign kind then true else begins_as update_op kind

  update_storing : Within (begins_as update_op) storing
  unfolding kinds same_kind update_op
  update_storing = within refl

  begins_stored : (p : Place) → Begins storing (stored_l p)
  unfolding same_kind
  begins_stored p = begins_or (begins_then (begins_token k.Assign refl)) (begins_then (begins_within (begins_one_of update_op) update_storing))

  update_no_assign : Within (begins_as update_op) (but k.Assign)
  unfolding kinds same_kind update_op
  update_no_assign = within refl

  law_assigned : (p : Place) → Law (s.assigned room p) (assign_l p) always
  unfolding s.assigned level_of
  law_assigned p = law_then (law_expect k.Assign) (λ _. law_then (law_expr room) (λ x. law_map (λ _. st.Assign p x) (law_expect k.Semicolon)) (λ x. follows_token k.Semicolon refl)) (λ _. anything)

  law_updated : (p : Place) → Law (s.updated room p) (update_l p) always
  unfolding s.updated level_of update_op
  law_updated p = law_then (law_one_of update_op refl) (λ o. law_then (law_expect k.Assign) (λ _. law_then (law_expr room) (λ x. law_map (λ _. st.Update p o x) (law_expect k.Semicolon)) (λ x. follows_token k.Semicolon refl)) (λ _. anything)) (λ o. anything)

  law_stored : (p : Place) → Law (s.stored room p) (stored_l p) always
  unfolding s.stored same_kind
  law_stored p = law_choose (is k.Assign) (law_assigned p) (law_updated p) (follows_token k.Assign refl) (follows_begins (begins_then (begins_one_of update_op)) update_no_assign)

  storing_no_selector : Within storing no_selector
  unfolding kinds same_kind update_op r.begins_selector
  storing_no_selector = within refl

  law_selected : (x : List ℕ) (part : Selector) → Law (s.selected_place room x part) (selected_l x part) always
  unfolding s.selected_place
  law_selected x part = law_then law_place_selectors (λ ss. law_stored (record { name = x; selectors = part ∷ ss })) (λ ss. follows_begins (begins_stored (record { name = x; selectors = part ∷ ss })) storing_no_selector)

  -- more of a place
  abbrev placing : Kind → Bool
  placing kind = if r.begins_selector kind then true else storing kind

  selector_placing : Within r.begins_selector placing
  unfolding kinds same_kind update_op r.begins_selector
  selector_placing = within refl

  storing_placing : Within storing placing
  unfolding kinds same_kind update_op r.begins_selector
  storing_placing = within refl

  begins_selected : (x : List ℕ) (part : Selector) → Begins placing (selected_l x part)
  begins_selected x part = begins_many begins_place_selector selector_placing (λ ss. begins_within (begins_stored (record { name = x; selectors = part ∷ ss })) storing_placing)

  placing_no_semicolon : Within placing (but k.Semicolon)
  unfolding kinds same_kind update_op r.begins_selector
  placing_no_semicolon = within refl

  law_after : (f : List ℕ) (xs : List Expr) → Law (s.after_arguments room f xs) (after_l f xs) always
  unfolding s.after_arguments same_kind
  law_after f xs = law_choose (is k.Semicolon) (law_map (λ _. st.Call f xs) (law_expect k.Semicolon)) (law_selected f (se.Round xs)) (follows_token k.Semicolon refl) (follows_begins (begins_selected f (se.Round xs)) placing_no_semicolon)

  law_no_arguments : (f : List ℕ) → Law (s.no_arguments room f) (Then (lang.token k.RightParen) (λ _. Then (lang.token k.Semicolon) (λ _. lang.pure (st.Call f [])))) always
  unfolding s.no_arguments
  law_no_arguments f = law_then (law_expect k.RightParen) (λ _. law_map (λ _. st.Call f []) (law_expect k.Semicolon)) (λ _. anything)

  law_called : (m : ℕ) → room ≡ suc m → (f : List ℕ) → Law (s.called room f) (called_l f) always
  unfolding s.called same_kind
  law_called m e f = law_choose (is k.RightParen)
      (law_no_arguments f)
      (law_then (law_separated (here m e).expr comma_below paren_below paren_comma) (λ xs. law_then (law_expect k.RightParen) (λ _. law_after f xs) (λ _. anything)) (λ xs. follows_token k.RightParen refl))
      (follows_token k.RightParen refl)
      (follows_begins (begins_then (begins_separated (here m e).begins)) starts_no_paren)

  brace_storing : Within storing (but k.LeftBrace)
  unfolding kinds same_kind update_op
  brace_storing = within refl

  law_braced : (x : List ℕ) → Law (s.braced_or_alone room x) (braced_l x) always
  unfolding s.braced_or_alone same_kind
  law_braced x = law_choose (is k.LeftBrace)
      (law_then law_place_braces (law_selected x) (λ _. anything))
      (law_stored (record { name = x; selectors = [] }))
      (follows_begins (begins_then (begins_then (begins_opening room k.LeftBrace refl))) same)
      (follows_begins (begins_stored (record { name = x; selectors = [] })) brace_storing)

  -- a brace, or the end of a place
  abbrev bracing : Kind → Bool
  bracing kind = if is k.LeftBrace kind then true else storing kind

  storing_bracing : Within storing bracing
  unfolding kinds same_kind update_op
  storing_bracing = within refl

  begins_braced : (x : List ℕ) → Begins bracing (braced_l x)
  unfolding same_kind
  begins_braced x = begins_or (begins_then (begins_then (begins_opening room k.LeftBrace refl))) (begins_within (begins_stored (record { name = x; selectors = [] })) storing_bracing)

  bracing_no_paren : Within bracing (but k.LeftParen)
  unfolding kinds same_kind update_op
  bracing_no_paren = within refl

  law_store : (x : List ℕ) → Law (s.called_or_stored room x) (store_l x) always
  unfolding s.called_or_stored same_kind
  law_store x = law_choose (is k.LeftParen)
      (law_opening room k.LeftParen (λ m e _. law_called m e x))
      (law_braced x)
      (follows_opening room k.LeftParen refl)
      (follows_begins (begins_braced x) bracing_no_paren)

  bracing_placing : Within bracing placing
  unfolding kinds same_kind update_op r.begins_selector
  bracing_placing = within refl

  begins_store : (x : List ℕ) → Begins placing (store_l x)
  unfolding r.begins_selector
  begins_store x = begins_or (begins_then (begins_opening room k.LeftParen refl)) (begins_within (begins_braced x) bracing_placing)

  law_taken : (x : List ℕ) → Law (s.taken room x) (taken_l x) always
  unfolding s.taken from_word r.begins_selector
  law_taken x = law_then (law_one_of from_word refl) (λ w. law_then law_place (λ p. law_map (λ _. st.Take x w p) (law_expect k.Semicolon)) (λ p. follows_token k.Semicolon refl)) (λ w. anything)

  placing_no_from : Within placing (λ kind. not (begins_as from_word kind))
  unfolding kinds same_kind update_op r.begins_selector from_word
  placing_no_from = within refl

  law_behind : (x : List ℕ) → Law (s.behind_name room x) (behind_l x) always
  unfolding s.behind_name
  law_behind x = law_choose (begins_as from_word) (law_taken x) (law_store x) (follows_begins (begins_then (begins_one_of from_word)) same) (follows_begins (begins_store x) placing_no_from)

  law_named : Law (name >>= s.behind_name room) named_l always
  law_named = law_then law_name law_behind (λ x. anything)

  -- ---- other statements without statements inside

  law_tuple_assign : Law (s.tuple_assign room) (Then (pattern room) (λ slots. Then (lang.token k.Assign) (λ _. Then (expr room) (λ x. Then (lang.token k.Semicolon) (λ _. lang.pure (st.TupleAssign slots x)))))) always
  unfolding s.tuple_assign level_of
  law_tuple_assign = law_then (law_pattern room) (λ slots. law_then (law_expect k.Assign) (λ _. law_then (law_expr room) (λ x. law_map (λ _. st.TupleAssign slots x) (law_expect k.Semicolon)) (λ x. follows_token k.Semicolon refl)) (λ _. anything)) (λ slots. anything)

  starts_no_semicolon : Within starts (but k.Semicolon)
  unfolding kinds same_kind starts_primary r.begins_prefix prefix_op fold_sign not_sign quantifier
  starts_no_semicolon = within refl

  semicolon_none : Within (is k.Semicolon) (λ kind. not (but k.Semicolon kind))
  unfolding kinds same_kind
  semicolon_none = within refl

  law_return : Law (s.return_stmt room) (Then (lang.token k.Return) (λ _. Then (lang.optional (expr room)) (λ x. Then (lang.token k.Semicolon) (λ _. lang.pure (st.Return x))))) always
  unfolding s.return_stmt same_kind
  law_return = law_then (law_expect k.Return) (λ _. law_then (law_optional (law_expr room) (begins_within (begins_expr room) starts_no_semicolon) semicolon_below semicolon_none)
      (λ x. law_map (λ _. st.Return x) (law_expect k.Semicolon)) (λ x. follows_token k.Semicolon refl)) (λ _. anything)

  law_print : Law (s.print_stmt room) (Then (lang.token k.Print) (λ _. Then (lang.opening room k.LeftParen) (λ _. Then (lang.listed (nested room).expr) (λ xs. Then (lang.token k.RightParen) (λ _. Then (lang.token k.Semicolon) (λ _. lang.pure (st.Print xs))))))) always
  unfolding s.print_stmt same_kind
  law_print = law_then (law_expect k.Print) (λ _. law_opening room k.LeftParen (λ m e _. law_then (law_listed k.RightParen (here m e).expr (here m e).begins comma_below paren_below paren_comma starts_no_paren)
      (λ xs. law_then (law_expect k.RightParen) (λ _. law_map (λ _. st.Print xs) (law_expect k.Semicolon)) (λ _. anything)) (λ xs. follows_token k.RightParen refl))) (λ _. anything)

  law_read : Law (s.read_stmt room) (Then (lang.token k.Read) (λ _. Then (lang.opening room k.LeftParen) (λ _. Then (lang.separated lang.name) (λ xs. Then (lang.token k.RightParen) (λ _. Then (lang.token k.Semicolon) (λ _. lang.pure (st.Read xs))))))) always
  unfolding s.read_stmt same_kind
  law_read = law_then (law_expect k.Read) (λ _. law_opening room k.LeftParen (λ m e _. law_then (law_separated law_name within_always within_always paren_comma)
      (λ xs. law_then (law_expect k.RightParen) (λ _. law_map (λ _. st.Read xs) (law_expect k.Semicolon)) (λ _. anything)) (λ xs. follows_token k.RightParen refl))) (λ _. anything)

  abbrev simple_l : Lang StmtKind
  simple_l = Then (lang.one_of simple) (λ s. Then (lang.token k.Semicolon) (λ _. lang.pure s))

  law_simple : Law (s.simple_stmt room) simple_l always
  unfolding s.simple_stmt simple
  law_simple = law_then (law_one_of simple refl) (λ s. law_map (λ _. s) (law_expect k.Semicolon)) (λ s. anything)

  -- ---- where reading stops

  abbrev exact_here : (inside : ℕ) → room ≡ suc inside → IsExact inside (r.nested room) (nested room)
  exact_here = nested_exact room

  exact_place_round : Exact false room (s.place_round room) round_l
  unfolding s.place_round opens_nesting
  exact_place_round = exact_opening room k.LeftParen refl (λ m e _. exact_then (exact_separated (weak (exact_here m e).expr)) (λ xs. exact_map (λ _. se.Round xs) (exact_expect k.RightParen refl)))

  exact_place_braces : Exact false room (r.braces room (r.nested room)) braces_l
  exact_place_braces = exact_braces room (r.nested room) (nested room) here exact_here

  exact_place_selector : Exact false room (s.place_selector room) (grammar.place_selector room)
  unfolding s.place_selector grammar.place_selector
  exact_place_selector = exact_choose (is k.LeftParen) exact_place_round exact_place_braces

  exact_place_selectors : {always : Bool} → Exact always room (s.place_selectors room) (lang.many (grammar.place_selector room))
  unfolding s.place_selectors
  exact_place_selectors = exact_many r.begins_selector exact_place_selector begins_place_selector

  exact_place : {always : Bool} → Exact always room (s.place room) (grammar.place room)
  unfolding s.place grammar.place
  exact_place = exact_then exact_name (λ x. exact_map (λ ss. record { name = x; selectors = ss }) exact_place_selectors)

  exact_assigned : {always : Bool} (p : Place) → Exact always room (s.assigned room p) (assign_l p)
  unfolding s.assigned opens_nesting
  exact_assigned p = exact_then (exact_expect k.Assign refl) (λ _. exact_then (exact_expr room) (λ x. exact_map (λ _. st.Assign p x) (exact_expect k.Semicolon refl)))

  exact_updated : {always : Bool} (p : Place) → Exact always room (s.updated room p) (update_l p)
  unfolding s.updated update_op opens_nesting kinds
  exact_updated p = exact_then (exact_one_of update_op k.With op.With refl refl (within refl)) (λ o. exact_then (exact_expect k.Assign refl) (λ _. exact_then (exact_expr room) (λ x. exact_map (λ _. st.Update p o x) (exact_expect k.Semicolon refl))))

  exact_stored : {always : Bool} (p : Place) → Exact always room (s.stored room p) (stored_l p)
  unfolding s.stored
  exact_stored p = exact_choose (is k.Assign) (exact_assigned p) (exact_updated p)

  exact_selected : {always : Bool} (x : List ℕ) (part : Selector) → Exact always room (s.selected_place room x part) (selected_l x part)
  unfolding s.selected_place
  exact_selected x part = exact_then exact_place_selectors (λ ss. exact_stored (record { name = x; selectors = part ∷ ss }))

  exact_after : {always : Bool} (f : List ℕ) (xs : List Expr) → Exact always room (s.after_arguments room f xs) (after_l f xs)
  unfolding s.after_arguments opens_nesting
  exact_after f xs = exact_choose (is k.Semicolon) (exact_map (λ _. st.Call f xs) (exact_expect k.Semicolon refl)) (exact_selected f (se.Round xs))

  exact_no_arguments : {always : Bool} {inside : ℕ} (f : List ℕ) → Exact always inside (s.no_arguments room f) (Then (lang.token k.RightParen) (λ _. Then (lang.token k.Semicolon) (λ _. lang.pure (st.Call f []))))
  unfolding s.no_arguments opens_nesting
  exact_no_arguments f = exact_then (exact_expect k.RightParen refl) (λ _. exact_map (λ _. st.Call f []) (exact_expect k.Semicolon refl))

  exact_called : (m : ℕ) → room ≡ suc m → (f : List ℕ) → Behind m (s.called room f) (called_l f)
  unfolding s.called opens_nesting
  exact_called m e f = behind_choose (is k.RightParen)
      (behind_of (exact_no_arguments f))
      (behind_then (behind_of (exact_separated (weak (exact_here m e).expr))) (λ xs. behind_then (behind_expect k.RightParen) (λ _. behind_closed e (exact_after f xs))))

  exact_braced : {always : Bool} (x : List ℕ) → Exact always room (s.braced_or_alone room x) (braced_l x)
  unfolding s.braced_or_alone
  exact_braced x = exact_either (is k.LeftBrace) (exact_then exact_place_braces (λ part. exact_selected x part)) (exact_stored (record { name = x; selectors = [] }))

  exact_store : {always : Bool} (x : List ℕ) → Exact always room (s.called_or_stored room x) (store_l x)
  unfolding s.called_or_stored opens_nesting
  exact_store x = exact_either (is k.LeftParen) (behind_opening room k.LeftParen refl (λ m e _. exact_called m e x)) (exact_braced x)

  exact_taken : {always : Bool} (x : List ℕ) → Exact always room (s.taken room x) (taken_l x)
  unfolding s.taken from_word opens_nesting kinds
  exact_taken x = exact_then (exact_one_of from_word k.From fr.From refl refl (within refl)) (λ w. exact_then exact_place (λ p. exact_map (λ _. st.Take x w p) (exact_expect k.Semicolon refl)))

  exact_named : {always : Bool} → Exact always room (name >>= s.behind_name room) named_l
  unfolding s.behind_name
  exact_named = exact_then exact_name (λ x. exact_choose (begins_as from_word) (exact_taken x) (exact_store x))

  exact_tuple_assign : Exact false room (s.tuple_assign room) (Then (pattern room) (λ slots. Then (lang.token k.Assign) (λ _. Then (expr room) (λ x. Then (lang.token k.Semicolon) (λ _. lang.pure (st.TupleAssign slots x))))))
  unfolding s.tuple_assign opens_nesting
  exact_tuple_assign = exact_then (exact_pattern room) (λ slots. exact_then (exact_expect k.Assign refl) (λ _. exact_then (exact_expr room) (λ x. exact_map (λ _. st.TupleAssign slots x) (exact_expect k.Semicolon refl))))

  exact_return : {always : Bool} → Exact always room (s.return_stmt room) (Then (lang.token k.Return) (λ _. Then (lang.optional (expr room)) (λ x. Then (lang.token k.Semicolon) (λ _. lang.pure (st.Return x)))))
  unfolding s.return_stmt opens_nesting
  exact_return = exact_then (exact_expect k.Return refl) (λ _. exact_then (exact_optional (but k.Semicolon) (exact_expr room)) (λ x. exact_map (λ _. st.Return x) (exact_expect k.Semicolon refl)))

  exact_print : Exact false room (s.print_stmt room) (Then (lang.token k.Print) (λ _. Then (lang.opening room k.LeftParen) (λ _. Then (lang.listed (nested room).expr) (λ xs. Then (lang.token k.RightParen) (λ _. Then (lang.token k.Semicolon) (λ _. lang.pure (st.Print xs)))))))
  unfolding s.print_stmt opens_nesting
  exact_print = exact_then (exact_expect k.Print refl) (λ _. exact_opening room k.LeftParen refl (λ m e _. exact_then (exact_listed k.RightParen (weak (exact_here m e).expr))
      (λ xs. exact_then (exact_expect k.RightParen refl) (λ _. exact_map (λ _. st.Print xs) (exact_expect k.Semicolon refl)))))

  exact_read : Exact false room (s.read_stmt room) (Then (lang.token k.Read) (λ _. Then (lang.opening room k.LeftParen) (λ _. Then (lang.separated lang.name) (λ xs. Then (lang.token k.RightParen) (λ _. Then (lang.token k.Semicolon) (λ _. lang.pure (st.Read xs)))))))
  unfolding s.read_stmt opens_nesting
  exact_read = exact_then (exact_expect k.Read refl) (λ _. exact_opening room k.LeftParen refl (λ m e _. exact_then (exact_separated exact_name)
      (λ xs. exact_then (exact_expect k.RightParen refl) (λ _. exact_map (λ _. st.Read xs) (exact_expect k.Semicolon refl)))))

  exact_simple : {always : Bool} → Exact always room (s.simple_stmt room) simple_l
  unfolding s.simple_stmt simple opens_nesting kinds
  exact_simple = exact_then (exact_one_of simple k.Pass st.Pass refl refl (within refl)) (λ s. exact_map (λ _. s) (exact_expect k.Semicolon refl))

  module _ (deep : Reader (List Stmt)) (D : Lang (List Stmt)) (law_deep : (m : ℕ) → room ≡ suc m → Law deep D ends_body) where
    -- ---- `if`

    law_branch : (m : ℕ) → room ≡ suc m → Law (s.branch room deep) (grammar.branch room D) ends_body
    unfolding s.branch grammar.branch level_of
    law_branch m e = law_then (here m e).expr (λ c. law_then (law_expect k.Then) (λ _. law_map (λ body. roll-Branch (record { condition = c; body = body })) (law_deep m e)) (λ _. anything)) (λ c. follows_token k.Then refl)

    -- behind the branches
    abbrev else_or_end : Kind → Bool
    else_or_end kind = if is k.Else kind then true else is k.End kind

    abbrev elseif_l : Lang Branch
    elseif_l = Then (lang.token k.Elseif) (λ _. grammar.branch room D)

    begins_elseif : Begins (is k.Elseif) elseif_l
    unfolding same_kind
    begins_elseif = begins_then (begins_token k.Elseif refl)

    elseif_ends_body : Within (is k.Elseif) ends_body
    unfolding kinds same_kind begins_stmt
    elseif_ends_body = within refl

    else_ends_body : Within else_or_end ends_body
    unfolding kinds same_kind begins_stmt
    else_ends_body = within refl

    else_no_elseif : Within else_or_end (but k.Elseif)
    unfolding kinds same_kind
    else_no_elseif = within refl

    law_elseifs : (m : ℕ) → room ≡ suc m → Law (s.elseifs room deep) (lang.many elseif_l) else_or_end
    unfolding s.elseifs
    law_elseifs m e = law_many (law_then (law_expect k.Elseif) (λ _. law_branch m e) (λ _. anything)) begins_elseif elseif_ends_body else_ends_body else_no_elseif

    abbrev else_l : Lang (List Stmt)
    else_l = Then (lang.token k.Else) (λ _. D)

    begins_else : Begins (is k.Else) else_l
    unfolding same_kind
    begins_else = begins_then (begins_token k.Else refl)

    end_no_else : Within (is k.End) (but k.Else)
    unfolding kinds same_kind
    end_no_else = within refl

    law_else_part : (m : ℕ) → room ≡ suc m → Law (s.else_part room deep) (lang.optional else_l) (is k.End)
    unfolding s.else_part
    law_else_part m e = law_optional (law_then (law_expect k.Else) (λ _. law_deep m e) (λ _. anything)) begins_else end_ends_body end_no_else

    if_no_semicolon : Within (is k.Semicolon) (but k.If)
    unfolding kinds same_kind
    if_no_semicolon = within refl

    for_no_semicolon : Within (is k.Semicolon) (but k.For)
    unfolding kinds same_kind
    for_no_semicolon = within refl

    while_no_semicolon : Within (is k.Semicolon) (but k.While)
    unfolding kinds same_kind
    while_no_semicolon = within refl

    follows_ending : {A : Type 0} (word : Kind) {M : Token → Tokens → A → Type 0} {stops q : Kind → Bool} → Within (is k.End) q → Follows (Then (grammar.ending word) M) stops q
    follows_ending word h = follows_begins (begins_then (begins_ending word)) h

    else_is_either : Within (is k.Else) else_or_end
    unfolding kinds same_kind
    else_is_either = within refl

    end_is_either : Within (is k.End) else_or_end
    unfolding kinds same_kind
    end_is_either = within refl

    abbrev if_l : Lang StmtKind
    if_l = Then (lang.opening room k.If) (λ _. Then (grammar.branch room D) (λ first. Then (lang.many elseif_l) (λ others. Then (lang.optional else_l) (λ last. Then (grammar.ending k.If) (λ _. lang.pure (st.If first others last))))))

    law_if : Law (s.if_stmt room deep) if_l always
    unfolding s.if_stmt
    law_if = law_opening room k.If (λ m e _. law_then (law_branch m e)
        (λ first. law_then (law_elseifs m e)
        (λ others. law_then (law_else_part m e)
        (λ last. law_map (λ _. st.If first others last) (law_ending k.If if_no_semicolon))
        (λ last. follows_ending k.If same))
        (λ others. follows_then (follows_optional begins_else else_is_either end_is_either) (λ last. follows_ending k.If same)))
        (λ first. follows_then (follows_many begins_elseif elseif_ends_body else_ends_body) (λ others. follows_then (follows_optional begins_else else_is_either end_is_either) (λ last. follows_ending k.If same))))

    -- ---- loops

    abbrev bar_l : Lang Expr
    bar_l = Then (lang.token k.Bar) (λ _. (nested room).expr)

    begins_bar : Begins (is k.Bar) bar_l
    unfolding same_kind
    begins_bar = begins_then (begins_token k.Bar refl)

    bar_over : Within (is k.Bar) over
    unfolding kinds same_kind level_of
    bar_over = within refl

    paren_over : Within (is k.RightParen) over
    unfolding kinds same_kind level_of
    paren_over = within refl

    paren_no_bar : Within (is k.RightParen) (but k.Bar)
    unfolding kinds same_kind
    paren_no_bar = within refl

    law_bar : (m : ℕ) → room ≡ suc m → Law (r.condition room (r.nested room)) bar_l (below 2)
    unfolding r.condition
    law_bar m e = law_then (law_expect k.Bar) (λ _. (here m e).expr) (λ _. anything)

    abbrev for_l : Lang StmtKind
    for_l = Then (lang.token k.For) (λ _. Then (iters (room - 1) (nested room).source) (λ over. Then (lang.optional bar_l) (λ c. Then (lang.token k.RightParen) (λ _. Then D (λ body. Then (grammar.ending k.For) (λ _. lang.pure (st.For over c body)))))))

    law_for : (m : ℕ) → room ≡ suc m → Law (s.for_loop room deep) for_l always
    unfolding s.for_loop same_kind
    law_for m e = law_then (law_expect k.For) (λ _. law_then (law_iters (room - 1) (r.nested room).source (nested room).source (here m e).source)
        (λ over. law_then (law_optional (law_bar m e) begins_bar paren_below paren_no_bar)
        (λ c. law_then (law_expect k.RightParen) (λ _. law_then (law_deep m e) (λ body. law_map (λ _. st.For over c body) (law_ending k.For for_no_semicolon)) (λ body. follows_ending k.For end_ends_body)) (λ _. anything))
        (λ c. follows_token k.RightParen refl))
        (λ over. follows_then (follows_optional {stops = is k.RightParen} begins_bar bar_over paren_over) (λ c. follows_token k.RightParen refl))) (λ _. anything)

    abbrev while_l : Lang StmtKind
    while_l = Then (lang.token k.While) (λ _. Then (nested room).expr (λ c. Then (lang.token k.RightParen) (λ _. Then D (λ body. Then (grammar.ending k.While) (λ _. lang.pure (st.While c body))))))

    law_while : (m : ℕ) → room ≡ suc m → Law (s.while_loop room deep) while_l always
    unfolding s.while_loop level_of
    law_while m e = law_then (law_expect k.While) (λ _. law_then (here m e).expr
        (λ c. law_then (law_expect k.RightParen) (λ _. law_then (law_deep m e) (λ body. law_map (λ _. st.While c body) (law_ending k.While while_no_semicolon)) (λ body. follows_ending k.While end_ends_body)) (λ _. anything))
        (λ c. follows_token k.RightParen refl)) (λ _. anything)

    abbrev loop_l : Lang StmtKind
    loop_l = Then (lang.opening room k.LeftParen) (λ _. lang.◌∣◌ for_l while_l)

    law_for_or_while : (m : ℕ) → room ≡ suc m → Law (s.for_or_while room deep) (lang.◌∣◌ for_l while_l) always
    unfolding s.for_or_while same_kind
    law_for_or_while m e = law_choose (is k.For) (law_for m e) (law_while m e) (follows_token k.For refl) (follows_token k.While refl)

    law_loop : Law (s.loop room deep) loop_l always
    unfolding s.loop
    law_loop = law_opening room k.LeftParen (λ m e _. law_for_or_while m e)

    -- ---- all statements

    -- a place and what is stored to it
    store_to : (toks : Tokens) (a : StmtKind) → Then (grammar.place room) stored_l toks a → grammar.stmt_kind room D toks a
    unfolding grammar.stmt_kind
    store_to toks a s = elim s.second [ inl assign ↦ inl (with_second s assign) | inr update ↦ inr (inl (with_second s update)) ]

    place_of : (toks : Tokens) (a : StmtKind) → Then lang.name (λ x. Then (lang.many (grammar.place_selector room)) (λ ss. stored_l (record { name = x; selectors = ss }))) toks a → grammar.stmt_kind room D toks a
    unfolding grammar.place
    place_of toks a s = store_to toks a (unassoc (behind (λ x t y h. then_map h) s))

    round_to : {A : Type 0} {K : Selector → Tokens → A → Type 0} {toks : Tokens} {y : A} → Then (lang.opening room k.LeftParen) (λ _. Then (lang.separated (nested room).expr) (λ xs. Then (lang.token k.RightParen) (λ _. K (se.Round xs)))) toks y → Then round_l K toks y
    round_to s = unassoc (behind (λ _ t y h. unassoc (behind (λ xs t y h. unassoc (behind (λ _ t y h. then_pure h) h)) h)) s)

    round_from : {A : Type 0} {K : Selector → Tokens → A → Type 0} {toks : Tokens} {y : A} → Then round_l K toks y → Then (lang.opening room k.LeftParen) (λ _. Then (lang.separated (nested room).expr) (λ xs. Then (lang.token k.RightParen) (λ _. K (se.Round xs)))) toks y
    round_from s = behind (λ _ t y h. behind (λ xs t y h. behind (λ _ t y h. pure_then h) (assoc h)) (assoc h)) (assoc s)

    named_to : (toks : Tokens) (a : StmtKind) → named_l toks a → grammar.stmt_kind room D toks a
    unfolding grammar.stmt_kind grammar.place_selector
    named_to toks a s = elim s.second [
      | inl taken ↦ inr (inr (inr (inl (with_second s taken))))
      | inr (inl paren) ↦ elim paren.second [
        | inl none ↦ inr (inr (inr (inr (inl (with_second s (with_second paren (listed_none none)))))))
        | inr some ↦ elim some.second.second [
          | inl semicolon ↦ inr (inr (inr (inr (inl (with_second s (with_second paren (in_right (with_second some (with_second some.second semicolon)))))))))
          | inr selected ↦ place_of toks a (with_second s (many_cons (in_left (round_to (with_second paren (with_second some (with_second some.second selected)))))))
        ]
      ]
      | inr (inr (inl braced)) ↦ place_of toks a (with_second s (many_cons (in_right braced)))
      | inr (inr (inr stored)) ↦ place_of toks a (with_second s (many_nil stored))
    ]

    place_from : (toks : Tokens) (a : StmtKind) → Then (grammar.place room) stored_l toks a → named_l toks a
    unfolding grammar.place grammar.place_selector
    place_from toks a s = behind (λ x t y h. inr (elim (many_to (grammar.place_selector room) (λ ss. stored_l (record { name = x; selectors = ss })) (map_then h)) [
      | inl none ↦ inr (inr none)
      | inr some ↦ elim (then_or some) [
        | inl round ↦ inl (behind (λ _ t y h. inr (behind (λ xs t y h. behind (λ _ t y h. inr h) h) h)) (round_from round))
        | inr braces ↦ inr (inl braces)
      ]
    ])) (assoc s)

    call_from : (f : List ℕ) (toks : Tokens) (a : StmtKind) → Then (lang.opening room k.LeftParen) (λ _. Then (lang.listed (nested room).expr) (λ xs. Then (lang.token k.RightParen) (λ _. Then (lang.token k.Semicolon) (λ _. lang.pure (st.Call f xs))))) toks a → store_l f toks a
    call_from f toks a s = inl (behind (λ _ t y h. elim (then_or h) [ inl none ↦ inl (pure_then none) | inr some ↦ inr (behind (λ xs t y h. behind (λ _ t y h. inl h) h) some) ]) s)

    kind_sound : (kind : Kind) (toks : Tokens) (a : StmtKind) (rest : Tokens) → s.kind_by room deep kind toks ≡ Ok (a, rest) → Took (grammar.stmt_kind room D) toks a rest
    unfolding grammar.stmt_kind
    kind_sound k.Name toks a rest h = took_as (law_named.sound.took toks a rest h) named_to
    kind_sound k.LeftBracket toks a rest h = took_as (law_tuple_assign.sound.took toks a rest h) (λ u a s. inr (inr (inl s)))
    kind_sound k.If toks a rest h = took_as (law_if.sound.took toks a rest h) (λ u a s. inr (inr (inr (inr (inr (inl s))))))
    kind_sound k.LeftParen toks a rest h = took_as (law_loop.sound.took toks a rest h) (λ u a s. elim s.second [ inl l ↦ inr (inr (inr (inr (inr (inr (inl (with_second s l))))))) | inr l ↦ inr (inr (inr (inr (inr (inr (inr (inl (with_second s l)))))))) ])
    kind_sound k.Return toks a rest h = took_as (law_return.sound.took toks a rest h) (λ u a s. inr (inr (inr (inr (inr (inr (inr (inr (inr (inl s))))))))))
    kind_sound k.Print toks a rest h = took_as (law_print.sound.took toks a rest h) (λ u a s. inr (inr (inr (inr (inr (inr (inr (inr (inr (inr (inl s)))))))))))
    kind_sound k.Read toks a rest h = took_as (law_read.sound.took toks a rest h) (λ u a s. inr (inr (inr (inr (inr (inr (inr (inr (inr (inr (inr s)))))))))))
    kind_sound _ toks a rest h = took_as (law_simple.sound.took toks a rest h) (λ u a s. inr (inr (inr (inr (inr (inr (inr (inr (inl s)))))))))

    -- the other kinds are read as words
    word_by : (kind : Kind) (a : StmtKind) → simple kind ≡ Some a → (toks : Tokens) → s.kind_by room deep kind toks ≡ s.simple_stmt room toks
    unfolding simple
    word_by k.Name a h toks = absurd cc
    word_by k.LeftBracket a h toks = absurd cc
    word_by k.If a h toks = absurd cc
    word_by k.LeftParen a h toks = absurd cc
    word_by k.Return a h toks = absurd cc
    word_by k.Print a h toks = absurd cc
    word_by k.Read a h toks = absurd cc
    word_by _ a h toks = refl

    begins_named : Begins (is k.Name) named_l
    unfolding same_kind
    begins_named = begins_then (begins_name refl)

    named_reads : (used rest : Tokens) (a : StmtKind) → named_l used a → (peek >>= s.kind_by room deep) (used ++ rest) ≡ Ok (a, rest)
    named_reads used rest a n = chosen k.Name (s.kind_by room deep) law_named begins_named used rest a n refl

    kind_reads : (used rest : Tokens) (a : StmtKind) → grammar.stmt_kind room D used a → (peek >>= s.kind_by room deep) (used ++ rest) ≡ Ok (a, rest)
    unfolding grammar.stmt_kind same_kind
    kind_reads used rest a (inl x) = named_reads used rest a (place_from used a (behind (λ p t y h. inl h) x))
    kind_reads used rest a (inr (inl x)) = named_reads used rest a (place_from used a (behind (λ p t y h. inr h) x))
    kind_reads used rest a (inr (inr (inl x))) = chosen k.LeftBracket (s.kind_by room deep) law_tuple_assign (begins_then (begins_pattern room)) used rest a x refl
    kind_reads used rest a (inr (inr (inr (inl x)))) = named_reads used rest a (behind (λ x t y h. inl h) x)
    kind_reads used rest a (inr (inr (inr (inr (inl x))))) = named_reads used rest a (behind (λ f t y h. inr (call_from f t y h)) x)
    kind_reads used rest a (inr (inr (inr (inr (inr (inl x)))))) = chosen k.If (s.kind_by room deep) law_if (begins_then (begins_opening room k.If refl)) used rest a x refl
    kind_reads used rest a (inr (inr (inr (inr (inr (inr (inl x))))))) = chosen k.LeftParen (s.kind_by room deep) law_loop (begins_then (begins_opening room k.LeftParen refl)) used rest a (behind (λ _ t y h. inl h) x) refl
    kind_reads used rest a (inr (inr (inr (inr (inr (inr (inr (inl x)))))))) = chosen k.LeftParen (s.kind_by room deep) law_loop (begins_then (begins_opening room k.LeftParen refl)) used rest a (behind (λ _ t y h. inr h) x) refl
    kind_reads used rest a (inr (inr (inr (inr (inr (inr (inr (inr (inl x))))))))) =
        let next : next_kind (used ++ rest) ≡ x.first.it.kind = ap (λ (z : Tokens). next_kind (z ++ rest)) (x.parts ∙ ap (λ (z : Tokens). z ++ x.back) x.first.alone) in
        ap (λ (z : Kind). s.kind_by room deep z (used ++ rest)) next ∙ word_by x.first.it.kind x.value x.first.means (used ++ rest) ∙ law_simple.complete.reads used rest a x refl
    kind_reads used rest a (inr (inr (inr (inr (inr (inr (inr (inr (inr (inl x)))))))))) = chosen k.Return (s.kind_by room deep) law_return (begins_then (begins_token k.Return refl)) used rest a x refl
    kind_reads used rest a (inr (inr (inr (inr (inr (inr (inr (inr (inr (inr (inl x))))))))))) = chosen k.Print (s.kind_by room deep) law_print (begins_then (begins_token k.Print refl)) used rest a x refl
    kind_reads used rest a (inr (inr (inr (inr (inr (inr (inr (inr (inr (inr (inr x))))))))))) = chosen k.Read (s.kind_by room deep) law_read (begins_then (begins_token k.Read refl)) used rest a x refl

    pub law_stmt_kind : Law (s.stmt_kind room deep) (grammar.stmt_kind room D) always
    unfolding s.stmt_kind
    law_stmt_kind = law_of (λ toks a rest h. kind_sound (next_kind toks) toks a rest h) (λ used rest a x stop. kind_reads used rest a x)

    simple_begins : Within (begins_as simple) begins_stmt
    unfolding kinds simple begins_stmt
    simple_begins = within refl

    begins_place : Begins begins_stmt (grammar.place room)
    unfolding grammar.place begins_stmt
    begins_place = begins_then (begins_name refl)

    bracket_begins : Within (is k.LeftBracket) begins_stmt
    unfolding kinds same_kind begins_stmt
    bracket_begins = within refl

    begins_kind : Begins begins_stmt (grammar.stmt_kind room D)
    unfolding grammar.stmt_kind begins_stmt
    begins_kind = begins_or (begins_then begins_place) (begins_or (begins_then begins_place) (begins_or (begins_then (begins_within (begins_pattern room) bracket_begins)) (begins_or (begins_then (begins_name refl)) (begins_or (begins_then (begins_name refl))
        (begins_or (begins_then (begins_opening room k.If refl)) (begins_or (begins_then (begins_opening room k.LeftParen refl)) (begins_or (begins_then (begins_opening room k.LeftParen refl)) (begins_or (begins_then (begins_within (begins_one_of simple) simple_begins))
        (begins_or (begins_then (begins_token k.Return refl)) (begins_or (begins_then (begins_token k.Print refl)) (begins_then (begins_token k.Read refl))))))))))))

    law_stmt : Law (s.stmt room deep) (grammar.stmt room D) always
    unfolding s.stmt grammar.stmt
    law_stmt = law_map (λ x. roll-Stmt (record { line = x.0; kind = x.1 })) (law_lined law_stmt_kind begins_kind)

    begins_a_stmt : Begins begins_stmt (grammar.stmt room D)
    unfolding grammar.stmt
    begins_a_stmt = begins_then (begins_lined begins_kind)

    pub law_body : Law (many begins_stmt (s.stmt room deep)) (lang.many (grammar.stmt room D)) ends_body
    law_body = law_many law_stmt begins_a_stmt within_always within_always same

    -- ---- where reading stops

    module _ (exact_deep : (m : ℕ) → room ≡ suc m → Exact true m deep D) where
      exact_branch : {always : Bool} (m : ℕ) → room ≡ suc m → Exact always m (s.branch room deep) (grammar.branch room D)
      unfolding s.branch grammar.branch opens_nesting
      exact_branch m e = exact_then (weak (exact_here m e).expr) (λ c. exact_then (exact_expect k.Then refl) (λ _. exact_map (λ body. roll-Branch (record { condition = c; body = body })) (weak (exact_deep m e))))

      exact_elseifs : {always : Bool} (m : ℕ) → room ≡ suc m → Exact always m (s.elseifs room deep) (lang.many elseif_l)
      unfolding s.elseifs opens_nesting
      exact_elseifs m e = exact_many (is k.Elseif) (exact_then (exact_expect k.Elseif refl) (λ _. exact_branch m e)) begins_elseif

      exact_else_part : {always : Bool} (m : ℕ) → room ≡ suc m → Exact always m (s.else_part room deep) (lang.optional else_l)
      unfolding s.else_part opens_nesting
      exact_else_part m e = exact_optional (is k.Else) (exact_then (exact_expect k.Else refl) (λ _. weak (exact_deep m e)))

      exact_if : Exact false room (s.if_stmt room deep) if_l
      unfolding s.if_stmt opens_nesting
      exact_if = behind_opening room k.If refl (λ m e _. behind_then (behind_of (exact_branch m e)) (λ first. behind_then (behind_of (exact_elseifs m e)) (λ others. behind_then (behind_of (exact_else_part m e))
          (λ last. behind_then (behind_ending k.If) (λ _. behind_of (exact_pure (st.If first others last)))))))

      inside_room : (m : ℕ) → room ≡ suc m → m ≡ room - 1
      inside_room m e = omega (arith, e)

      exact_over : {always : Bool} (m : ℕ) → room ≡ suc m → Exact always m (r.iters (room - 1) (r.nested room).source) (iters (room - 1) (nested room).source)
      exact_over {always = always} m e = subst (λ (z : ℕ). Exact always m (r.iters z (r.nested room).source) (iters z (nested room).source)) (inside_room m e) (exact_iters m (r.nested room).source (nested room).source (here m e).source (exact_here m e).source)

      exact_bar : {always : Bool} (m : ℕ) → room ≡ suc m → Exact always m (r.condition room (r.nested room)) bar_l
      unfolding r.condition opens_nesting
      exact_bar m e = exact_then (exact_expect k.Bar refl) (λ _. weak (exact_here m e).expr)

      exact_for : {always : Bool} (m : ℕ) → room ≡ suc m → Exact always m (s.for_loop room deep) for_l
      unfolding s.for_loop opens_nesting
      exact_for m e = exact_then (exact_expect k.For refl) (λ _. exact_then (exact_over m e) (λ over. exact_then (exact_optional (is k.Bar) (exact_bar m e)) (λ c. exact_then (exact_expect k.RightParen refl)
          (λ _. exact_then (weak (exact_deep m e)) (λ body. exact_map (λ _. st.For over c body) (exact_ending k.For refl))))))

      exact_while : {always : Bool} (m : ℕ) → room ≡ suc m → Exact always m (s.while_loop room deep) while_l
      unfolding s.while_loop opens_nesting
      exact_while m e = exact_then (exact_expect k.While refl) (λ _. exact_then (weak (exact_here m e).expr) (λ c. exact_then (exact_expect k.RightParen refl)
          (λ _. exact_then (weak (exact_deep m e)) (λ body. exact_map (λ _. st.While c body) (exact_ending k.While refl)))))

      exact_loop : Exact false room (s.loop room deep) loop_l
      unfolding s.loop s.for_or_while opens_nesting
      exact_loop = exact_opening room k.LeftParen refl (λ m e _. exact_choose (is k.For) (exact_for m e) (exact_while m e))

      exact_kind : (kind : Kind) → Exact false room (s.kind_by room deep kind) (grammar.stmt_kind room D)
      unfolding grammar.stmt_kind
      exact_kind k.Name = exact_as exact_named named_to
      exact_kind k.LeftBracket = exact_as exact_tuple_assign (λ u a s. inr (inr (inl s)))
      exact_kind k.If = exact_as exact_if (λ u a s. inr (inr (inr (inr (inr (inl s))))))
      exact_kind k.LeftParen = exact_as exact_loop (λ u a s. elim s.second [ inl l ↦ inr (inr (inr (inr (inr (inr (inl (with_second s l))))))) | inr l ↦ inr (inr (inr (inr (inr (inr (inr (inl (with_second s l)))))))) ])
      exact_kind k.Return = exact_as exact_return (λ u a s. inr (inr (inr (inr (inr (inr (inr (inr (inr (inl s))))))))))
      exact_kind k.Print = exact_as exact_print (λ u a s. inr (inr (inr (inr (inr (inr (inr (inr (inr (inr (inl s)))))))))))
      exact_kind k.Read = exact_as exact_read (λ u a s. inr (inr (inr (inr (inr (inr (inr (inr (inr (inr (inr s)))))))))))
      exact_kind _ = exact_as exact_simple (λ u a s. inr (inr (inr (inr (inr (inr (inr (inr (inl s)))))))))

      exact_word : Exact true room (s.simple_stmt room) (grammar.stmt_kind room D)
      unfolding grammar.stmt_kind
      exact_word = exact_as exact_simple (λ u a s. inr (inr (inr (inr (inr (inr (inr (inr (inl s)))))))))

      exact_stmt_kind : {always : Bool} → Exact always room (s.stmt_kind room deep) (grammar.stmt_kind room D)
      unfolding s.stmt_kind
      exact_stmt_kind = exact_by exact_kind (λ _. exact_word.some (omega arith))

      exact_stmt : {always : Bool} → Exact always room (s.stmt room deep) (grammar.stmt room D)
      unfolding s.stmt grammar.stmt
      exact_stmt = exact_map (λ x. roll-Stmt (record { line = x.0; kind = x.1 })) (exact_lined exact_stmt_kind begins_kind)

      pub exact_body : {always : Bool} → Exact always room (many begins_stmt (s.stmt room deep)) (lang.many (grammar.stmt room D))
      exact_body = exact_many begins_stmt exact_stmt begins_a_stmt

nested_stmts : (room inside : ℕ) → room ≡ suc inside → Law (s.nested_stmts room) (grammar.nested_stmts room) ends_body
unfolding s.nested_stmts grammar.nested_stmts
nested_stmts zero inside h = absurd (omega (arith, h))
nested_stmts (suc room) inside h = law_body room (s.nested_stmts room) (grammar.nested_stmts room) (nested_stmts room)

-- reading statements with at most so many nestings inside one another
pub law_stmts : (room : ℕ) → Law (s.stmts room) (grammar.stmts room) ends_body
unfolding s.stmts grammar.stmts
law_stmts room = law_body room (s.nested_stmts room) (grammar.nested_stmts room) (nested_stmts room)

-- what stands in front of statements
pub follows_stmts : (room : ℕ) {stops q : Kind → Bool} → Within begins_stmt q → Within stops q → Follows (grammar.stmts room) stops q
unfolding grammar.stmts
follows_stmts room go stop = follows_many (begins_a_stmt room (s.nested_stmts room) (grammar.nested_stmts room) (nested_stmts room)) go stop

-- ---- where reading stops

pub exact_nested : (room inside : ℕ) → room ≡ suc inside → Exact true inside (s.nested_stmts room) (grammar.nested_stmts room)
unfolding s.nested_stmts grammar.nested_stmts
exact_nested zero inside h = absurd (omega (arith, h))
exact_nested (suc room) inside h = subst (λ (z : ℕ). Exact true z (s.nested_stmts (suc room)) (grammar.nested_stmts (suc room))) (omega (arith, h)) (exact_body room (s.nested_stmts room) (grammar.nested_stmts room) (nested_stmts room) (exact_nested room))

pub exact_stmts : {always : Bool} (room : ℕ) → Exact always room (s.stmts room) (grammar.stmts room)
unfolding s.stmts grammar.stmts
exact_stmts room = exact_body room (s.nested_stmts room) (grammar.nested_stmts room) (nested_stmts room) (exact_nested room)
