-- Reading what iterators bind, and iterators.
use Rattle.std.proofs.Common.{ℕ, Bool, true, false, not, nat_lt, if◌then◌else◌, List, refl, ltb-true, lt-ltb, ◌≤◌, arith, inl, inr}
use Rattle.setl_tree.specs.declared.kind.Kind.{Kind}
use Rattle.setl_tree.specs.declared.kind.Kind.TheVariants as k
use Rattle.setl_tree.specs.declared.expr.Slot.TheVariants as sl
use Rattle.setl_tree.specs.declared.expr.Bound.{Bound}
use Rattle.setl_tree.specs.declared.expr.Bound.TheVariants as bd
use Rattle.setl_tree.specs.declared.expr.Iter.{Iter}
use Rattle.setl_tree.specs.declared.expr.Iter.TheVariants as it
use Rattle.setl_tree.specs.declared.expr.Expr.{Expr}
use Rattle.setl_tree.specs.Tokens.{Tokens}
use Rattle.setl_tree.specs.Lang.{Lang, Then}
use Rattle.setl_tree.specs.Lang as lang
use Rattle.setl_tree.specs.Operators.{level_of}
use Rattle.setl_tree.specs.Expressions as grammar
use Rattle.setl_parse_reading.specs.Fronts.{opens_nesting}
use Rattle.setl_parse_reading.specs.code.Reading.{Reader, ◌>>=◌, pure, expect, is, same_kind}
use Rattle.setl_parse_reading.specs.code.ReadExpressions as r
use Rattle.setl_parse_reading.proofs.EveryKind.{kinds}
use Rattle.setl_parse_reading.proofs.Laws.{Law, Within, Begins, always, anything, within, within_always, same, law_then, law_map, law_stops, law_expect, law_choose, law_as, law_opening, law_separated, law_name, begins_name, begins_token, begins_then, begins_or, begins_within, begins_opening, begins_separated, follows_begins, follows_token}
use Rattle.setl_parse_reading.proofs.Exact.{Exact, weak, exact_then, exact_map, exact_expect, exact_choose, exact_either, exact_as, exact_opening, exact_separated, exact_name}
use Rattle.setl_parse_reading.proofs.Regroup.{behind, map_then, then_map, with_second, in_left, in_right, then_or}

-- ---- where an expression ends

-- an operand of this level ends before it
abbrev pub below : ℕ → Kind → Bool
below n kind = nat_lt (level_of kind) n

pub below_more : {n : ℕ} (m : ℕ) → n ≤ m → Within (below n) (below m)
below_more {n = n} m le = record { at = λ kind h. let lt = ltb-true (level_of kind) n h in lt-ltb (level_of kind) m (omega arith) }

-- behind an iterator and no comma
abbrev pub over : Kind → Bool
over kind = if is k.Comma kind then false else below 2 kind

-- ---- bounds

abbrev pub starts_slot : Kind → Bool
starts_slot kind = if is k.Name kind then true else is k.Minus kind

abbrev pub starts_bound : Kind → Bool
starts_bound kind = if is k.Name kind then true else is k.LeftBracket kind

pub begins_slot : Begins starts_slot grammar.slot
unfolding grammar.slot same_kind
begins_slot = begins_or (begins_then (begins_name refl)) (begins_then (begins_token k.Minus refl))

pub law_slot : Law r.slot grammar.slot always
unfolding r.slot grammar.slot same_kind
law_slot = law_choose (is k.Name)
    (law_map sl.Name law_name)
    (law_map (λ _. sl.Skip) (law_expect k.Minus))
    (follows_begins (begins_then (begins_name refl)) same)
    (follows_token k.Minus refl)

pub law_pattern : (room : ℕ) → Law (r.pattern room) (grammar.pattern room) always
unfolding r.pattern grammar.pattern same_kind
law_pattern room = law_opening room k.LeftBracket (λ _ _ _. law_then (law_separated law_slot within_always within_always same)
    (λ slots. law_map (λ _. slots) (law_expect k.RightBracket)) (λ slots. follows_token k.RightBracket refl))

pub begins_pattern : (room : ℕ) → Begins (is k.LeftBracket) (grammar.pattern room)
unfolding grammar.pattern same_kind
begins_pattern room = begins_then (begins_opening room k.LeftBracket refl)

not_name : Within (is k.LeftBracket) (λ kind. not (is k.Name kind))
unfolding kinds same_kind
not_name = within refl

pub law_bound : (room : ℕ) → Law (r.bound room) (grammar.bound room) always
unfolding r.bound grammar.bound same_kind
law_bound room = law_choose (is k.Name)
    (law_map bd.Name law_name)
    (law_map bd.Pattern (law_pattern room))
    (follows_begins (begins_then (begins_name refl)) same)
    (follows_begins (begins_then (begins_pattern room)) not_name)

pub begins_bound : (room : ℕ) → Begins starts_bound (grammar.bound room)
unfolding grammar.bound kinds same_kind
begins_bound room = begins_or (begins_then (begins_name refl)) (begins_then (begins_within (begins_pattern room) (within refl)))

pub exact_slot : {always : Bool} {room : ℕ} → Exact always room r.slot grammar.slot
unfolding r.slot grammar.slot opens_nesting
exact_slot = exact_choose (is k.Name) (exact_map sl.Name exact_name) (exact_map (λ _. sl.Skip) (exact_expect k.Minus refl))

pub exact_pattern : (room : ℕ) → Exact false room (r.pattern room) (grammar.pattern room)
unfolding r.pattern grammar.pattern opens_nesting
exact_pattern room = exact_opening room k.LeftBracket refl (λ _ _ _. exact_then (exact_separated exact_slot) (λ slots. exact_map (λ _. slots) (exact_expect k.RightBracket refl)))

pub exact_bound : {always : Bool} (room : ℕ) → Exact always room (r.bound room) (grammar.bound room)
unfolding r.bound grammar.bound
exact_bound room = exact_choose (is k.Name) (exact_map bd.Name exact_name) (exact_map bd.Pattern (exact_pattern room))

-- ---- iterators

module _ (room : ℕ) (source : Reader Expr) (L : Lang Expr) (law : Law source L (below 7)) where
  abbrev image_l : List ℕ → Lang Iter
  image_l y = Then lang.name (λ f. Then (lang.opening room k.LeftParen) (λ _. Then lang.name (λ x. Then (lang.token k.RightParen) (λ _. lang.pure (it.Image y f x)))))

  abbrev over_l : Bound → Lang Iter
  over_l b = Then (lang.token k.In) (λ _. Then L (λ s. lang.pure (it.Over b s)))

  law_image : (y : List ℕ) → Law (r.image room y) (image_l y) always
  unfolding r.image
  law_image y = law_then law_name (λ f. law_opening room k.LeftParen (λ _ _ _. law_then law_name (λ x. law_map (λ _. it.Image y f x) (law_expect k.RightParen)) (λ x. anything))) (λ f. anything)

  law_over : (b : Bound) → Law (expect k.In >>= λ _. source >>= λ s. pure (it.Over b s)) (over_l b) (below 7)
  law_over b = law_then (law_expect k.In) (λ _. law_map (λ s. it.Over b s) law) (λ _. anything)

  abbrev named_l : List ℕ → Lang Iter
  named_l x = lang.◌∣◌ (Then (lang.token k.Equal) (λ _. image_l x)) (over_l (bd.Name x))

  law_named : (x : List ℕ) → Law (r.named_iter room source x) (named_l x) (below 7)
  unfolding r.named_iter same_kind
  law_named x = law_choose (is k.Equal)
      (law_stops (law_then (law_expect k.Equal) (λ _. law_image x) (λ _. anything)) within_always)
      (law_over (bd.Name x))
      (follows_token k.Equal refl)
      (follows_token k.In refl)

  abbrev iter_l : Lang Iter
  iter_l = lang.◌∣◌ (Then lang.name named_l) (Then (grammar.pattern room) (λ slots. over_l (bd.Pattern slots)))

  law_iter_l : Law (r.iter room source) iter_l (below 7)
  unfolding r.iter r.pattern_iter same_kind
  law_iter_l = law_choose (is k.Name)
      (law_then law_name law_named (λ x. anything))
      (law_then (law_pattern room) (λ slots. law_over (bd.Pattern slots)) (λ slots. anything))
      (follows_begins (begins_then (begins_name refl)) same)
      (follows_begins (begins_then (begins_pattern room)) not_name)

  iter_to : (toks : Tokens) (a : Iter) → iter_l toks a → grammar.iter room L toks a
  unfolding grammar.iter grammar.bound
  iter_to toks a (inl named) = elim named.second [
    | inl image ↦ inr (with_second named image)
    | inr over ↦ inl (in_left (then_map (with_second named over)))
  ]
  iter_to toks a (inr pattern) = inl (in_right (then_map pattern))

  iter_from : (toks : Tokens) (a : Iter) → grammar.iter room L toks a → iter_l toks a
  unfolding grammar.iter grammar.bound
  iter_from toks a (inl over) = elim (then_or over) [
    | inl named ↦ inl (behind (λ x t y h. inr h) (map_then named))
    | inr pattern ↦ inr (map_then pattern)
  ]
  iter_from toks a (inr image) = inl (behind (λ x t y h. inl h) image)

  pub law_iter : Law (r.iter room source) (grammar.iter room L) (below 7)
  law_iter = law_as law_iter_l iter_to iter_from

  pub law_iters : Law (r.iters room source) (grammar.iters room L) over
  unfolding r.iters grammar.iters kinds same_kind level_of
  law_iters = law_separated law_iter (within refl) (within refl) (within refl)

  pub begins_iter : Begins starts_bound (grammar.iter room L)
  unfolding grammar.iter kinds same_kind
  begins_iter = begins_or (begins_then (begins_bound room)) (begins_then (begins_name refl))

  pub begins_iters : Begins starts_bound (grammar.iters room L)
  unfolding grammar.iters
  begins_iters = begins_separated begins_iter

  module _ (exact : Exact true room source L) where
    exact_image : (y : List ℕ) → Exact false room (r.image room y) (image_l y)
    unfolding r.image opens_nesting
    exact_image y = exact_then exact_name (λ f. exact_opening room k.LeftParen refl (λ _ _ _. exact_then exact_name (λ x. exact_map (λ _. it.Image y f x) (exact_expect k.RightParen refl))))

    exact_over : {always : Bool} (b : Bound) → Exact always room (expect k.In >>= λ _. source >>= λ s. pure (it.Over b s)) (over_l b)
    unfolding opens_nesting
    exact_over b = exact_then (exact_expect k.In refl) (λ _. exact_map (λ s. it.Over b s) (weak exact))

    exact_named : {always : Bool} (x : List ℕ) → Exact always room (r.named_iter room source x) (named_l x)
    unfolding r.named_iter opens_nesting
    exact_named x = exact_either (is k.Equal) (exact_then (exact_expect k.Equal refl) (λ _. exact_image x)) (exact_over (bd.Name x))

    exact_iter_l : {always : Bool} → Exact always room (r.iter room source) iter_l
    unfolding r.iter r.pattern_iter
    exact_iter_l = exact_choose (is k.Name) (exact_then exact_name (λ x. exact_named x)) (exact_then (exact_pattern room) (λ slots. exact_over (bd.Pattern slots)))

    pub exact_iters : {always : Bool} → Exact always room (r.iters room source) (grammar.iters room L)
    unfolding r.iters grammar.iters
    exact_iters = exact_separated (exact_as exact_iter_l iter_to)
