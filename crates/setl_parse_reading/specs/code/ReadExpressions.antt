-- Reading expressions. In each reader `room` is how many nestings may still open there, and `deep` reads what stands one
-- nesting deeper.
use Rattle.std.specs.Prelude.{ℕ, zero, suc, ◌-◌, Bool, true, false, if◌then◌else◌, List, [], ◌∷◌, Some, None}
use Rattle.setl_tree.specs.declared.kind.Kind.{Kind}
use Rattle.setl_tree.specs.declared.kind.Kind.TheVariants as k
use Rattle.setl_tree.specs.declared.expr.BinaryOp.{BinaryOp}
use Rattle.setl_tree.specs.declared.expr.Relation.TheVariants as rel
use Rattle.setl_tree.specs.declared.expr.Prefix.{Prefix}
use Rattle.setl_tree.specs.declared.expr.Prefix.TheVariants as pre
use Rattle.setl_tree.specs.declared.expr.Slot.{Slot}
use Rattle.setl_tree.specs.declared.expr.Slot.TheVariants as sl
use Rattle.setl_tree.specs.declared.expr.Bound.{Bound}
use Rattle.setl_tree.specs.declared.expr.Bound.TheVariants as bd
use Rattle.setl_tree.specs.declared.expr.Expr.{Expr}
use Rattle.setl_tree.specs.declared.expr.Expr.TheVariants as e
use Rattle.setl_tree.specs.declared.expr.Selector.{Selector}
use Rattle.setl_tree.specs.declared.expr.Selector.TheVariants as se
use Rattle.setl_tree.specs.declared.expr.Inner.{Inner}
use Rattle.setl_tree.specs.declared.expr.Inner.TheVariants as inn
use Rattle.setl_tree.specs.declared.expr.Iter.{Iter}
use Rattle.setl_tree.specs.declared.expr.Iter.TheVariants as it
use Rattle.setl_tree.specs.Operators.{op_at, relation_op, not_sign, prefix_op, fold_sign, quantifier, constant, chain_of, prefixed, selected}
use Rattle.setl_parse_reading.specs.declared.ahead.Ahead.{Ahead}
use Rattle.setl_parse_reading.specs.declared.ahead.Ahead.TheVariants.{Expression, Either, Pattern}
use Rattle.setl_parse_reading.specs.code.Reading.{Reader, ◌>>=◌, ◌>>◌, pure, refuse, peek, expect, opening, one_of, opening_one_of, is, begins_as, many, optional, more, separated, name}
use Rattle.setl_parse_reading.specs.code.Scan.{ahead, bound_expr}

-- ---- what iterators bind

unfoldable pub slot : Reader Slot
slot = do
  kind ← peek
  if is k.Name kind then (do x ← name; pure (sl.Name x)) else (do expect k.Minus; pure sl.Skip)

unfoldable pub pattern : ℕ → Reader (List Slot)
pattern room = do opening room k.LeftBracket; slots ← separated slot; expect k.RightBracket; pure slots

unfoldable pub bound : ℕ → Reader Bound
bound room = do
  kind ← peek
  if is k.Name kind then (do x ← name; pure (bd.Name x)) else (do slots ← pattern room; pure (bd.Pattern slots))

-- behind `name =`
unfoldable pub image : ℕ → List ℕ → Reader Iter
image room y = do
  f ← name
  opening room k.LeftParen
  x ← name
  expect k.RightParen
  pure (it.Image y f x)

-- behind the name that an iterator begins with
unfoldable pub named_iter : ℕ → Reader Expr → List ℕ → Reader Iter
named_iter room source x = do
  kind ← peek
  if is k.Equal kind then expect k.Equal >> image room x else (do expect k.In; s ← source; pure (it.Over (bd.Name x) s))

unfoldable pub pattern_iter : ℕ → Reader Expr → Reader Iter
pattern_iter room source = do slots ← pattern room; expect k.In; s ← source; pure (it.Over (bd.Pattern slots) s)

unfoldable pub iter : ℕ → Reader Expr → Reader Iter
iter room source = do
  kind ← peek
  if is k.Name kind then name >>= named_iter room source else pattern_iter room source

unfoldable pub iters : ℕ → Reader Expr → Reader (List Iter)
iters room source = separated (iter room source)

-- ---- levels of operators

abbrev pub operand : ℕ → Reader Expr → Reader (BinaryOp × Expr)
operand level item = do o ← one_of (op_at level); x ← item; pure (o, x)

-- operators of a level, each with its right operand
unfoldable pub operands : ℕ → Reader Expr → Reader (List (BinaryOp × Expr))
operands level item = many (begins_as (op_at level)) (operand level item)

-- what goes on from the first operand of a level
abbrev pub chain_from : ℕ → Reader Expr → Expr → Reader Expr
chain_from level item first = do others ← operands level item; pure (chain_of first others)

abbrev pub chain : ℕ → Reader Expr → Reader Expr
chain level item = item >>= chain_from level item

-- so many levels up from the one that binds tightest, whose number is `top` and whose operands are items
abbrev pub levels : ℕ → Reader Expr → ℕ → Reader Expr
levels top item zero = item
levels top item (suc n) = chain (top - n) (levels top item n)

-- the same, going on from the first item
abbrev pub levels_from : ℕ → Reader Expr → ℕ → Expr → Reader Expr
levels_from top item zero first = pure first
levels_from top item (suc n) first = levels_from top item n first >>= chain_from (top - n) (levels top item n)

-- ---- expressions

-- behind the sign of a fold
unfoldable pub fold : Reader Prefix
fold = do o ← one_of fold_sign; expect k.Slash; pure (pre.Folded o)

unfoldable pub prefix : Reader Prefix
prefix = do
  kind ← peek
  if begins_as fold_sign kind then fold else one_of prefix_op

unfoldable pub begins_prefix : Kind → Bool
begins_prefix kind = if begins_as fold_sign kind then true else begins_as prefix_op kind

unfoldable pub prefixes : Reader (List Prefix)
prefixes = many begins_prefix prefix

unfoldable pub nots : Reader (List Prefix)
nots = many (begins_as not_sign) (one_of not_sign)

-- Where so many nestings may still open: an expression, the source of an iterator, and what goes on from a comparison.
pub record Inside : Type 0 where
  pub expr : Reader Expr
  pub source : Reader Expr
  pub after : Expr → Reader Expr

unfoldable pub closes : Kind → Bool
closes k.RightBrace = true
closes k.RightBracket = true
closes _ = false

-- what stands inside braces or brackets
module _ (room : ℕ) (here : Inside) where
  -- `| condition`
  unfoldable pub condition : Reader Expr
  condition = expect k.Bar >> here.expr

  -- behind `value :`
  unfoldable pub former : Expr → Reader Inner
  former x = do
    over ← iters room here.source
    c ← optional (is k.Bar) condition
    pure (inn.Former x over c)

  -- behind `a, b`
  unfoldable pub third : Expr → Expr → Reader Inner
  third a b = do
    kind ← peek
    if is k.Dots kind then (do expect k.Dots; c ← here.expr; pure (inn.Range a (Some b) c)) else (do xs ← more here.expr; pure (inn.List (a ∷ b ∷ xs)))

  -- behind `a`, where no `:` or `..` stands
  unfoldable pub second : Expr → Reader Inner
  second a = do
    kind ← peek
    if is k.Comma kind then (do expect k.Comma; b ← here.expr; third a b) else pure (inn.List (a ∷ []))

  -- behind the first expression, where no `..` stands
  unfoldable pub unranged : Expr → Reader Inner
  unranged a = do
    kind ← peek
    if is k.Colon kind then expect k.Colon >> former a else second a

  -- behind the first expression
  unfoldable pub rest_of_inner : Expr → Reader Inner
  rest_of_inner a = do
    kind ← peek
    if is k.Dots kind then (do expect k.Dots; c ← here.expr; pure (inn.Range a None c)) else unranged a

  -- where an expression stands in front, or nothing
  unfoldable pub plain : Reader Inner
  plain = do
    kind ← peek
    if closes kind then pure (inn.List []) else here.expr >>= rest_of_inner

  -- behind `bound in`
  unfoldable pub filter : Bound → Expr → Reader Inner
  filter b s = do c ← condition; pure (inn.Filter b s c)

  -- behind `bound in source`, where the bound may be an expression
  unfoldable pub filter_or_plain : Bound → Expr → Reader Inner
  filter_or_plain b s = do
    kind ← peek
    if is k.Bar kind then filter b s else here.after (e.Compare (bound_expr b) rel.In s) >>= rest_of_inner

  -- `bound in source`, and what goes on from them
  unfoldable pub bound_first : (Bound → Expr → Reader Inner) → Reader Inner
  bound_first go_on = do b ← bound room; expect k.In; s ← here.source; go_on b s

  abbrev pub inner_by : Ahead → Reader Inner
  inner_by Expression = plain
  inner_by Either = bound_first filter_or_plain
  inner_by Pattern = bound_first filter

  unfoldable pub inner : Reader Inner
  inner = λ i. inner_by (ahead i) i

unfoldable pub begins_selector : Kind → Bool
begins_selector k.LeftParen = true
begins_selector k.LeftBrace = true
begins_selector _ = false

module _ (room : ℕ) (deep : Inside) where
  -- ---- selectors

  -- behind `( expr ..`
  unfoldable pub slice : Expr → Reader Selector
  slice a = do
    kind ← peek
    if is k.RightParen kind then expect k.RightParen >> pure (se.Slice a None) else (do b ← deep.expr; expect k.RightParen; pure (se.Slice a (Some b)))

  -- behind `( expr`
  unfoldable pub arguments : Expr → Reader Selector
  arguments a = do
    kind ← peek
    if is k.Dots kind then expect k.Dots >> slice a else (do xs ← more deep.expr; expect k.RightParen; pure (se.Round (a ∷ xs)))

  -- behind `(`
  unfoldable pub round : Reader Selector
  round = do
    kind ← peek
    if is k.RightParen kind then expect k.RightParen >> pure (se.Round []) else deep.expr >>= arguments

  unfoldable pub braces : Reader Selector
  braces = do opening room k.LeftBrace; xs ← separated deep.expr; expect k.RightBrace; pure (se.Braces xs)

  unfoldable pub selector : Reader Selector
  selector = do
    kind ← peek
    if is k.LeftParen kind then opening room k.LeftParen >> round else braces

  unfoldable pub selectors : Reader (List Selector)
  selectors = many begins_selector selector

  -- ---- primary expressions

  unfoldable pub parenthesized : Reader Expr
  parenthesized = do opening room k.LeftParen; x ← deep.expr; expect k.RightParen; pure x

  unfoldable pub if_expr : Reader Expr
  if_expr = do
    opening room k.If
    a ← deep.expr
    expect k.Then
    b ← deep.expr
    expect k.Else
    c ← deep.expr
    expect k.End
    pure (e.If a b c)

  unfoldable pub set : Reader Expr
  set = do opening room k.LeftBrace; x ← inner (room - 1) deep; expect k.RightBrace; pure (e.Set x)

  unfoldable pub tuple : Reader Expr
  tuple = do opening room k.LeftBracket; x ← inner (room - 1) deep; expect k.RightBracket; pure (e.Tuple x)

  abbrev pub primary_by : Kind → Reader Expr
  primary_by k.Number = do t ← expect k.Number; pure (e.Number t.value)
  primary_by k.StringLiteral = do t ← expect k.StringLiteral; pure (e.Text t.text)
  primary_by k.Name = do x ← name; pure (e.Name x)
  primary_by k.LeftParen = parenthesized
  primary_by k.If = if_expr
  primary_by k.LeftBrace = set
  primary_by k.LeftBracket = tuple
  primary_by _ = one_of constant

  unfoldable pub primary : Reader Expr
  primary = peek >>= primary_by

  -- ---- levels

  -- a primary expression with its selectors
  unfoldable pub e12 : Reader Expr
  e12 = do p ← primary; ss ← selectors; pure (selected p ss)

  unfoldable pub e11 : Reader Expr
  e11 = do ps ← prefixes; x ← e12; pure (prefixed ps x)

  unfoldable pub e7 : Reader Expr
  e7 = levels 10 e11 4

  -- behind the left side of a comparison
  unfoldable pub compared : Expr → Reader Expr
  compared a = do
    kind ← peek
    if begins_as relation_op kind then (do o ← one_of relation_op; b ← e7; pure (e.Compare a o b)) else pure a

  unfoldable pub e6 : Reader Expr
  e6 = e7 >>= compared

  unfoldable pub e5 : Reader Expr
  e5 = do ps ← nots; x ← e6; pure (prefixed ps x)

  unfoldable pub e2 : Reader Expr
  e2 = levels 4 e5 3

  -- what goes on from an operand of `and`
  unfoldable pub after : Expr → Reader Expr
  after a = levels_from 4 e5 3 a

  unfoldable pub quantified : Reader Expr
  quantified = do
    q ← opening_one_of room quantifier
    over ← iters (room - 1) deep.source
    expect k.Bar
    x ← deep.expr
    pure (e.Quantified q over x)

  unfoldable pub whole : Reader Expr
  whole = do
    kind ← peek
    if begins_as quantifier kind then quantified else e2

-- what stands one nesting deeper than where so many nestings may still open
unfoldable pub nested : ℕ → Inside
nested zero = record { expr = refuse; source = refuse; after = λ _. refuse }
nested (suc room) = record { expr = whole room (nested room); source = e7 room (nested room); after = after room (nested room) }

-- an expression with at most so many nestings inside one another
unfoldable pub expr : ℕ → Reader Expr
expr room = whole room (nested room)

-- the source of an iterator, with at most so many nestings inside one another
unfoldable pub source : ℕ → Reader Expr
source room = e7 room (nested room)
