-- The grammar of expressions. In each language `room` is how many nestings may still open there, and `deep` has the
-- expressions that stand one nesting deeper.
use Rattle.std.specs.Prelude.{ℕ, zero, suc, ◌-◌, List}
use Rattle.setl_tree.specs.declared.kind.Kind.TheVariants as k
use Rattle.setl_tree.specs.declared.expr.BinaryOp.{BinaryOp}
use Rattle.setl_tree.specs.declared.expr.Prefix.{Prefix}
use Rattle.setl_tree.specs.declared.expr.Prefix.TheVariants as pre
use Rattle.setl_tree.specs.declared.expr.Slot.{Slot}
use Rattle.setl_tree.specs.declared.expr.Slot.TheVariants as sl
use Rattle.setl_tree.specs.declared.expr.Bound.{Bound}
use Rattle.setl_tree.specs.declared.expr.Bound.TheVariants as bd
use Rattle.setl_tree.specs.declared.expr.Expr.{Expr}
use Rattle.setl_tree.specs.declared.expr.Expr.TheVariants as e
use Rattle.setl_tree.specs.declared.expr.Selector.{Selector}
use Rattle.setl_tree.specs.declared.expr.Selector.TheVariants as se
use Rattle.setl_tree.specs.declared.expr.Inner.{Inner}
use Rattle.setl_tree.specs.declared.expr.Inner.TheVariants as inn
use Rattle.setl_tree.specs.declared.expr.Iter.{Iter}
use Rattle.setl_tree.specs.declared.expr.Iter.TheVariants as it
use Rattle.setl_tree.specs.Lang.{Lang, pure, ◌>>=◌, ◌>>◌, ◌∣◌, never, token, one_of, opening, opening_one_of, many, optional, separated, listed, name}
use Rattle.setl_tree.specs.Operators.{op_at, relation_op, not_sign, prefix_op, fold_sign, quantifier, constant, chain_of, prefixed, selected}

-- ---- what iterators bind

-- slot = name | "-"
unfoldable pub slot : Lang Slot
slot =
    (do x ← name; pure (sl.Name x))
    ∣ (do token k.Minus; pure sl.Skip)

-- "[" slot { "," slot } "]"
unfoldable pub pattern : ℕ → Lang (List Slot)
pattern room = do opening room k.LeftBracket; slots ← separated slot; token k.RightBracket; pure slots

-- bound = name | "[" slot { "," slot } "]"
unfoldable pub bound : ℕ → Lang Bound
bound room =
    (do x ← name; pure (bd.Name x))
    ∣ (do slots ← pattern room; pure (bd.Pattern slots))

-- iter = bound "in" e7 | name "=" name "(" name ")"
unfoldable pub iter : ℕ → Lang Expr → Lang Iter
iter room source =
    (do b ← bound room; token k.In; s ← source; pure (it.Over b s))
    ∣ (do y ← name; token k.Equal; f ← name; opening room k.LeftParen; x ← name; token k.RightParen; pure (it.Image y f x))

-- iters = iter { "," iter }
unfoldable pub iters : ℕ → Lang Expr → Lang (List Iter)
iters room source = separated (iter room source)

-- ---- expressions

-- an operator of a level and its right operand
abbrev pub operand : ℕ → Lang Expr → Lang (BinaryOp × Expr)
operand level item = do o ← one_of (op_at level); x ← item; pure (o, x)

-- item { op item }, with the operators of a level
abbrev pub chain : ℕ → Lang Expr → Lang Expr
chain level item = do first ← item; others ← many (operand level item); pure (chain_of first others)

-- prefix = "-" | "#" | .. | fold "/"
unfoldable pub prefix : Lang Prefix
prefix =
    one_of prefix_op
    ∣ (do o ← one_of fold_sign; token k.Slash; pure (pre.Folded o))

-- expressions and sources of iterators, where so many nestings may still open
pub record Inside : Type 1 where
  pub expr : Lang Expr
  pub source : Lang Expr

-- inner = [ expr { "," expr } ] | expr [ "," expr ] ".." expr | expr ":" iters [ "|" expr ] | bound "in" e7 "|" expr
unfoldable pub inner : ℕ → Inside → Lang Inner
inner room here =
    (do xs ← listed here.expr; pure (inn.List xs))
    ∣ (do a ← here.expr; b ← optional (token k.Comma >> here.expr); token k.Dots; c ← here.expr; pure (inn.Range a b c))
    ∣ (do x ← here.expr; token k.Colon; is ← iters room here.source; c ← optional (token k.Bar >> here.expr); pure (inn.Former x is c))
    ∣ (do b ← bound room; token k.In; s ← here.source; token k.Bar; c ← here.expr; pure (inn.Filter b s c))

module _ (room : ℕ) (deep : Inside) where
  -- selector = "(" [ expr { "," expr } ] ")" | "(" expr ".." [ expr ] ")" | "{" expr { "," expr } "}"
  unfoldable pub selector : Lang Selector
  selector =
      (do opening room k.LeftParen; xs ← listed deep.expr; token k.RightParen; pure (se.Round xs))
      ∣ (do opening room k.LeftParen; a ← deep.expr; token k.Dots; b ← optional deep.expr; token k.RightParen; pure (se.Slice a b))
      ∣ (do opening room k.LeftBrace; xs ← separated deep.expr; token k.RightBrace; pure (se.Braces xs))

  -- prim = number | string | "om" | "true" | "false" | "newat" | "eof" | "ok" | name | "(" expr ")"
  --      | "if" expr "then" expr "else" expr "end" | "{" inner "}" | "[" inner "]"
  unfoldable pub primary : Lang Expr
  primary =
      (do t ← token k.Number; pure (e.Number t.value))
      ∣ (do t ← token k.StringLiteral; pure (e.Text t.text))
      ∣ one_of constant
      ∣ (do x ← name; pure (e.Name x))
      ∣ (do opening room k.LeftParen; x ← deep.expr; token k.RightParen; pure x)
      ∣ (do opening room k.If; a ← deep.expr; token k.Then; b ← deep.expr; token k.Else; c ← deep.expr; token k.End; pure (e.If a b c))
      ∣ (do opening room k.LeftBrace; x ← inner (room - 1) deep; token k.RightBrace; pure (e.Set x))
      ∣ (do opening room k.LeftBracket; x ← inner (room - 1) deep; token k.RightBracket; pure (e.Tuple x))

  -- e12 = prim { selector }
  unfoldable pub e12 : Lang Expr
  e12 = do p ← primary; ss ← many selector; pure (selected p ss)

  -- e11 = { prefix } e12
  unfoldable pub e11 : Lang Expr
  e11 = do ps ← many prefix; x ← e12; pure (prefixed ps x)

  -- e10 = e11 { "**" e11 }
  unfoldable pub e10 : Lang Expr
  e10 = chain 10 e11

  -- e9 = e10 { ("*" | "div" | "mod") e10 }
  unfoldable pub e9 : Lang Expr
  e9 = chain 9 e10

  -- e8 = e9 { ("+" | "-" | "max" | "min") e9 }
  unfoldable pub e8 : Lang Expr
  e8 = chain 8 e9

  -- e7 = e8 { ("with" | "less" | "lessf" | "npow") e8 }
  unfoldable pub e7 : Lang Expr
  e7 = chain 7 e8

  -- e6 = e7 [ rel e7 ]
  unfoldable pub e6 : Lang Expr
  e6 =
      e7
      ∣ (do a ← e7; o ← one_of relation_op; b ← e7; pure (e.Compare a o b))

  -- e5 = { "not" } e6
  unfoldable pub e5 : Lang Expr
  e5 = do ps ← many (one_of not_sign); x ← e6; pure (prefixed ps x)

  -- e4 = e5 { "and" e5 }
  unfoldable pub e4 : Lang Expr
  e4 = chain 4 e5

  -- e3 = e4 { "or" e4 }
  unfoldable pub e3 : Lang Expr
  e3 = chain 3 e4

  -- e2 = e3 { "impl" e3 }
  unfoldable pub e2 : Lang Expr
  e2 = chain 2 e3

  -- expr = ("exists" | "forall" | "notexists") iters "|" expr | e2
  unfoldable pub whole : Lang Expr
  whole =
      (do q ← opening_one_of room quantifier; is ← iters (room - 1) deep.source; token k.Bar; x ← deep.expr; pure (e.Quantified q is x))
      ∣ e2

-- what stands one nesting deeper than where so many nestings may still open
unfoldable pub nested : ℕ → Inside
nested zero = record { expr = never; source = never }
nested (suc room) = record { expr = whole room (nested room); source = e7 room (nested room) }

-- an expression with at most so many nestings inside one another
unfoldable pub expr : ℕ → Lang Expr
expr room = whole room (nested room)

-- the source of an iterator, with at most so many nestings inside one another
unfoldable pub source : ℕ → Lang Expr
source room = e7 room (nested room)
