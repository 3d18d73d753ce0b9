-- Parts of expressions that are read together.
use Rattle.std.specs.Prelude.{ℕ, List, [], ◌∷◌, Option}
use Rattle.setl_tree.specs.declared.kind.Kind.TheVariants as k
use Rattle.setl_tree.specs.declared.expr.Bound.{Bound}
use Rattle.setl_tree.specs.declared.expr.Expr.{Expr}
use Rattle.setl_tree.specs.declared.expr.Iter.{Iter}
use Rattle.setl_tree.specs.declared.expr.Prefix.{Prefix}
use Rattle.setl_tree.specs.Operators.{prefixed, selected}
use Rattle.setl_parse_reading.specs.code.Reading.{Reader, ◌>>=◌, ◌>>◌, pure, expect, is, optional, more}
use Rattle.setl_parse_expressions.specs.declared.primary.Before.{Before}
use Rattle.setl_parse_reading.specs.code.ReadExpressions.{Inside, bound, iters, condition, compared, e11, after, levels_from, nots, prefixes, primary, selectors}

-- two parts, and more behind them
abbrev pub two_and_more : {A : Type 0} → A → A → Reader A → Reader (List A)
two_and_more a b part = do xs ← more part; pure (a ∷ b ∷ xs)

-- the two values of a conditional expression, behind `then`
abbrev pub branches : {A : Type 0} → Reader A → Reader (A × A)
branches part = do b ← part; expect k.Else; c ← part; expect k.End; pure (b, c)

-- the iterators of a former, and its condition
abbrev pub clauses : ℕ → Inside → Reader (List Iter × Option Expr)
clauses room here = do over ← iters room here.source; c ← optional (is k.Bar) (condition room here); pure (over, c)

-- `bound in source`
abbrev pub bound_in : ℕ → Reader Expr → Reader (Bound × Expr)
bound_in room source = do b ← bound room; expect k.In; s ← source; pure (b, s)

-- a primary expression from which the selectors behind it select
abbrev pub selection : ℕ → Inside → Expr → Reader Expr
selection room deep p = do ss ← selectors room deep; pure (selected p ss)

-- an operand from its primary expression on
abbrev pub operand_from : ℕ → Inside → List Prefix → Expr → Reader Expr
operand_from room deep ps p = do x ← selection room deep p; pure (prefixed ps x)

-- what comparisons compare, from its primary expression on
abbrev pub sum_from : ℕ → Inside → List Prefix → Expr → Reader Expr
sum_from room deep ps p = do x ← operand_from room deep ps p; levels_from 10 (e11 room deep) 4 x

-- the words `not` and the prefixes before a primary expression
abbrev pub before_primary : Reader Before
before_primary = do ns ← nots; ps ← prefixes; pure (record { nots = ns; prefixes = ps })

-- a comparison from its primary expression on
abbrev pub comparison_from : ℕ → Inside → Before → Expr → Reader Expr
comparison_from room deep b p = do
  x ← sum_from room deep b.prefixes p
  y ← compared room deep x
  pure (prefixed b.nots y)

-- what goes on from a primary expression
abbrev pub go_on : ℕ → Inside → Before → Expr → Reader Expr
go_on room deep b p = do x ← comparison_from room deep b p; after room deep x

-- an expression that is no quantifier
abbrev pub expression : ℕ → Inside → Reader Expr
expression room deep = do b ← before_primary; p ← primary room deep; go_on room deep b p

-- the same where nothing stands before its primary expression
abbrev pub bare_expression : ℕ → Inside → Reader Expr
bare_expression room deep = do p ← primary room deep; go_on room deep (record { nots = []; prefixes = [] }) p
