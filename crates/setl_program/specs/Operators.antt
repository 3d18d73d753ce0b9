-- What the operators of a tree become in a program.
use Rattle.std.specs.Prelude.{Option, Some, None}
use Rattle.setl_tree.specs.declared.expr.BinaryOp.{BinaryOp}
use Rattle.setl_tree.specs.declared.expr.BinaryOp.TheVariants as op
use Rattle.setl_tree.specs.declared.expr.Relation.{Relation}
use Rattle.setl_tree.specs.declared.expr.Relation.TheVariants as rel
use Rattle.setl_tree.specs.declared.expr.Fold.{Fold}
use Rattle.setl_tree.specs.declared.expr.Fold.TheVariants as fd
use Rattle.setl_tree.specs.declared.expr.Prefix.{Prefix}
use Rattle.setl_tree.specs.declared.expr.Prefix.TheVariants as pre
use Rattle.setl_tree.specs.declared.expr.Quantifier.{Quantifier as QuantifierWord}
use Rattle.setl_tree.specs.declared.expr.Quantifier.TheVariants as qu
use Rattle.setl_tree.specs.declared.stmt.FromEnd.{FromEnd}
use Rattle.setl_tree.specs.declared.stmt.FromEnd.TheVariants as fr
use Rattle.setl_operators_table.specs.declared.Operator.{Operator}
use Rattle.setl_operators_table.specs.declared.Operator.TheVariants as o
use Rattle.setl_program.specs.declared.kinds.Connective.{Connective}
use Rattle.setl_program.specs.declared.kinds.Connective.TheVariants.{And, Or, Implies}
use Rattle.setl_program.specs.declared.kinds.Quantifier.{Quantifier}
use Rattle.setl_program.specs.declared.kinds.Quantifier.TheVariants.{Exists, Forall, NotExists}
use Rattle.setl_program.specs.declared.kinds.Taking.{Taking}
use Rattle.setl_program.specs.declared.kinds.Taking.TheVariants.{TakeLeast, TakeFirst, TakeLast}
use Rattle.setl_program.specs.Program.{Expr, Apply, Connect, no_expr, more_exprs}

abbrev pub one : Operator → Expr → Expr
one f a = Apply f (more_exprs a no_expr)

abbrev pub two : Operator → Expr → Expr → Expr
two f a b = Apply f (more_exprs a (more_exprs b no_expr))

-- the operator of an update; `and`, `or` and `impl` never stand there
abbrev pub updating : BinaryOp → Operator
updating op.With = o.With
updating op.Less = o.Less
updating op.Lessf = o.Lessf
updating op.Npow = o.Npow
updating op.Plus = o.Add
updating op.Minus = o.Subtract
updating op.Max = o.Max
updating op.Min = o.Min
updating op.Times = o.Multiply
updating op.Div = o.Divide
updating op.Mod = o.Modulo
updating op.Power = o.Power
updating f = o.Equal

-- the operators that look at their right part only where they need it
abbrev pub connective : BinaryOp → Option Connective
connective op.Impl = Some Implies
connective op.Or = Some Or
connective op.And = Some And
connective f = None

abbrev pub joined : Option Connective → Operator → Expr → Expr → Expr
joined None f a b = two f a b
joined (Some k) f a b = Connect k a b

abbrev pub binary : BinaryOp → Expr → Expr → Expr
binary f a b = joined (connective f) (updating f) a b

abbrev pub relation : Relation → Operator
relation rel.Equal = o.Equal
relation rel.NotEqual = o.NotEqual
relation rel.LessThan = o.Below
relation rel.AtMost = o.AtMost
relation rel.GreaterThan = o.Above
relation rel.AtLeast = o.AtLeast
relation rel.In = o.In
relation rel.Notin = o.NotIn
relation rel.Subset = o.Subset
relation rel.Incs = o.Includes

abbrev pub folding : Fold → Operator
folding fd.Plus = o.FoldAdd
folding fd.Times = o.FoldMultiply
folding fd.Max = o.FoldMax
folding fd.Min = o.FoldMin
folding fd.And = o.FoldAnd
folding fd.Or = o.FoldOr

abbrev pub prefix : Prefix → Operator
prefix pre.Not = o.Not
prefix pre.Minus = o.Negate
prefix pre.Size = o.Size
prefix pre.Abs = o.Abs
prefix pre.Even = o.Even
prefix pre.Odd = o.Odd
prefix pre.Pow = o.Pow
prefix pre.Domain = o.Domain
prefix pre.Range = o.Range
prefix pre.Arb = o.Arb
prefix pre.Str = o.Str
prefix pre.IsInteger = o.IsInteger
prefix pre.IsString = o.IsString
prefix pre.IsBoolean = o.IsBoolean
prefix pre.IsAtom = o.IsAtom
prefix pre.IsTuple = o.IsTuple
prefix pre.IsSet = o.IsSet
prefix pre.IsMap = o.IsMap
prefix (pre.Folded f) = folding f

abbrev pub quantifier : QuantifierWord → Quantifier
quantifier qu.Exists = Exists
quantifier qu.Forall = Forall
quantifier qu.Notexists = NotExists

abbrev pub taking : FromEnd → Taking
taking fr.From = TakeLeast
taking fr.Fromb = TakeFirst
taking fr.Frome = TakeLast
