-- The operators: which token stands for which, and how tightly it binds.
use Rattle.std.specs.Prelude.{ℕ, List, [], ◌∷◌, Option, Some, None, if◌then◌else◌, ◌==◌}
use Rattle.setl_tree.specs.declared.kind.Kind.{Kind}
use Rattle.setl_tree.specs.declared.kind.Kind.TheVariants as k
use Rattle.setl_tree.specs.declared.expr.BinaryOp.{BinaryOp}
use Rattle.setl_tree.specs.declared.expr.BinaryOp.TheVariants as op
use Rattle.setl_tree.specs.declared.expr.Relation.{Relation}
use Rattle.setl_tree.specs.declared.expr.Relation.TheVariants as rel
use Rattle.setl_tree.specs.declared.expr.Fold.{Fold}
use Rattle.setl_tree.specs.declared.expr.Fold.TheVariants as fold
use Rattle.setl_tree.specs.declared.expr.Prefix.{Prefix}
use Rattle.setl_tree.specs.declared.expr.Prefix.TheVariants as prefix
use Rattle.setl_tree.specs.declared.expr.Quantifier.{Quantifier}
use Rattle.setl_tree.specs.declared.expr.Quantifier.TheVariants as qu
use Rattle.setl_tree.specs.declared.expr.Selector.{Selector}
use Rattle.setl_tree.specs.declared.expr.Expr.{Expr}
use Rattle.setl_tree.specs.declared.expr.Expr.TheVariants as e

-- How tightly a token binds that stands behind an operand: the level of a binary operator, and 12 for what begins a
-- selector. 0 is any other token: there the expression ends.
unfoldable pub level_of : Kind → ℕ
level_of k.Impl = 2
level_of k.Or = 3
level_of k.And = 4
level_of k.Equal = 6
level_of k.NotEqual = 6
level_of k.LessThan = 6
level_of k.AtMost = 6
level_of k.GreaterThan = 6
level_of k.AtLeast = 6
level_of k.In = 6
level_of k.Notin = 6
level_of k.Subset = 6
level_of k.Incs = 6
level_of k.With = 7
level_of k.Less = 7
level_of k.Lessf = 7
level_of k.Npow = 7
level_of k.Plus = 8
level_of k.Minus = 8
level_of k.Max = 8
level_of k.Min = 8
level_of k.Star = 9
level_of k.Div = 9
level_of k.Mod = 9
level_of k.Power = 10
level_of k.LeftParen = 12
level_of k.LeftBrace = 12
level_of _ = 0

-- the binary operators of the levels that group to the left
unfoldable pub binary_op : Kind → Option BinaryOp
binary_op k.Impl = Some op.Impl
binary_op k.Or = Some op.Or
binary_op k.And = Some op.And
binary_op k.With = Some op.With
binary_op k.Less = Some op.Less
binary_op k.Lessf = Some op.Lessf
binary_op k.Npow = Some op.Npow
binary_op k.Plus = Some op.Plus
binary_op k.Minus = Some op.Minus
binary_op k.Max = Some op.Max
binary_op k.Min = Some op.Min
binary_op k.Star = Some op.Times
binary_op k.Div = Some op.Div
binary_op k.Mod = Some op.Mod
binary_op k.Power = Some op.Power
binary_op _ = None

-- the binary operators of one level
unfoldable pub op_at : ℕ → Kind → Option BinaryOp
op_at level kind = if level_of kind == level then binary_op kind else None

-- the operators that stand before := in an update
unfoldable pub update_op : Kind → Option BinaryOp
update_op k.With = Some op.With
update_op k.Less = Some op.Less
update_op k.Lessf = Some op.Lessf
update_op k.Npow = Some op.Npow
update_op k.Plus = Some op.Plus
update_op k.Minus = Some op.Minus
update_op k.Max = Some op.Max
update_op k.Min = Some op.Min
update_op k.Star = Some op.Times
update_op k.Div = Some op.Div
update_op k.Mod = Some op.Mod
update_op k.Power = Some op.Power
update_op _ = None

unfoldable pub relation_op : Kind → Option Relation
relation_op k.Equal = Some rel.Equal
relation_op k.NotEqual = Some rel.NotEqual
relation_op k.LessThan = Some rel.LessThan
relation_op k.AtMost = Some rel.AtMost
relation_op k.GreaterThan = Some rel.GreaterThan
relation_op k.AtLeast = Some rel.AtLeast
relation_op k.In = Some rel.In
relation_op k.Notin = Some rel.Notin
relation_op k.Subset = Some rel.Subset
relation_op k.Incs = Some rel.Incs
relation_op _ = None

unfoldable pub not_sign : Kind → Option Prefix
not_sign k.Not = Some prefix.Not
not_sign _ = None

-- the prefixes of one token that bind tighter than every binary operator
unfoldable pub prefix_op : Kind → Option Prefix
prefix_op k.Minus = Some prefix.Minus
prefix_op k.Hash = Some prefix.Size
prefix_op k.Abs = Some prefix.Abs
prefix_op k.Even = Some prefix.Even
prefix_op k.Odd = Some prefix.Odd
prefix_op k.Pow = Some prefix.Pow
prefix_op k.Domain = Some prefix.Domain
prefix_op k.Range = Some prefix.Range
prefix_op k.Arb = Some prefix.Arb
prefix_op k.Str = Some prefix.Str
prefix_op k.IsInteger = Some prefix.IsInteger
prefix_op k.IsString = Some prefix.IsString
prefix_op k.IsBoolean = Some prefix.IsBoolean
prefix_op k.IsAtom = Some prefix.IsAtom
prefix_op k.IsTuple = Some prefix.IsTuple
prefix_op k.IsSet = Some prefix.IsSet
prefix_op k.IsMap = Some prefix.IsMap
prefix_op _ = None

-- the sign before the / of a fold
unfoldable pub fold_sign : Kind → Option Fold
fold_sign k.Plus = Some fold.Plus
fold_sign k.Star = Some fold.Times
fold_sign k.Max = Some fold.Max
fold_sign k.Min = Some fold.Min
fold_sign k.And = Some fold.And
fold_sign k.Or = Some fold.Or
fold_sign _ = None

unfoldable pub quantifier : Kind → Option Quantifier
quantifier k.Exists = Some qu.Exists
quantifier k.Forall = Some qu.Forall
quantifier k.Notexists = Some qu.Notexists
quantifier _ = None

-- the words that are expressions by themselves
unfoldable pub constant : Kind → Option Expr
constant k.Om = Some e.Om
constant k.True = Some e.True
constant k.False = Some e.False
constant k.Newat = Some e.Newat
constant k.Eof = Some e.Eof
constant k.Ok = Some e.Ok
constant _ = None

-- a chain of operators of one level, or its one operand alone
abbrev pub chain_of : Expr → List (BinaryOp × Expr) → Expr
chain_of first [] = first
chain_of first (x ∷ more) = e.Chain first (x ∷ more)

-- an operand with its prefixes
abbrev pub prefixed : List Prefix → Expr → Expr
prefixed [] operand = operand
prefixed (x ∷ more) operand = e.Prefixed (x ∷ more) operand

-- a primary expression with its selectors
abbrev pub selected : Expr → List Selector → Expr
selected primary [] = primary
selected primary (x ∷ more) = e.Selected primary (x ∷ more)
