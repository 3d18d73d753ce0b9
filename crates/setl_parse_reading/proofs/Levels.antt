-- The levels of operators that group to the left.
use Rattle.std.proofs.Common.{◌≡◌, Bool, true, Some, ℕ, suc, not, refl, arith}
use Rattle.setl_tree.specs.declared.kind.Kind.{Kind}
use Rattle.setl_tree.specs.declared.kind.Kind.TheVariants as k
use Rattle.setl_tree.specs.declared.expr.BinaryOp.{BinaryOp}
use Rattle.setl_tree.specs.declared.expr.BinaryOp.TheVariants as op
use Rattle.setl_tree.specs.declared.expr.Expr.{Expr}
use Rattle.setl_tree.specs.Tokens.{Tokens}
use Rattle.setl_tree.specs.Lang.{Lang, Then}
use Rattle.setl_tree.specs.Lang as lang
use Rattle.setl_tree.specs.Operators.{op_at, level_of, binary_op, chain_of}
use Rattle.setl_tree.specs.Expressions as grammar
use Rattle.setl_parse_reading.specs.Fronts.{opens_nesting}
use Rattle.setl_parse_reading.specs.code.Reading.{Reader, begins_as, same_kind}
use Rattle.setl_parse_reading.specs.code.ReadExpressions as r
use Rattle.setl_parse_reading.proofs.EveryKind.{kinds}
use Rattle.setl_parse_reading.proofs.Laws.{Law, Within, NotEnd, anything, within, law_then, law_map, law_one_of, law_many, begins_one_of, begins_then, follows_map, follows_many}
use Rattle.setl_parse_reading.proofs.Bounds.{below, below_more}
use Rattle.setl_parse_reading.proofs.Exact.{Exact, Plain, weak, exact_then, exact_map, exact_one_of, exact_many}

-- what the operators of a level do
pub record IsLevel (level : ℕ) : Type 0 where
  pub end : NotEnd (op_at level)
  pub go : Within (begins_as (op_at level)) (below (suc level))
  pub off : Within (below level) (λ kind. not (begins_as (op_at level) kind))

pub law_operands : {level : ℕ} {item : Reader Expr} {L : Tokens → Expr → Type 0} → IsLevel level → Law item L (below (suc level)) → Law (r.operands level item) (lang.many (grammar.operand level L)) (below level)
unfolding r.operands
law_operands {level = level} lev law = law_many
    (law_then (law_one_of (op_at level) lev.end) (λ o. law_map (λ x. (o, x)) law) (λ o. anything))
    (begins_then (begins_one_of (op_at level))) lev.go (below_more (suc level) (omega arith)) lev.off

pub law_chain : {level : ℕ} {item : Reader Expr} {L : Tokens → Expr → Type 0} → IsLevel level → Law item L (below (suc level)) → Law (r.chain level item) (grammar.chain level L) (below level)
law_chain {level = level} lev law = law_then law
    (λ first. law_map (chain_of first) (law_operands lev law))
    (λ first. follows_map (follows_many (begins_then (begins_one_of (op_at level))) lev.go (below_more (suc level) (omega arith))))

pub level_2 : IsLevel 2
unfolding kinds op_at level_of binary_op same_kind
level_2 = record { end = refl; go = within refl; off = within refl }

pub level_3 : IsLevel 3
unfolding kinds op_at level_of binary_op same_kind
level_3 = record { end = refl; go = within refl; off = within refl }

pub level_4 : IsLevel 4
unfolding kinds op_at level_of binary_op same_kind
level_4 = record { end = refl; go = within refl; off = within refl }

pub level_7 : IsLevel 7
unfolding kinds op_at level_of binary_op same_kind
level_7 = record { end = refl; go = within refl; off = within refl }

pub level_8 : IsLevel 8
unfolding kinds op_at level_of binary_op same_kind
level_8 = record { end = refl; go = within refl; off = within refl }

pub level_9 : IsLevel 9
unfolding kinds op_at level_of binary_op same_kind
level_9 = record { end = refl; go = within refl; off = within refl }

pub level_10 : IsLevel 10
unfolding kinds op_at level_of binary_op same_kind
level_10 = record { end = refl; go = within refl; off = within refl }

-- ---- where reading a level stops

-- an operator of the level
pub record HasOp (level : ℕ) : Type 0 where
  pub kind : Kind
  pub it : BinaryOp
  pub means : op_at level kind ≡ Some it
  pub plain : Plain (op_at level)

pub exact_operands : {always : Bool} {room level : ℕ} {item : Reader Expr} {L : Tokens → Expr → Type 0} → IsLevel level → HasOp level → Exact true room item L → Exact always room (r.operands level item) (lang.many (grammar.operand level L))
unfolding r.operands
exact_operands {level = level} lev has item =
    exact_many (begins_as (op_at level)) (exact_then (exact_one_of (op_at level) has.kind has.it lev.end has.means has.plain) (λ o. exact_map (λ x. (o, x)) (weak item))) (begins_then (begins_one_of (op_at level)))

pub exact_chain_from : {always : Bool} {room level : ℕ} {item : Reader Expr} {L : Tokens → Expr → Type 0} → IsLevel level → HasOp level → Exact true room item L → (first : Expr)
    → Exact always room (r.chain_from level item first) (Then (lang.many (grammar.operand level L)) (λ others. lang.pure (chain_of first others)))
exact_chain_from lev has item first = exact_map (chain_of first) (exact_operands lev has item)

pub exact_chain : {room level : ℕ} {item : Reader Expr} {L : Tokens → Expr → Type 0} → IsLevel level → HasOp level → Exact true room item L → Exact true room (r.chain level item) (grammar.chain level L)
exact_chain lev has item = exact_then item (λ first. exact_chain_from lev has item first)

pub op_2 : HasOp 2
unfolding op_at level_of binary_op kinds opens_nesting
op_2 = record { kind = k.Impl; it = op.Impl; means = refl; plain = within refl }

pub op_3 : HasOp 3
unfolding op_at level_of binary_op kinds opens_nesting
op_3 = record { kind = k.Or; it = op.Or; means = refl; plain = within refl }

pub op_4 : HasOp 4
unfolding op_at level_of binary_op kinds opens_nesting
op_4 = record { kind = k.And; it = op.And; means = refl; plain = within refl }

pub op_7 : HasOp 7
unfolding op_at level_of binary_op kinds opens_nesting
op_7 = record { kind = k.With; it = op.With; means = refl; plain = within refl }

pub op_8 : HasOp 8
unfolding op_at level_of binary_op kinds opens_nesting
op_8 = record { kind = k.Plus; it = op.Plus; means = refl; plain = within refl }

pub op_9 : HasOp 9
unfolding op_at level_of binary_op kinds opens_nesting
op_9 = record { kind = k.Star; it = op.Times; means = refl; plain = within refl }

pub op_10 : HasOp 10
unfolding op_at level_of binary_op kinds opens_nesting
op_10 = record { kind = k.Power; it = op.Power; means = refl; plain = within refl }
