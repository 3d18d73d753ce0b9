-- Looking ahead at the inside of a brace or bracket: what an iterator binds, behind it `in`, may also be the left side
-- of a comparison, as in {x in s}.
use Rattle.std.specs.Prelude.{Bool, true, false, if◌then◌else◌, List, [], ◌∷◌}
use Rattle.setl_tree.specs.declared.kind.Kind.{Kind}
use Rattle.setl_tree.specs.declared.kind.Kind.TheVariants as k
use Rattle.setl_tree.specs.declared.expr.Slot.{Slot}
use Rattle.setl_tree.specs.declared.expr.Slot.TheVariants as sl
use Rattle.setl_tree.specs.declared.expr.Bound.{Bound}
use Rattle.setl_tree.specs.declared.expr.Bound.TheVariants as bd
use Rattle.setl_tree.specs.declared.expr.Inner.TheVariants as inn
use Rattle.setl_tree.specs.declared.expr.Expr.{Expr}
use Rattle.setl_tree.specs.declared.expr.Expr.TheVariants as e
use Rattle.setl_tree.specs.Tokens.{Tokens}
use Rattle.setl_parse_reading.specs.declared.ahead.Ahead.{Ahead}
use Rattle.setl_parse_reading.specs.declared.ahead.Ahead.TheVariants.{Expression, Either, Pattern}
use Rattle.setl_parse_reading.specs.code.Reading.{next_kind, same_kind, rest_of}

abbrev pub either_at : Kind → Ahead
either_at kind = if same_kind kind k.In then Either else Expression

-- the end of a slot: a comma or the closing bracket
unfoldable pub ends_slot : Kind → Bool
ends_slot k.Comma = true
ends_slot k.RightBracket = true
ends_slot _ = false

-- behind the name of a slot: `more` is what the slots behind a comma show, `next` the token behind a bracket
abbrev pub after_name : Kind → Ahead → Kind → Ahead
after_name kind more next =
    if same_kind kind k.Comma then more else if same_kind kind k.RightBracket then either_at next else Expression

-- behind the opening bracket of a tuple pattern or of a tuple
unfoldable pub slots_ahead : Tokens → Ahead
slots_ahead [] = Expression
slots_ahead (t ∷ []) = Expression
slots_ahead (t ∷ u ∷ toks) =
    if same_kind t.kind k.Minus then (if ends_slot u.kind then Pattern else Expression)
    else if same_kind t.kind k.Name then after_name u.kind (slots_ahead toks) (next_kind toks)
    else Expression

-- at the inside of a brace or bracket
unfoldable pub ahead : Tokens → Ahead
ahead toks =
    if same_kind (next_kind toks) k.Name then either_at (next_kind (rest_of toks))
    else if same_kind (next_kind toks) k.LeftBracket then slots_ahead (rest_of toks)
    else Expression

-- a slot as an expression; only names are
abbrev pub slot_expr : Slot → Expr
slot_expr (sl.Name x) = e.Name x
slot_expr sl.Skip = e.Om

abbrev pub slot_exprs : List Slot → List Expr
slot_exprs [] = []
slot_exprs (x ∷ xs) = slot_expr x ∷ slot_exprs xs

-- what an iterator binds, as the expression that has the same tokens
abbrev pub bound_expr : Bound → Expr
bound_expr (bd.Name x) = e.Name x
bound_expr (bd.Pattern slots) = e.Tuple (inn.List (slot_exprs slots))
