-- Slots as expressions.
use Rattle.std.proofs.Common.{◌≡◌, List, [], ◌∷◌, ◌++◌, refl, ap}
use Rattle.setl_tree.specs.declared.expr.Slot.{Slot}
use Rattle.setl_tree.specs.declared.expr.Expr.{Expr}
use Rattle.setl_parse_reading.specs.code.Scan.{slot_expr, slot_exprs}

-- one more slot as an expression
pub slot_exprs_more : (xs : List Slot) (x : Slot) → slot_exprs (xs ++ x ∷ []) ≡ slot_exprs xs ++ slot_expr x ∷ []
slot_exprs_more [] x = refl
slot_exprs_more (y ∷ ys) x = ap (λ (es : List Expr). slot_expr y ∷ es) (slot_exprs_more ys x)
