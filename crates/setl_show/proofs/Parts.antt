-- Lists of expressions.
use Rattle.std.proofs.Common.{◌≡◌, List, [], ◌∷◌, map, refl, ap}
use Rattle.setl_tree.specs.declared.expr.Expr.{Expr}
use Rattle.setl_tree.specs.Canonical.{shown, tokens_of, expr_tokens}

pub tokens_map : (xs : List Expr) → tokens_of (map shown xs) ≡ map expr_tokens xs
tokens_map [] = refl
tokens_map (x ∷ xs) = ap (λ z. expr_tokens x ∷ z) (tokens_map xs)
