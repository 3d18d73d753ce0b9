-- Lists, one behind the other.
use Rattle.std.proofs.Common.{◌≡◌, List, [], ◌∷◌, ◌++◌, refl, ap, append_assoc, sym, ◌∙◌}
use Rattle.setl_tree.specs.declared.tree.Declared.{Declared}
use Rattle.setl_tree.specs.Programs.{joined}

nothing_behind : (xs : List Declared) → xs ++ [] ≡ xs
nothing_behind [] = refl
nothing_behind (x ∷ xs) = ap (λ (ys : List Declared). x ∷ ys) (nothing_behind xs)

-- one more list
pub joined_more : (lists : List (List Declared)) (xs : List Declared) → joined (lists ++ xs ∷ []) ≡ joined lists ++ xs
joined_more [] xs = nothing_behind xs
joined_more (ys ∷ lists) xs = ap (λ (zs : List Declared). ys ++ zs) (joined_more lists xs) ∙ sym (append_assoc ys (joined lists) xs)
