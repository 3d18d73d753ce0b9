-- One item of a list, alone.
use Rattle.std.proofs.Common.{◌≡◌, ◌∙◌, ℕ, suc, ◌+◌, ◌-◌, ◌<◌, List, [], ◌∷◌, take, drop, length, get_or, slice_range, add-one, drop-cons, sym, ap, arith}

-- the item at a place, alone
pub alone_at : {X : Type 0} (xs : List X) (i : ℕ) (x : X) → i < length xs → x ≡ get_or xs i x → slice_range xs i (i + 1) ≡ x ∷ []
alone_at {X} xs i x h is =
    let one : (i + 1) - i ≡ 1 = omega arith in
    ap (λ n. take n (drop i xs)) one ∙ ap (take 1) (drop-cons xs i x h) ∙ ap (λ (z : X). z ∷ []) (sym is)

-- the items from a place on
pub one_more : {X : Type 0} (xs : List X) (i : ℕ) (x : X) → i < length xs → x ≡ get_or xs i x → drop i xs ≡ x ∷ drop (i + 1) xs
one_more {X} xs i x h is = drop-cons xs i x h ∙ ap (λ (z : X). z ∷ drop (suc i) xs) (sym is) ∙ ap (λ n. x ∷ drop n xs) (sym (add-one i))
