-- Lists that grow and shrink at their end.
use Rattle.std.proofs.Common.{◌≡◌, ℕ, zero, suc, ◌+◌, ◌-◌, ◌<◌, List, [], ◌∷◌, ◌++◌, length, take, drop, map, reverse, refl, sym, ap, ◌∙◌, arith, Some}
use Rattle.std.proofs.lemmas.List.{reverse-append, reverse-reverse, length-reverse, length-drop, drop_at, take-append-drop, take-take, drop-take, map-append}
use Rattle.std.specs.Prelude.{slice_get, unwrap_or}

pub some_same : {A : Type 0} (x y : A) → Some x ≡ Some y → x ≡ y
some_same x y e = ap (λ o. unwrap_or o x) e

-- a list with its last one apart
pub last_apart : {A : Type 0} (xs : List A) (x : A) (n : ℕ) → length xs ≡ n + 1 → Some x ≡ slice_get xs n → xs ≡ take n xs ++ x ∷ []
last_apart [] x n long e = absurd (omega (arith, long))
last_apart (y ∷ []) x zero long e = ap (λ z. z ∷ []) (sym (some_same x y e))
last_apart (y ∷ z ∷ xs) x zero long e = absurd (omega (arith, long))
last_apart (y ∷ xs) x (suc n) long e = ap (λ l. y ∷ l) (last_apart xs x n (omega (arith, long)) e)

pub map_reverse : {A B : Type 0} (f : A → B) (xs : List A) → map f (reverse xs) ≡ reverse (map f xs)
map_reverse f [] = refl
map_reverse f (x ∷ xs) =
    ap (map f) (reverse-append (x ∷ []) xs)
    ∙ map-append f (reverse xs) (x ∷ [])
    ∙ ap (λ l. l ++ f x ∷ []) (map_reverse f xs)
    ∙ sym (reverse-append (f x ∷ []) (map f xs))

-- without the last n, read from the end
pub reverse_drop : {A : Type 0} (n m : ℕ) (xs : List A) → m + n ≡ length xs → reverse (drop n (reverse xs)) ≡ take m xs
reverse_drop n m xs h =
    let long : length (reverse (drop m xs)) ≡ n = omega (arith, length-reverse (drop m xs), length-drop m xs) in
    ap (λ l. reverse (drop n (reverse l))) (sym (take-append-drop m xs))
    ∙ ap (λ l. reverse (drop n l)) (reverse-append (take m xs) (drop m xs))
    ∙ ap reverse (drop_at (reverse (drop m xs)) (reverse (take m xs)) n long)
    ∙ reverse-reverse (take m xs)

-- the first k + m with those behind the first k read from the end
pub take_more_reversed : {A : Type 0} (k m n : ℕ) (xs : List A) → k + m + n ≡ length xs → take (k + m) xs ≡ take k xs ++ reverse (drop n (reverse (drop k xs)))
take_more_reversed k m n xs h =
    sym (take-append-drop k (take (k + m) xs))
    ∙ ap (λ l. l ++ drop k (take (k + m) xs)) (take-take k (k + m) xs (omega arith))
    ∙ ap (λ l. take k xs ++ l) (drop-take k m xs)
    ∙ ap (λ l. take k xs ++ l) (sym (reverse_drop n m (drop k xs) (omega (arith, length-drop k xs))))

-- the last one stands first in the list turned round
pub innermost_is : {A : Type 0} (xs : List A) (x : A) (n : ℕ) → 0 < length xs → n ≡ length xs → Some x ≡ slice_get xs (n - 1) → reverse xs ≡ x ∷ reverse (take (n - 1) xs)
innermost_is xs x n some long is = ap reverse (last_apart xs x (n - 1) (omega (arith, some, long)) is) ∙ reverse-append (take (n - 1) xs) (x ∷ [])
