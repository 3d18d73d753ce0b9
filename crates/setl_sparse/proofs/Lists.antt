-- Two lists side by side.
use Rattle.std.proofs.Common.{◌≡◌, ◌∙◌, ℕ, suc, zero, ◌-◌, ◌<◌, Bool, List, [], ◌∷◌, ◌++◌, length, take, set, get_or, Some, refl, sym, ap, arith, position}
use Rattle.std.specs.Option.{option_map_or}
use Rattle.std.specs.List.{zip, swap_remove}
use Rattle.std.proofs.lemmas.List.Quantifiers.{position-Some}
use Rattle.std.proofs.lemmas.Option.{slice_get-get_or}
use Rattle.std.proofs.lemmas.Slice.Zip.{get_or-zip, length-zip}
use Rattle.indexmap.specs.IndexSet.{swap_remove_by}

pub any_default : {X : Type 0} (xs : List X) (i : ℕ) (d e : X) → i < length xs → get_or xs i d ≡ get_or xs i e
any_default xs i d e below =
    let one = slice_get-get_or xs i d below in
    let other = slice_get-get_or xs i e below in
    cc (one, other)

module _ {X Y : Type 0} where
  pub zip-push : (xs : List X) (ys : List Y) (x : X) (y : Y) → length ys ≡ length xs → zip (xs ++ x ∷ []) (ys ++ y ∷ []) ≡ zip xs ys ++ (x, y) ∷ []
  zip-push [] [] x y e = refl
  zip-push [] (z ∷ ys) x y e = absurd (omega arith)
  zip-push (z ∷ xs) [] x y e = absurd (omega arith)
  zip-push (z ∷ xs) (w ∷ ys) x y e = ap (λ l. (z, w) ∷ l) (zip-push xs ys x y (omega arith))

  zip-take : (n : ℕ) (xs : List X) (ys : List Y) → zip (take n xs) (take n ys) ≡ take n (zip xs ys)
  zip-take zero xs ys = refl
  zip-take (suc n) [] ys = refl
  zip-take (suc n) (x ∷ xs) [] = refl
  zip-take (suc n) (x ∷ xs) (y ∷ ys) = ap (λ l. (x, y) ∷ l) (zip-take n xs ys)

  zip-set : (xs : List X) (ys : List Y) (i : ℕ) (x : X) (y : Y) → zip (set xs i x) (set ys i y) ≡ set (zip xs ys) i (x, y)
  zip-set [] ys i x y = refl
  zip-set (z ∷ xs) [] zero x y = refl
  zip-set (z ∷ xs) [] (suc i) x y = refl
  zip-set (z ∷ xs) (w ∷ ys) zero x y = refl
  zip-set (z ∷ xs) (w ∷ ys) (suc i) x y = ap (λ l. (z, w) ∷ l) (zip-set xs ys i x y)

  pub zip-swap_remove : (xs : List X) (ys : List Y) (i : ℕ) (x : X) (y : Y) → length ys ≡ length xs → i < length xs
      → zip (swap_remove xs i x) (swap_remove ys i y) ≡ swap_remove (zip xs ys) i (x, y)
  zip-swap_remove xs ys i x y e below =
      let last = length xs - 1 in
      let short : length ys - 1 ≡ last = omega arith in
      let long : length (zip xs ys) - 1 ≡ last = omega (arith, length-zip xs ys) in
      let at = get_or-zip xs ys last (x, y) (omega arith) (omega arith) in
      ap (λ n. zip (take last (set xs i (get_or xs last x))) (take n (set ys i (get_or ys n y)))) short
      ∙ zip-take last (set xs i (get_or xs last x)) (set ys i (get_or ys last y))
      ∙ ap (take last) (zip-set xs ys i (get_or xs last x) (get_or ys last y))
      ∙ ap (λ p. take last (set (zip xs ys) i p)) (sym at)
      ∙ ap (λ n. take n (set (zip xs ys) i (get_or (zip xs ys) n (x, y)))) (sym long)

-- the default of `swap_remove` isn't read of a list that has an element
pub removed_at : {X : Type 0} (test : X → Bool) (xs : List X) (i : ℕ) (x : X) → position test xs ≡ Some i → swap_remove_by test xs ≡ swap_remove xs i x
removed_at test [] i x e = absurd (omega (arith, (position-Some test [] i x e).0))
removed_at test (y ∷ ys) i x e =
    ap (λ o. option_map_or (λ i. swap_remove (y ∷ ys) i y) o (y ∷ ys)) e
    ∙ ap (λ z. take (length (y ∷ ys) - 1) (set (y ∷ ys) i z)) (any_default (y ∷ ys) (length (y ∷ ys) - 1) y x (omega arith))
