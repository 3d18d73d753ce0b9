-- The place of an item after the list was cut or lengthened.
use Rattle.std.proofs.Common.{◌≡◌, ℕ, zero, suc, ◌<◌, List, [], ◌∷◌, ◌++◌, length, take, slice_get, Some, ◌⊎◌, inl, inr, ⊎_elim, refl, ap, arith}

pub get_taken : {A : Type 0} (n : ℕ) (xs : List A) (i : ℕ) (x : A) → slice_get (take n xs) i ≡ Some x → slice_get xs i ≡ Some x
get_taken zero xs i x p = cc
get_taken (suc n) [] i x p = p
get_taken (suc n) (y ∷ ys) zero x p = p
get_taken (suc n) (y ∷ ys) (suc i) x p = get_taken n ys i x p

pub get_put : {A : Type 0} (xs : List A) (y : A) (i : ℕ) (x : A) → slice_get (xs ++ y ∷ []) i ≡ Some x → (slice_get xs i ≡ Some x) ⊎ ((i ≡ length xs) × (x ≡ y))
get_put [] y zero x p = inr (refl, cc)
get_put [] y (suc i) x p = inl p
get_put (z ∷ zs) y zero x p = inl p
get_put (z ∷ zs) y (suc i) x p = ⊎_elim (λ q. inl q) (λ q. inr (ap suc q.0, q.1)) (get_put zs y i x p)

pub get_before : {A : Type 0} (xs : List A) (y : A) (i : ℕ) (x : A) → slice_get xs i ≡ Some x → slice_get (xs ++ y ∷ []) i ≡ Some x
get_before [] y i x p = cc
get_before (z ∷ zs) y zero x p = p
get_before (z ∷ zs) y (suc i) x p = get_before zs y i x p

pub get_in_front : {A : Type 0} (n : ℕ) (xs : List A) (i : ℕ) → i < n → slice_get (take n xs) i ≡ slice_get xs i
get_in_front zero xs i h = absurd (omega arith)
get_in_front (suc n) [] i h = refl
get_in_front (suc n) (x ∷ xs) zero h = refl
get_in_front (suc n) (x ∷ xs) (suc i) h = get_in_front n xs i (omega arith)

-- the item that was put at the end
pub get_end : {A : Type 0} (xs : List A) (y : A) → slice_get (xs ++ y ∷ []) (length xs) ≡ Some y
get_end [] y = refl
get_end (x ∷ xs) y = get_end xs y
