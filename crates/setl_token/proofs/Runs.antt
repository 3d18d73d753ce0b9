-- Runs of bytes of a class.
use Rattle.std.proofs.Common.{◌≡◌, ℕ, zero, suc, ◌+◌, ◌<◌, ◌≤◌, Bool, true, false, cond, List, [], ◌∷◌, length, take, drop, get_or, refl, arith}
use Rattle.std.proofs.lemmas.Bool.{and_parts}
use Rattle.std.specs.List.{prefix_len, list_all}

passes_more : (p : ℕ → Bool) (x : ℕ) (xs : List ℕ) (b : Bool) → p x ≡ b → list_all p (take (prefix_len p xs) xs) ≡ true → list_all p (take (cond b (1 + prefix_len p xs) 0) (x ∷ xs)) ≡ true
passes_more p x xs true e others = let one : 1 + prefix_len p xs ≡ suc (prefix_len p xs) = omega arith in rw (one, e) others
passes_more p x xs false e others = refl

-- a run has only bytes of the class
pub run_passes : (p : ℕ → Bool) (xs : List ℕ) → list_all p (take (prefix_len p xs) xs) ≡ true
run_passes p [] = refl
run_passes p (x ∷ xs) = passes_more p x xs (p x) refl (run_passes p xs)

-- bytes of the class at the front are within the run
pub run_covers : (p : ℕ → Bool) (xs : List ℕ) (n : ℕ) → n ≤ length xs → list_all p (take n xs) ≡ true → n ≤ prefix_len p xs
run_covers p xs zero within all = omega arith
run_covers p [] (suc n) within all = absurd (omega arith)
run_covers p (x ∷ xs) (suc n) within all =
    let both = and_parts (p x) (list_all p (take n xs)) all in
    let here = both.0 in
    let others = run_covers p xs n (omega arith) both.1 in
    rw here (omega arith)

ends_more : (p : ℕ → Bool) (x : ℕ) (xs : List ℕ) (b : Bool) → p x ≡ b → p (get_or (drop (prefix_len p xs) xs) 0 0) ≡ false → p (get_or (drop (cond b (1 + prefix_len p xs) 0) (x ∷ xs)) 0 0) ≡ false
ends_more p x xs true e others = let one : 1 + prefix_len p xs ≡ suc (prefix_len p xs) = omega arith in rw one others
ends_more p x xs false e others = e

-- behind a run no byte of the class stands, where the byte past the end is none
pub run_ends : (p : ℕ → Bool) → p 0 ≡ false → (xs : List ℕ) → p (get_or (drop (prefix_len p xs) xs) 0 0) ≡ false
run_ends p past [] = past
run_ends p past (x ∷ xs) = ends_more p x xs (p x) refl (run_ends p past xs)

-- bytes of the class at the front, behind which none stands, are the run
pub run_is : (p : ℕ → Bool) (xs : List ℕ) (n : ℕ) → n ≤ length xs → list_all p (take n xs) ≡ true → p (get_or (drop n xs) 0 0) ≡ false → n ≡ prefix_len p xs
run_is p [] zero within all ends = refl
run_is p (x ∷ xs) zero within all ends = rw ends refl
run_is p [] (suc n) within all ends = absurd (omega arith)
run_is p (x ∷ xs) (suc n) within all ends =
    let both = and_parts (p x) (list_all p (take n xs)) all in
    let here = both.0 in
    let others = run_is p xs n (omega arith) both.1 ends in
    rw here (omega arith)

-- the first byte of bytes of the class is of it
pub run_first : (p : ℕ → Bool) (xs : List ℕ) → 0 < length xs → list_all p xs ≡ true → p (get_or xs 0 0) ≡ true
run_first p [] some all = absurd (omega arith)
run_first p (x ∷ xs) some all = (and_parts (p x) (list_all p xs) all).0
