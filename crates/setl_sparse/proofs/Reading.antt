-- Entries of a table, read by place, and their copies.
use Rattle.std.proofs.Common.{◌≡◌, ℕ, zero, suc, List, [], ◌∷◌, length, Some, arith, slice_get}
use Rattle.std.specs.List.{zip, AllZip}
use Rattle.std.proofs.lemmas.Slice.Zip.{length-zip}
use Rattle.setl_sparse.specs.Entries.{AreCopies}

module _ {T : Type 0} where
  pub entry_count : (ks : List ℕ) (vs : List T) → length vs ≡ length ks → length (zip ks vs) ≡ length vs
  entry_count ks vs e = omega (arith, length-zip ks vs)

  pub entry_at : (ks : List ℕ) (vs : List T) (i n : ℕ) (v : T) → slice_get ks i ≡ Some n → slice_get vs i ≡ Some v → slice_get (zip ks vs) i ≡ Some (n, v)
  entry_at [] vs i n v p q = cc
  entry_at (k ∷ ks) [] i n v p q = cc
  entry_at (k ∷ ks) (w ∷ ws) zero n v p q = let number : k ≡ n = cc in let content : w ≡ v = cc in λ j. Some (number j, content j)
  entry_at (k ∷ ks) (w ∷ ws) (suc i) n v p q = entry_at ks ws i n v p q

  pub copied : (R : T → T → Type 0) (ks ls : List ℕ) (vs ws : List T) → AllZip (λ x y. y ≡ x) ks ls → AllZip R vs ws → AreCopies R (zip ks vs) (zip ls ws)
  copied R [] [] vs ws a b = tt
  copied R [] (l ∷ ls) vs ws a b = absurd a
  copied R (k ∷ ks) [] vs ws a b = absurd a
  copied R (k ∷ ks) (l ∷ ls) [] [] a b = tt
  copied R (k ∷ ks) (l ∷ ls) [] (w ∷ ws) a b = absurd b
  copied R (k ∷ ks) (l ∷ ls) (v ∷ vs) [] a b = absurd b
  copied R (k ∷ ks) (l ∷ ls) (v ∷ vs) (w ∷ ws) a b = ((a.0, b.0), copied R ks ls vs ws a.1 b.1)
