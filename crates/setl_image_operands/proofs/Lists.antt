-- Mapped lists.
use Rattle.std.proofs.Common.{◌≡◌, ℕ, zero, suc, List, [], ◌∷◌, map, length, Some, refl, ap}
use Rattle.std.specs.Prelude.{slice_get}

pub length_map : {A B : Type 0} (f : A → B) (xs : List A) → length (map f xs) ≡ length xs
length_map f [] = refl
length_map f (x ∷ xs) = ap suc (length_map f xs)

-- what stands in a mapped list comes from an item
pub record Mapped {A B : Type 0} (f : A → B) (xs : List A) (at : ℕ) (y : B) : Type 0 where
  pub item : A
  pub is : slice_get xs at ≡ Some item
  pub gives : f item ≡ y

pub mapped_from : {A B : Type 0} (f : A → B) (xs : List A) (at : ℕ) (y : B) → slice_get (map f xs) at ≡ Some y → Mapped f xs at y
mapped_from f [] at y h = cc
mapped_from f (x ∷ xs) zero y h = let same : f x ≡ y = cc in record { item = x; is = refl; gives = same }
mapped_from f (x ∷ xs) (suc at) y h = let m = mapped_from f xs at y h in record { item = m.item; is = m.is; gives = m.gives }

pub mapped_to : {A B : Type 0} (f : A → B) (xs : List A) (at : ℕ) (x : A) → slice_get xs at ≡ Some x → slice_get (map f xs) at ≡ Some (f x)
mapped_to f [] at x h = cc
mapped_to f (y ∷ xs) zero x h = let same : y ≡ x = cc in ap (λ z. Some (f z)) same
mapped_to f (y ∷ xs) (suc at) x h = mapped_to f xs at x h
