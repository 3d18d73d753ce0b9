-- The first items of a list that something holds of.
use Rattle.std.specs.Prelude.{◌≡◌, ◌⊎◌, ℕ, zero, suc, List, [], ◌∷◌, ◌++◌}

-- these are the first ones of a list, at most so many, in their order
abbrev pub AreFirst : {A : Type 0} → (A → Type 0) → ℕ → List A → List A → Type 0
AreFirst P zero xs found = found ≡ []
AreFirst P (suc n) [] found = found ≡ []
AreFirst {A} P (suc n) (x ∷ xs) found = (P x × (others : List A) × (found ≡ x ∷ others) × AreFirst P n xs others) ⊎ ((P x → ⊥) × AreFirst P (suc n) xs found)

-- an item was added behind these if it holds of it
abbrev pub Adds : {A : Type 0} → (A → Type 0) → A → (old new : List A) → Type 0
Adds P x old new = (P x × (new ≡ old ++ x ∷ [])) ⊎ ((P x → ⊥) × (new ≡ old))
