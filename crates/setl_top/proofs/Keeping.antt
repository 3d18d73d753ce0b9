-- Keeping the watchers of a name.
use Rattle.std.proofs.Common.{◌≡◌, ◌<◌, ◌≤◌, ◌+◌, inl, inr, ℕ, zero, suc, true, false, List, [], ◌∷◌, ◌++◌, map, length, take, drop, nat_eq, slice_index_or, refl, ap, subst, arith}
use Rattle.std.proofs.lemmas.Bool.Decides.{eqb_tells}
use Rattle.std.specs.List.{remove}
use Rattle.setl_watch.specs.Watches.{Watch}
use Rattle.setl_top.specs.Watching.{named}

-- the first ones are kept, and of the others those that have the name
abbrev pub named_from : ℕ → ℕ → List Watch → List Watch
named_from at n ws = take at ws ++ named n (drop at ws)

pub all_named : (at n : ℕ) (ws : List Watch) → length ws ≤ at → named_from at n ws ≡ ws
all_named zero n [] h = refl
all_named zero n (w ∷ ws) h = absurd (omega (arith, h))
all_named (suc at) n [] h = refl
all_named (suc at) n (w ∷ ws) h = ap (λ xs. w ∷ xs) (all_named at n ws (omega (arith, h)))

module _ {B : Type 0} (f : B → Watch) (n : ℕ) where
  kept_suc : (bs : List B) (at : ℕ) (b : B) → at < length bs → b ≡ slice_index_or bs at b → nat_eq (f b).name n ≡ true → named_from (suc at) n (map f bs) ≡ named_from at n (map f bs)
  kept_suc [] at b h i k = absurd (omega (arith, h))
  kept_suc (x ∷ bs) zero b h i k = let same = subst (λ y. nat_eq (f y).name n ≡ true) i k in rw same refl
  kept_suc (x ∷ bs) (suc at) b h i k = ap (λ xs. f x ∷ xs) (kept_suc bs at b (omega (arith, h)) i k)

  -- one that has the name stays
  pub kept : (bs : List B) (at : ℕ) (b : B) → at < length bs → b ≡ slice_index_or bs at b → (f b).name ≡ n → named_from (at + 1) n (map f bs) ≡ named_from at n (map f bs)
  kept bs at b h i k =
      let next : suc at ≡ at + 1 = omega arith in
      let same : nat_eq (f b).name n ≡ true = elim (eqb_tells (f b).name n) [
        | inl x ↦ x.0
        | inr x ↦ absurd (x.1 k)
      ] in
      subst (λ m. named_from m n (map f bs) ≡ named_from at n (map f bs)) next (kept_suc bs at b h i same)

  dropped_at : (bs : List B) (at : ℕ) (b : B) → at < length bs → b ≡ slice_index_or bs at b → nat_eq (f b).name n ≡ false → named_from at n (map f (remove bs at)) ≡ named_from at n (map f bs)
  dropped_at [] at b h i k = absurd (omega (arith, h))
  dropped_at (x ∷ bs) zero b h i k = let other = subst (λ y. nat_eq (f y).name n ≡ false) i k in rw other refl
  dropped_at (x ∷ bs) (suc at) b h i k = ap (λ xs. f x ∷ xs) (dropped_at bs at b (omega (arith, h)) i k)

  -- another one leaves
  pub dropped : (bs : List B) (at : ℕ) (b : B) → at < length bs → b ≡ slice_index_or bs at b → ((f b).name ≡ n → ⊥) → named_from at n (map f (remove bs at)) ≡ named_from at n (map f bs)
  dropped bs at b h i k =
      let other : nat_eq (f b).name n ≡ false = elim (eqb_tells (f b).name n) [
        | inl x ↦ absurd (k x.1)
        | inr x ↦ x.0
      ] in
      dropped_at bs at b h i other
