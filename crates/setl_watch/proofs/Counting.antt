-- A store more at a line.
use Rattle.std.proofs.Common.{◌≡◌, ◌∙◌, ◌<◌, ◌≤◌, ◌+◌, ℕ, zero, suc, Bool, true, false, [], ◌∷◌, cond, length, drop, nat_lt, nat_eq, slice_set, slice_index_or, refl, ap, arith}
use Rattle.std.proofs.lemmas.Bool.{eqb-true as same_number}
use Rattle.std.specs.List.{insert}
use Rattle.setl_watch.specs.Covers.{Counts, counted, place, has}

module _ (line : ℕ) where
  -- the place goes on over a lower line
  pub place_more : (cs : Counts) (at : ℕ) (d : ℕ × ℕ) → at < length cs → nat_lt (slice_index_or cs at d).0 line ≡ true → place line (drop at cs) ≡ suc (place line (drop (suc at) cs))
  place_more [] at d h k = absurd (omega (arith, h))
  place_more (c ∷ cs) zero d h k = rw k refl
  place_more (c ∷ cs) (suc at) d h k = place_more cs at d (omega (arith, h)) k

  -- and ends where the line isn't lower
  pub place_ends : (cs : Counts) (at : ℕ) (d : ℕ × ℕ) → at < length cs → nat_lt (slice_index_or cs at d).0 line ≡ false → place line (drop at cs) ≡ 0
  place_ends [] at d h k = absurd (omega (arith, h))
  place_ends (c ∷ cs) zero d h k = rw k refl
  place_ends (c ∷ cs) (suc at) d h k = place_ends cs at d (omega (arith, h)) k

  -- the line at the place
  pub has_at : (cs : Counts) (d : ℕ × ℕ) → place line cs < length cs → nat_eq (slice_index_or cs (place line cs) d).0 line ≡ has line cs
  has_at [] d h = absurd (omega (arith, h))
  has_at (c ∷ cs) d h = go (nat_lt c.0 line) refl (has_at cs d) h
    where
      go : (t : Bool) → nat_lt c.0 line ≡ t → (place line cs < length cs → nat_eq (slice_index_or cs (place line cs) d).0 line ≡ has line cs) → cond t (suc (place line cs)) 0 < suc (length cs) → nat_eq (slice_index_or (c ∷ cs) (cond t (suc (place line cs)) 0) d).0 line ≡ cond t (has line cs) (nat_eq c.0 line)
      go true k ih h = ih (omega (arith, h))
      go false k ih h = refl

  pub has_none : (cs : Counts) → length cs ≤ place line cs → has line cs ≡ false
  has_none [] h = refl
  has_none (c ∷ cs) h = go (nat_lt c.0 line) refl (has_none cs) h
    where
      go : (t : Bool) → nat_lt c.0 line ≡ t → (length cs ≤ place line cs → has line cs ≡ false) → suc (length cs) ≤ cond t (suc (place line cs)) 0 → cond t (has line cs) (nat_eq c.0 line) ≡ false
      go true k ih h = ih (omega (arith, h))
      go false k ih h = absurd (omega (arith, h))

  -- one store more at a line that is there; p and q are what stands at its place
  pub counted_there : (cs : Counts) (p q : ℕ × ℕ) (n : ℕ) → p ≡ slice_index_or cs (place line cs) p → q ≡ slice_index_or cs (place line cs) q → n ≡ q.1 + 1 → has line cs ≡ true → slice_set cs (place line cs) (p.0, n) ≡ counted line cs
  counted_there [] p q n i j m h = cc
  counted_there (c ∷ cs) p q n i j m h = go (nat_lt c.0 line) (nat_eq c.0 line) refl i j (counted_there cs p q n) h
    where
      go : (t e : Bool) → nat_eq c.0 line ≡ e → p ≡ slice_index_or (c ∷ cs) (cond t (suc (place line cs)) 0) p → q ≡ slice_index_or (c ∷ cs) (cond t (suc (place line cs)) 0) q → (p ≡ slice_index_or cs (place line cs) p → q ≡ slice_index_or cs (place line cs) q → n ≡ q.1 + 1 → has line cs ≡ true → slice_set cs (place line cs) (p.0, n) ≡ counted line cs) → cond t (has line cs) e ≡ true → slice_set (c ∷ cs) (cond t (suc (place line cs)) 0) (p.0, n) ≡ cond t (c ∷ counted line cs) (cond e ((line, suc c.1) ∷ cs) ((line, 1) ∷ c ∷ cs))
      go true e l i j ih h = ap (λ ds. c ∷ ds) (ih i j m h)
      go false true l i j ih h =
          let count : n ≡ suc c.1 = m ∙ ap (λ r. r.1 + 1) j ∙ omega arith in
          ap (λ k. (k, n) ∷ cs) (ap (λ r. r.0) i ∙ same_number c.0 line l) ∙ ap (λ k. (line, k) ∷ cs) count
      go false false l i j ih h = cc

  -- and at one that isn't
  pub counted_new : (cs : Counts) → has line cs ≡ false → insert cs (place line cs) (line, 1) ≡ counted line cs
  counted_new [] h = refl
  counted_new (c ∷ cs) h = go (nat_lt c.0 line) (nat_eq c.0 line) refl (counted_new cs) h
    where
      go : (t e : Bool) → nat_lt c.0 line ≡ t → (has line cs ≡ false → insert cs (place line cs) (line, 1) ≡ counted line cs) → cond t (has line cs) e ≡ false → insert (c ∷ cs) (cond t (suc (place line cs)) 0) (line, 1) ≡ cond t (c ∷ counted line cs) (cond e ((line, suc c.1) ∷ cs) ((line, 1) ∷ c ∷ cs))
      go true e k ih h = ap (λ ds. c ∷ ds) (ih h)
      go false true k ih h = cc
      go false false k ih h = refl
