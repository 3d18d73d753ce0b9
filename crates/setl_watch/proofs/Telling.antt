-- Telling one watcher more.
use Rattle.std.proofs.Common.{◌≡◌, ◌<◌, ◌+◌, ℕ, zero, suc, true, false, List, [], ◌∷◌, ◌++◌, map, length, slice_set, slice_index_or, refl, sym, ap, subst, arith}
use Rattle.std.specs.List.{remove}
use Rattle.setl_watch.specs.Notices.{Notice}
use Rattle.setl_watch.specs.Watches.{Watch, after, has_enough, reported, with_watch, told}
use Rattle.setl_watch.specs.code.Telling.{behind, told_from}

module _ {B : Type 0} (f : B → Watch) (e : Notice) where
  more_suc : (bs : List B) (at : ℕ) (b c : B) (reports : List ℕ) → at < length bs → b ≡ slice_index_or bs at b → f c ≡ after (f b) e → has_enough (f b) e ≡ false → told_from (suc at) e (map f (slice_set bs at c)) reports ≡ told_from at e (map f bs) reports
  more_suc [] at b c reports h i j k = absurd (omega (arith, h))
  more_suc (x ∷ bs) zero b c reports h i j k = subst (λ y. behind (f c ∷ []) (told e (map f bs) reports) ≡ behind [] (told e (f y ∷ map f bs) reports)) i (rw (j, k) refl)
  more_suc (x ∷ bs) (suc at) b c reports h i j k = ap (with_watch (f x)) (more_suc bs at b c reports (omega (arith, h)) i j k)

  -- it wants more and stays
  pub more_told : (bs : List B) (at : ℕ) (b c : B) (reports : List ℕ) → at < length bs → b ≡ slice_index_or bs at b → f c ≡ after (f b) e → has_enough (f b) e ≡ false → told_from (at + 1) e (map f (slice_set bs at c)) reports ≡ told_from at e (map f bs) reports
  more_told bs at b c reports h i j k = let next : suc at ≡ at + 1 = omega arith in subst (λ n. told_from n e (map f (slice_set bs at c)) reports ≡ told_from at e (map f bs) reports) next (more_suc bs at b c reports h i j k)

  -- it has enough and leaves; d is what was taken out
  pub enough_told : (bs : List B) (at : ℕ) (b c d : B) (reports : List ℕ) → at < length bs → b ≡ slice_index_or bs at b → d ≡ slice_index_or (slice_set bs at c) at d → f c ≡ after (f b) e → has_enough (f b) e ≡ true → told_from at e (map f (remove (slice_set bs at c) at)) (reports ++ reported (f d)) ≡ told_from at e (map f bs) reports
  enough_told [] at b c d reports h i l j k = absurd (omega (arith, h))
  enough_told (x ∷ bs) zero b c d reports h i l j k = subst (λ z. behind [] (told e (map f bs) (reports ++ reported (f z))) ≡ behind [] (told e (f x ∷ map f bs) reports)) (sym l) (subst (λ y. behind [] (told e (map f bs) (reports ++ reported (f c))) ≡ behind [] (told e (f y ∷ map f bs) reports)) i (rw (j, k) refl))
  enough_told (x ∷ bs) (suc at) b c d reports h i l j k = ap (with_watch (f x)) (enough_told bs at b c d reports (omega (arith, h)) i l j k)
