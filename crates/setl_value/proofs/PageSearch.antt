-- Searching a list of pages by halving.
use Rattle.std.specs.Prelude.{◌≡◌, ◌⊎◌, ℕ, zero, suc, ◌+◌, ◌<◌, ◌≤◌, false, true, List, [], ◌∷◌, ◌++◌, Some, length, take, drop, slice_get}
use Rattle.std.specs.List.{AllByRecursion}
use Rattle.std.specs.List.Sorted.{IsStrictlySortedBy}
use Rattle.std.specs.Ordering.{is_lt}
use Rattle.std.specs.declared.cmp.Ordering.TheVariants.{Less}
use Rattle.std.proofs.Common.{arith, inl, inr, sym, ◌∙◌, subst}
use Rattle.setl_value_pages.specs.ListLaws.{all_append}
use Rattle.setl_value_pages.specs.PageLaws.{dropped, item_of, pages_before, pages_behind, rank_grows, rank_rises, rank_within, taken}
use Rattle.setl_value_pages.specs.Pages.{IsPage, joined, page_at, rank_in}
use Rattle.setl_value.specs.Datum.{Datum}
use Rattle.setl_value.specs.Order.{datum_cmp, IsRising}
use Rattle.setl_value.specs.code.Places.{IsBound, IsBetween}
use Rattle.setl_value.proofs.Halving.{raised, lowered}

all_fewer : {X : Type 0} (P : X → Type 0) (xs : List X) (n m : ℕ) → n ≤ m → AllByRecursion P (take m xs) → AllByRecursion P (take n xs)
all_fewer P xs zero m h a = tt
all_fewer P [] (suc n) m h a = tt
all_fewer P (x ∷ xs) (suc n) zero h a = absurd (omega arith)
all_fewer P (x ∷ xs) (suc n) (suc m) h a = (a.0, all_fewer P xs n m (omega arith) a.1)

module _ (d : Datum) (ps : List (List Datum)) (whole : AllByRecursion IsPage ps) (r : IsRising (joined ps)) where
  -- the first member of a page between low and high is below d, or isn't
  pub page_raised : (low high m : ℕ) (e : Datum) → IsBetween d (joined ps) (rank_in ps low 0) (rank_in ps high 0) → m < high → high ≤ length ps → slice_get (page_at ps m) 0 ≡ Some e
      → 0 < length (page_at ps m) → is_lt (datum_cmp e d) ≡ true → IsBetween d (joined ps) (rank_in ps m 0) (rank_in ps high 0)
  page_raised low high m e b l n h s p =
      let up = raised d (joined ps) (rank_in ps low 0) (rank_in ps high 0) (rank_in ps m 0) e r b (rank_rises ps m high whole l n) (item_of ps m 0 s ∙ h) p in
      record {
        ordered = omega (arith, rank_rises ps m high whole l n);
        within = b.within;
        before = all_fewer (λ e. datum_cmp e d ≡ Less) (joined ps) (rank_in ps m 0) (rank_in ps m 0 + 1) (omega arith) up.before;
        after = b.after;
      }

  pub page_lowered : (low high m : ℕ) (e : Datum) → IsBetween d (joined ps) (rank_in ps low 0) (rank_in ps high 0) → low ≤ m → m < high → high ≤ length ps → slice_get (page_at ps m) 0 ≡ Some e
      → 0 < length (page_at ps m) → is_lt (datum_cmp e d) ≡ false → IsBetween d (joined ps) (rank_in ps low 0) (rank_in ps m 0)
  page_lowered low high m e b k l n h s p =
      lowered d (joined ps) (rank_in ps low 0) (rank_in ps high 0) (rank_in ps m 0) e r b (rank_grows ps low m k) (rank_rises ps m high whole l n) (item_of ps m 0 s ∙ h) p

-- the bound in its page is the bound among all members
pub bound_in_page : (d : Datum) (ps : List (List Datum)) (k i : ℕ) → i ≤ length (page_at ps k) → IsBetween d (joined ps) (rank_in ps k 0) (rank_in ps (suc k) 0) → IsBound d (page_at ps k) i → IsBound d (joined ps) (rank_in ps k i)
bound_in_page d ps k i h b p = record {
  within = rank_within ps k i h;
  before =
      subst (AllByRecursion (λ e. datum_cmp e d ≡ Less)) (sym (taken ps k i h))
      (all_append (λ e. datum_cmp e d ≡ Less) (joined (take k ps)) (take i (page_at ps k)) (subst (AllByRecursion (λ e. datum_cmp e d ≡ Less)) (pages_before ps k) b.before) p.before);
  after =
      subst (AllByRecursion (λ e. is_lt (datum_cmp e d) ≡ false)) (sym (dropped ps k i h))
      (all_append (λ e. is_lt (datum_cmp e d) ≡ false) (drop i (page_at ps k)) (joined (drop (suc k) ps)) p.after
      (subst (AllByRecursion (λ e. is_lt (datum_cmp e d) ≡ false)) (pages_behind ps (suc k)) b.after));
}

-- at last one page is, or there is none
pub one_between : (d : Datum) (ps : List (List Datum)) (low high : ℕ) → low ≤ high → high ≤ low + 1 → (low < high) ⊎ (length ps ≡ 0) → high ≤ length ps → IsBetween d (joined ps) (rank_in ps low 0) (rank_in ps high 0)
    → IsBetween d (joined ps) (rank_in ps low 0) (rank_in ps (suc low) 0)
one_between d ps low high l h (inl p) n b = subst (λ m. IsBetween d (joined ps) (rank_in ps low 0) (rank_in ps m 0)) {x = high} {y = suc low} (omega arith) b
one_between d [] zero zero l h (inr p) n b = b
one_between d [] low (suc high) l h (inr p) n b = absurd (omega arith)
one_between d [] (suc low) zero l h (inr p) n b = absurd (omega arith)
one_between d (p ∷ ps) low high l h (inr e) n b = absurd (omega arith)

-- ---- one page of a rising list

all_front : {X : Type 0} (P : X → Type 0) (xs ys : List X) → AllByRecursion P (xs ++ ys) → AllByRecursion P xs
all_front P [] ys a = tt
all_front P (x ∷ xs) ys a = (a.0, all_front P xs ys a.1)

rising_front : (xs ys : List Datum) → IsRising (xs ++ ys) → IsRising xs
unfolding IsStrictlySortedBy
rising_front [] ys r = tt
rising_front (x ∷ xs) ys r = (all_front (λ y. datum_cmp x y ≡ Less) xs ys r.0, rising_front xs ys r.1)

rising_back : (xs ys : List Datum) → IsRising (xs ++ ys) → IsRising ys
unfolding IsStrictlySortedBy
rising_back [] ys r = r
rising_back (x ∷ xs) ys r = rising_back xs ys r.1

pub rising_page : (ps : List (List Datum)) (k : ℕ) → IsRising (joined ps) → IsRising (page_at ps k)
rising_page [] zero r = r
rising_page [] (suc k) r = r
rising_page (p ∷ ps) zero r = rising_front p (joined ps) r
rising_page (p ∷ ps) (suc k) r = rising_page ps k (rising_back p (joined ps) r)
