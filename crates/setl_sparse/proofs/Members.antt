-- Lists of numbers, as sets.
use Rattle.std.proofs.Common.{◌≡◌, ◌∙◌, ℕ, Bool, true, false, cond, not, ◌&&◌, ◌||◌, List, refl, sym, nat_eq}
use Rattle.std.specs.Ordering.{nat_cmp, eq_by_cmp}
use Rattle.std.specs.List.{list_any, IsDistinct}
use Rattle.std.specs.List.Sorted.{IsPermutation, IsSorted, IsStrictlyIncreasing}
use Rattle.std.specs.Cmp.{nat_cmp_total, nat_eq_equiv, unsigned_tied}
use Rattle.std.specs.FinSet as set
use Rattle.std.proofs.lemmas.List.Sorted.{list_any-IsPermutation, IsNonDecreasingBy-from_sort}
use Rattle.std.proofs.lemmas.Map.Keys.{IsDistinct-IsPermutation, IsStrictlyIncreasing-from_distinct}

pub member : (ns : List ℕ) (q : ℕ) → set.contains (set.from_list {R = nat_cmp} ns) q ≡ list_any (nat_eq q) ns
member ns q = set.contains-from_list nat_cmp_total ns q ∙ (λ i. list_any (λ n. unsigned_tied q n i) ns)

tied : (n q : ℕ) → eq_by_cmp nat_cmp q n ≡ nat_eq n q
tied n q = unsigned_tied q n ∙ nat_eq_equiv.symm q n

pub same_members : (ns ms : List ℕ) → IsPermutation ns ms → set.from_list {R = nat_cmp} ms ≡ set.from_list ns
same_members ns ms moved =
    set.same_set nat_cmp_total set.nat_cmp-IsAntisymmetric _ _ (λ q. member ms q ∙ sym (list_any-IsPermutation (nat_eq q) ns ms moved) ∙ sym (member ns q))

module _ (n : ℕ) (old new : List ℕ) where
  or_hit : (b c : Bool) → cond b true c ≡ (b || c)
  or_hit true c = refl
  or_hit false c = refl

  and_miss : (b c : Bool) → cond b false c ≡ (not b && c)
  and_miss true c = refl
  and_miss false c = refl

  pub inserted : ((q : ℕ) → list_any (nat_eq q) new ≡ cond (nat_eq n q) true (list_any (nat_eq q) old)) → set.from_list {R = nat_cmp} new ≡ set.insert (set.from_list old) n
  inserted changed = set.same_set nat_cmp_total set.nat_cmp-IsAntisymmetric _ _ (λ q.
      member new q ∙ changed q ∙ or_hit (nat_eq n q) _ ∙ sym (set.contains-insert nat_cmp_total _ n q ∙ (λ i. tied n q i || member old q i)))

  pub removed : ((q : ℕ) → list_any (nat_eq q) new ≡ cond (nat_eq n q) false (list_any (nat_eq q) old)) → set.from_list {R = nat_cmp} new ≡ set.remove (set.from_list old) n
  removed changed = set.same_set nat_cmp_total set.nat_cmp-IsAntisymmetric _ _ (λ q.
      member new q ∙ changed q ∙ and_miss (nat_eq n q) _ ∙ sym (set.contains-remove nat_cmp_total _ n q ∙ (λ i. not (tied n q i) && member old q i)))

-- distinct numbers rise once they are sorted
pub rising_once_sorted : (ns ms : List ℕ) → IsDistinct nat_eq ns → IsPermutation ns ms → IsSorted nat_cmp ms → IsStrictlyIncreasing ms
rising_once_sorted ns ms distinct moved sorted =
    IsStrictlyIncreasing-from_distinct ms (IsNonDecreasingBy-from_sort (λ n. n) ms sorted) (IsDistinct-IsPermutation nat_eq nat_eq_equiv.symm ns ms moved distinct)
