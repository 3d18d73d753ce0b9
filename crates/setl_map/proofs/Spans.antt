-- The pairs of one point, between two bounds.
use Rattle.std.specs.Prelude.{◌≡◌, ℕ, zero, suc, ◌-◌, ◌≤◌, Bool, true, false, not, cond, List, [], ◌∷◌, ◌++◌, refl, take, drop, length}
use Rattle.std.specs.List.{AllByRecursion}
use Rattle.std.specs.declared.cmp.Ordering.{Ordering}
use Rattle.std.specs.declared.cmp.Ordering.TheVariants.{Less, Equal, Greater}
use Rattle.std.specs.Ordering.{is_eq, ordering_reverse}
use Rattle.std.proofs.Common.{ap, sym, ◌∙◌, arith}
use Rattle.std.proofs.lemmas.Bool.{false≢true, true≢false}
use Rattle.setl_value.specs.Datum.{Datum}
use Rattle.setl_value.specs.Order.{datum_cmp}
use Rattle.setl_value.specs.OrderLaws.{datum_cmp_total}
use Rattle.setl_value.specs.Pairs.{pairs_at}
use Rattle.setl_map.specs.Maps.{without_point}
use Rattle.setl_map.specs.code.Points.{is_at, is_before, comes_before, IsBound}
use Rattle.setl_map.proofs.PairFacts.{pair_of, IsPair}

-- ---- one pair, by how its first part stands to x

before_isn't : (o : Ordering) → is_before false o ≡ true → is_eq (ordering_reverse o) ≡ false
before_isn't Less h = refl
before_isn't Equal h = absurd (false≢true h)
before_isn't Greater h = refl

after_isn't : (o : Ordering) → is_before true o ≡ false → is_eq (ordering_reverse o) ≡ false
after_isn't Less h = refl
after_isn't Equal h = absurd (true≢false h)
after_isn't Greater h = refl

between_is : (o : Ordering) → is_before false o ≡ false → is_before true o ≡ true → is_eq (ordering_reverse o) ≡ true
between_is Less h k = absurd (true≢false h)
between_is Equal h k = refl
between_is Greater h k = absurd (false≢true k)

never_both : (o : Ordering) → is_before false o ≡ true → is_before true o ≡ false → ⊥
never_both Less h k = true≢false k
never_both Equal h k = false≢true h
never_both Greater h k = false≢true h

first_stands : (x : Datum) (d : Datum) (p : IsPair d) → is_at x d ≡ is_eq (ordering_reverse (datum_cmp (pair_of d p).0 x))
first_stands x d p = let u = pair_of d p in ap (is_at x) u.2 ∙ ap is_eq (datum_cmp_total.antisymm x u.0)

first_comes : (past : Bool) (x : Datum) (d : Datum) (p : IsPair d) → comes_before past x d ≡ is_before past (datum_cmp (pair_of d p).0 x)
first_comes past x d p = ap (comes_before past x) (pair_of d p).2

before_other : (x d : Datum) → IsPair d → comes_before false x d ≡ true → is_at x d ≡ false
before_other x d p h = first_stands x d p ∙ before_isn't (datum_cmp (pair_of d p).0 x) (sym (first_comes false x d p) ∙ h)

after_other : (x d : Datum) → IsPair d → comes_before true x d ≡ false → is_at x d ≡ false
after_other x d p h = first_stands x d p ∙ after_isn't (datum_cmp (pair_of d p).0 x) (sym (first_comes true x d p) ∙ h)

between_at : (x d : Datum) → IsPair d → comes_before false x d ≡ false → comes_before true x d ≡ true → is_at x d ≡ true
between_at x d p h k =
    first_stands x d p ∙ between_is (datum_cmp (pair_of d p).0 x) (sym (first_comes false x d p) ∙ h) (sym (first_comes true x d p) ∙ k)

no_pair_both : (x d : Datum) → IsPair d → comes_before false x d ≡ true → comes_before true x d ≡ false → ⊥
no_pair_both x d p h k = never_both (datum_cmp (pair_of d p).0 x) (sym (first_comes false x d p) ∙ h) (sym (first_comes true x d p) ∙ k)

-- ---- all pairs

pub record IsSplit (x : Datum) (ds : List Datum) (i j : ℕ) : Type 0 where
  pub ordered : i ≤ j
  pub at : pairs_at x ds ≡ take (j - i) (drop i ds)
  pub others : without_point x ds ≡ take i ds ++ drop j ds

skipped : (x d : Datum) (ds : List Datum) → is_at x d ≡ false → (pairs_at x (d ∷ ds) ≡ pairs_at x ds) × (without_point x (d ∷ ds) ≡ d ∷ without_point x ds)
skipped x d ds h = (ap (λ b. cond b (d ∷ pairs_at x ds) (pairs_at x ds)) h, ap (λ b. cond (not b) (d ∷ without_point x ds) (without_point x ds)) h)

kept : (x d : Datum) (ds : List Datum) → is_at x d ≡ true → (pairs_at x (d ∷ ds) ≡ d ∷ pairs_at x ds) × (without_point x (d ∷ ds) ≡ without_point x ds)
kept x d ds h = (ap (λ b. cond b (d ∷ pairs_at x ds) (pairs_at x ds)) h, ap (λ b. cond (not b) (d ∷ without_point x ds) (without_point x ds)) h)

abbrev Comes : Bool → Datum → Bool → List Datum → Type 0
Comes past x b ds = AllByRecursion (λ d. comes_before past x d ≡ b) ds

split : (x : Datum) (ds : List Datum) (i j : ℕ) → AllByRecursion IsPair ds → i ≤ length ds → j ≤ length ds
    → Comes false x true (take i ds) → Comes false x false (drop i ds) → Comes true x true (take j ds) → Comes true x false (drop j ds)
    → IsSplit x ds i j
split x [] zero zero p l m a b c e = record { ordered = omega arith; at = refl; others = refl }
split x [] (suc i) j p l m a b c e = absurd (omega arith)
split x [] zero (suc j) p l m a b c e = absurd (omega arith)
split x (d ∷ ds) zero zero p l m a b c e =
    let r = split x ds zero zero p.1 (omega arith) (omega arith) tt b.1 tt e.1 in
    let s = skipped x d ds (after_other x d p.0 e.0) in
    record { ordered = omega arith; at = s.0 ∙ r.at; others = s.1 ∙ ap (λ l. d ∷ l) r.others }
split x (d ∷ ds) zero (suc j) p l m a b c e =
    let r = split x ds zero j p.1 (omega arith) (omega arith) tt b.1 c.1 e in
    let s = kept x d ds (between_at x d p.0 b.0 c.0) in
    record {
      ordered = omega arith;
      at = s.0 ∙ ap (λ l. d ∷ l) r.at ∙ ap (λ n. take n (d ∷ ds)) {x = suc (j - 0)} {y = suc j - 0} (omega arith);
      others = s.1 ∙ r.others;
    }
split x (d ∷ ds) (suc i) zero p l m a b c e = absurd (no_pair_both x d p.0 a.0 e.0)
split x (d ∷ ds) (suc i) (suc j) p l m a b c e =
    let r = split x ds i j p.1 (omega arith) (omega arith) a.1 b c.1 e in
    let s = skipped x d ds (before_other x d p.0 a.0) in
    record {
      ordered = omega (arith, r.ordered);
      at = s.0 ∙ r.at ∙ ap (λ n. take n (drop i ds)) {x = j - i} {y = suc j - suc i} (omega arith);
      others = s.1 ∙ ap (λ l. d ∷ l) r.others;
    }

pub split_by_bounds : (x : Datum) (ds : List Datum) (i j : ℕ) → AllByRecursion IsPair ds → IsBound false x ds i → IsBound true x ds j → IsSplit x ds i j
split_by_bounds x ds i j p b c = split x ds i j p b.within c.within b.before b.after c.before c.after
