-- Where the pairs of a point begin and end.
use Rattle.std.specs.Prelude.{◌≡◌, ℕ, zero, suc, ◌+◌, Bool, true, false, cond, List, [], ◌∷◌, refl, take, drop}
use Rattle.std.specs.List.{AllByRecursion, prefix_len}
use Rattle.std.specs.List.Sorted.{IsStrictlySortedBy}
use Rattle.std.specs.declared.cmp.Ordering.{Ordering}
use Rattle.std.specs.declared.cmp.Ordering.TheVariants.{Less, Equal, Greater}
use Rattle.std.specs.Ordering.{is_eq, is_lt, ordering_then, ordering_reverse}
use Rattle.std.proofs.Common.{ap, sym, ◌∙◌, subst, arith}
use Rattle.std.proofs.lemmas.Bool.{false≢true}
use Rattle.setl_value.specs.Datum.{Datum, element_list-elements_of}
use Rattle.setl_value.specs.Order.{datum_cmp, IsRising}
use Rattle.setl_value.specs.OrderLaws.{datum_cmp_total, same_datum}
use Rattle.setl_value.specs.Pairs.{pair}
use Rattle.setl_value.specs.WellFormed.{IsSetList}
use Rattle.setl_value.specs.code.Places as place
use Rattle.setl_value.specs.code.Places.{point}
use Rattle.setl_map.specs.code.Points.{is_at, is_before, comes_before, IsBound}
use Rattle.setl_map.proofs.PairFacts.{pair_of, IsPair}

pub rising_from_set : (ds : List Datum) → IsSetList ds → IsRising ds
rising_from_set ds h = subst IsRising (element_list-elements_of ds) h.0.1

-- ---- what comes before a point, comes before it with all smaller pairs

still_before : (past : Bool) (x a b : Datum) (o : Ordering) → datum_cmp b x ≡ o → datum_cmp a b ≡ Less → is_before past o ≡ true → is_before past (datum_cmp a x) ≡ true
still_before past x a b Less e l h = ap (is_before past) (datum_cmp_total.trans a b x l e)
still_before past x a b Equal e l h = ap (is_before past) (subst (λ z. datum_cmp a z ≡ Less) (same_datum b x e) l)
still_before past x a b Greater e l h = absurd (false≢true h)

by_first : (past : Bool) (x a b : Datum) (o r : Ordering) → datum_cmp a b ≡ o → ordering_then o r ≡ Less → is_before past (datum_cmp b x) ≡ true → is_before past (datum_cmp a x) ≡ true
by_first past x a b Less r e l h = still_before past x a b (datum_cmp b x) refl e h
by_first past x a b Equal r e l h = subst (λ z. is_before past (datum_cmp z x) ≡ true) (sym (same_datum a b e)) h
by_first past x a b Greater r e l h = cc

before_smaller : (past : Bool) (x c d : Datum) → IsPair c → IsPair d → datum_cmp c d ≡ Less → comes_before past x d ≡ true → comes_before past x c ≡ true
before_smaller past x c d p q l h =
    let u = pair_of c p in
    let v = pair_of d q in
    let less : datum_cmp (pair u.0 u.1) (pair v.0 v.1) ≡ Less = subst (λ z. datum_cmp (pair u.0 u.1) z ≡ Less) v.2 (subst (λ z. datum_cmp z d ≡ Less) u.2 l) in
    subst (λ z. comes_before past x z ≡ true) (sym u.2)
    (by_first past x u.0 v.0 (datum_cmp u.0 v.0) (ordering_then (datum_cmp u.1 v.1) Equal) refl less (subst (λ z. comes_before past x z ≡ true) v.2 h))

is_false : (b : Bool) → (b ≡ true → ⊥) → b ≡ false
is_false true h = absurd (h refl)
is_false false h = refl

after_greater : (past : Bool) (x c d : Datum) → IsPair c → IsPair d → datum_cmp c d ≡ Less → comes_before past x c ≡ false → comes_before past x d ≡ false
after_greater past x c d p q l h = is_false (comes_before past x d) (λ t. false≢true (sym h ∙ before_smaller past x c d p q l t))

-- ---- lists

abbrev Before : Bool → Datum → List Datum → Type 0
Before past x ds = AllByRecursion (λ d. comes_before past x d ≡ true) ds

abbrev After : Bool → Datum → List Datum → Type 0
After past x ds = AllByRecursion (λ d. comes_before past x d ≡ false) ds

all_after : (past : Bool) (x c : Datum) (cs : List Datum) → IsPair c → AllByRecursion IsPair cs → AllByRecursion (λ y. datum_cmp c y ≡ Less) cs → comes_before past x c ≡ false → After past x cs
all_after past x c [] p q l h = tt
all_after past x c (d ∷ ds) p q l h = (after_greater past x c d p q.0 l.0 h, all_after past x c ds p q.1 l.1 h)

-- ---- the pairs of a point come one after the other

at_point : (x d : Datum) → IsPair d → is_lt (datum_cmp d (point x)) ≡ comes_before false x d
at_point x d p =
    let u = pair_of d p in
    subst (λ e. is_lt (datum_cmp e (point x)) ≡ comes_before false x e) (sym u.2) (by_order (datum_cmp u.0 x))
  where
    by_order : (o : Ordering) → is_lt (ordering_then o Greater) ≡ is_before false o
    by_order Less = refl
    by_order Equal = refl
    by_order Greater = refl

pairs_before : (x : Datum) (ds : List Datum) → AllByRecursion IsPair ds → AllByRecursion (λ d. datum_cmp d (point x) ≡ Less) ds → Before false x ds
pairs_before x [] p a = tt
pairs_before x (d ∷ ds) p a = (sym (at_point x d p.0) ∙ ap is_lt a.0, pairs_before x ds p.1 a.1)

pairs_after : (x : Datum) (ds : List Datum) → AllByRecursion IsPair ds → AllByRecursion (λ d. is_lt (datum_cmp d (point x)) ≡ false) ds → After false x ds
pairs_after x [] p a = tt
pairs_after x (d ∷ ds) p a = (sym (at_point x d p.0) ∙ a.0, pairs_after x ds p.1 a.1)

all_take : (ds : List Datum) (i : ℕ) → AllByRecursion IsPair ds → AllByRecursion IsPair (take i ds)
all_take ds zero p = tt
all_take [] (suc i) p = tt
all_take (d ∷ ds) (suc i) p = (p.0, all_take ds i p.1)

all_drop : (ds : List Datum) (i : ℕ) → AllByRecursion IsPair ds → AllByRecursion IsPair (drop i ds)
all_drop ds zero p = p
all_drop [] (suc i) p = tt
all_drop (d ∷ ds) (suc i) p = all_drop ds i p.1

-- where the tuple of x alone would stand, the pairs of x begin
pub from_point : (x : Datum) (ds : List Datum) (i : ℕ) → AllByRecursion IsPair ds → place.IsBound (point x) ds i → IsBound false x ds i
from_point x ds i p b = record {
  within = b.within;
  before = pairs_before x (take i ds) (all_take ds i p) b.before;
  after = pairs_after x (drop i ds) (all_drop ds i p) b.after;
}

past_before : (o : Ordering) → is_before false o ≡ true → is_before true o ≡ true
past_before Less h = refl
past_before Equal h = refl
past_before Greater h = h

comes_past : (x d : Datum) → IsPair d → comes_before false x d ≡ true → comes_before true x d ≡ true
comes_past x d p h =
    let u = pair_of d p in
    subst (λ e. comes_before true x e ≡ true) (sym u.2) (past_before (datum_cmp u.0 x) (subst (λ e. comes_before false x e ≡ true) u.2 h))

past_at : (o : Ordering) → is_eq (ordering_reverse o) ≡ true → is_before true o ≡ true
past_at Less h = absurd (false≢true h)
past_at Equal h = refl
past_at Greater h = absurd (false≢true h)

not_past : (o : Ordering) → is_before false o ≡ false → is_eq (ordering_reverse o) ≡ false → is_before true o ≡ false
not_past Less h k = h
not_past Equal h k = k
not_past Greater h k = refl

stands : (x a b : Datum) → is_at x (pair a b) ≡ is_eq (ordering_reverse (datum_cmp a x))
stands x a b = ap is_eq (datum_cmp_total.antisymm x a)

at_comes : (x d : Datum) → IsPair d → is_at x d ≡ true → comes_before true x d ≡ true
at_comes x d p h =
    let u = pair_of d p in
    subst (λ e. comes_before true x e ≡ true) (sym u.2) (past_at (datum_cmp u.0 x) (sym (stands x u.0 u.1) ∙ subst (λ e. is_at x e ≡ true) u.2 h))

other_stays : (x d : Datum) → IsPair d → comes_before false x d ≡ false → is_at x d ≡ false → comes_before true x d ≡ false
other_stays x d p h k =
    let u = pair_of d p in
    subst (λ e. comes_before true x e ≡ false) (sym u.2)
    (not_past (datum_cmp u.0 x) (subst (λ e. comes_before false x e ≡ false) u.2 h) (sym (stands x u.0 u.1) ∙ subst (λ e. is_at x e ≡ false) u.2 k))

front_by : (x d : Datum) (ds : List Datum) → IsPair d → AllByRecursion IsPair ds → AllByRecursion (λ y. datum_cmp d y ≡ Less) ds → comes_before false x d ≡ false
    → IsBound true x ds (prefix_len (is_at x) ds) → (b : Bool) → is_at x d ≡ b → IsBound true x (d ∷ ds) (cond b (1 + prefix_len (is_at x) ds) 0)
front_by x d ds p q l a more true h =
    let n = prefix_len (is_at x) ds in
    let one : suc n ≡ 1 + n = omega arith in
    record {
      within = omega (arith, more.within);
      before = subst (λ k. Before true x (take k (d ∷ ds))) one (at_comes x d p h, more.before);
      after = subst (λ k. After true x (drop k (d ∷ ds))) one more.after;
    }
front_by x d ds p q l a more false h =
    let k = other_stays x d p a h in
    record { within = omega arith; before = tt; after = (k, all_after true x d ds p q l k) }

front : (x : Datum) (ds : List Datum) → IsRising ds → AllByRecursion IsPair ds → After false x ds → IsBound true x ds (prefix_len (is_at x) ds)
unfolding IsStrictlySortedBy
front x [] r p a = record { within = omega arith; before = tt; after = tt }
front x (d ∷ ds) r p a = front_by x d ds p.0 p.1 r.0 a.0 (front x ds r.1 p.1 a.1) (is_at x d) refl

-- and end behind those that come one after the other
pub past_leading : (x : Datum) (ds : List Datum) (i : ℕ) → IsRising ds → AllByRecursion IsPair ds → IsBound false x ds i → IsBound true x ds (i + prefix_len (is_at x) (drop i ds))
unfolding IsStrictlySortedBy
past_leading x ds zero r p b = subst (IsBound true x ds) {x = prefix_len (is_at x) ds} (omega arith) (front x ds r p b.after)
past_leading x [] (suc i) r p b = absurd (omega (arith, b.within))
past_leading x (d ∷ ds) (suc i) r p b =
    let more = past_leading x ds i r.1 p.1 (record { within = omega (arith, b.within); before = b.before.1; after = b.after }) in
    let n = prefix_len (is_at x) (drop i ds) in
    let one : suc (i + n) ≡ suc i + n = omega arith in
    record {
      within = omega (arith, more.within);
      before = subst (λ k. Before true x (take k (d ∷ ds))) one (comes_past x d p.0 b.before.0, more.before);
      after = subst (λ k. After true x (drop k (d ∷ ds))) one more.after;
    }
