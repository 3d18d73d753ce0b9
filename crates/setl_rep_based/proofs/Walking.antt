-- A walk over a set of numbers in the canonical order of the members of its base.
use Rattle.std.proofs.Common.{◌≡◌, ℕ, zero, suc, ◌<◌, ◌≤◌, Bool, true, false, cond, List, [], ◌∷◌, filter, slice_get, Option, Some, None, option_and_then, nat_eq, ⊎_elim, refl, ap, sym, ◌∙◌, subst, arith}
use Rattle.std.specs.declared.cmp.Ordering.{Ordering}
use Rattle.std.specs.declared.cmp.Ordering.TheVariants.{Less, Equal, Greater}
use Rattle.std.specs.Option.{option_map, option_map_or, IsSome}
use Rattle.std.specs.List.{AllByRecursion}
use Rattle.std.specs.List.Sorted.{IsStrictlySortedBy}
use Rattle.std.specs.Ordering.{nat_cmp, ordering_reverse, is_eq, is_lt, is_gt}
use Rattle.std.specs.FinSet as set
use Rattle.std.proofs.lemmas.Bool.{false≢true, or_left, or_right, or_cases}
use Rattle.std.proofs.lemmas.Bool.Decides.{nat_tests, same_from_decides}
use Rattle.setl_value.specs.Datum.{Datum}
use Rattle.setl_value.specs.Order.{datum_cmp, IsRising}
use Rattle.setl_value.specs.OrderLaws.{datum_cmp_total, same_if_eq, eq_iff_same}
use Rattle.setl_set.specs.Sets.{has_datum}
use Rattle.setl_set.specs.Laws.{TestsMembership}
use Rattle.setl_base.specs.declared.Elt.{Elt}
use Rattle.setl_base.specs.Base.{BaseState, Member, IsBase, IsLiving, IsNext, IsLast, handle, member_at, value_in, value_of, find, is_above}
use Rattle.setl_rep_forms.specs.Stands.{value_at, members_at}
use Rattle.setl_rep_forms.specs.Laws.{IsAt, SetsHaveTheirMembers}
use Rattle.setl_rep_based.specs.Walk.{left_after, IsStep}

agree : (a b : Bool) → (a ≡ true → b ≡ true) → (b ≡ true → a ≡ true) → a ≡ b
agree a b f g = same_from_decides a b (f, g) (λ p. p, λ p. p)

-- ---- the order

less_if_lt : (o : Ordering) → is_lt o ≡ true → o ≡ Less
less_if_lt Less h = refl
less_if_lt Equal h = absurd (false≢true h)
less_if_lt Greater h = absurd (false≢true h)

greater_of_less : (x y : Datum) → datum_cmp x y ≡ Less → datum_cmp y x ≡ Greater
greater_of_less x y h = datum_cmp_total.antisymm y x ∙ ap ordering_reverse h

itself : (d : Datum) → is_eq (datum_cmp d d) ≡ true
itself d = (eq_iff_same d d).1 refl

not_below_itself : (d : Datum) → is_lt (datum_cmp d d) ≡ false
not_below_itself d = by (datum_cmp d d) (itself d)
  where
    by : (o : Ordering) → is_eq o ≡ true → is_lt o ≡ false
    by Less h = absurd (false≢true h)
    by Equal h = refl
    by Greater h = refl

-- what is not above and not the same is below
below_others : (d x : Datum) → is_gt (datum_cmp d x) ≡ false → (d ≡ x → ⊥) → is_lt (datum_cmp d x) ≡ true
below_others d x g n = by (datum_cmp d x) refl g
  where
    by : (o : Ordering) → datum_cmp d x ≡ o → is_gt o ≡ false → is_lt o ≡ true
    by Less e h = refl
    by Equal e h = absurd (n (same_if_eq d x (ap is_eq e)))
    by Greater e h = absurd (false≢true (sym h))

-- ---- filters

filters_agree : (p q : Datum → Bool) (xs : List Datum) → ((x : Datum) → has_datum x xs ≡ true → p x ≡ q x) → filter p xs ≡ filter q xs
filters_agree p q [] h = refl
filters_agree p q (x ∷ xs) h =
    let rest = filters_agree p q xs (λ y c. h y (or_right (is_eq (datum_cmp y x)) (has_datum y xs) c)) in
    let here = h x (or_left (is_eq (datum_cmp x x)) (has_datum x xs) (itself x)) in
    λ i. cond (here i) (x ∷ rest i) (rest i)

none_pass : (p : Datum → Bool) (xs : List Datum) → ((x : Datum) → has_datum x xs ≡ true → p x ≡ false) → filter p xs ≡ []
none_pass p [] h = refl
none_pass p (x ∷ xs) h =
    ap (λ t. cond t (x ∷ filter p xs) (filter p xs)) (h x (or_left (is_eq (datum_cmp x x)) (has_datum x xs) (itself x)))
    ∙ none_pass p xs (λ y c. h y (or_right (is_eq (datum_cmp y x)) (has_datum y xs) c))

-- the first of a rising list is below all others
first_below : (x y : Datum) (xs : List Datum) → AllByRecursion (λ z. datum_cmp x z ≡ Less) xs → has_datum y xs ≡ true → datum_cmp x y ≡ Less
first_below x y [] a h = absurd (false≢true h)
first_below x y (z ∷ zs) a h =
    ⊎_elim (λ e. subst (λ w. datum_cmp x w ≡ Less) (sym (same_if_eq y z e)) a.0) (λ r. first_below x y zs a.1 r) (or_cases (is_eq (datum_cmp y z)) (has_datum y zs) h)

-- the members that pass are the least of them, and then those above it
least_first : (p q : Datum → Bool) (d : Datum) (xs : List Datum) → IsRising xs → has_datum d xs ≡ true → p d ≡ true
    → ((x : Datum) → q x ≡ is_lt (datum_cmp d x))
    → ((x : Datum) → has_datum x xs ≡ true → p x ≡ true → is_gt (datum_cmp d x) ≡ false)
    → ((x : Datum) → is_lt (datum_cmp d x) ≡ true → p x ≡ true)
    → filter p xs ≡ d ∷ filter q xs
unfolding IsStrictlySortedBy
least_first p q d [] r h pd qs least up = absurd (false≢true h)
least_first p q d (x ∷ xs) r h pd qs least up =
    let rest = λ (c : has_datum d xs ≡ true). least_first p q d xs r.1 c pd qs (λ y k. least y (or_right (is_eq (datum_cmp y x)) (has_datum y xs) k)) up in
    ⊎_elim first (λ c. later c (rest c)) (or_cases (is_eq (datum_cmp d x)) (has_datum d xs) h)
  where
    first : is_eq (datum_cmp d x) ≡ true → filter p (x ∷ xs) ≡ d ∷ filter q (x ∷ xs)
    first e =
        let same : d ≡ x = same_if_eq d x e in
        let passes : p x ≡ true = subst (λ y. p y ≡ true) same pd in
        let fails : q x ≡ false = qs x ∙ subst (λ y. is_lt (datum_cmp d y) ≡ false) same (not_below_itself d) in
        let above : (y : Datum) → has_datum y xs ≡ true → is_lt (datum_cmp d y) ≡ true = λ y c. subst (λ z. is_lt (datum_cmp z y) ≡ true) (sym same) (ap is_lt (first_below x y xs r.0 c)) in
        ap (λ t. cond t (x ∷ filter p xs) (filter p xs)) passes
        ∙ (λ i. sym same i ∷ filters_agree p q xs (λ y c. up y (above y c) ∙ sym (qs y ∙ above y c)) i)
        ∙ ap (λ t. d ∷ cond t (x ∷ filter q xs) (filter q xs)) (sym fails)

    later : has_datum d xs ≡ true → filter p xs ≡ d ∷ filter q xs → filter p (x ∷ xs) ≡ d ∷ filter q (x ∷ xs)
    later c rest =
        let over : datum_cmp d x ≡ Greater = greater_of_less x d (first_below x d xs r.0 c) in
        let fails : p x ≡ false = agree (p x) false (λ t. sym (least x (or_left (is_eq (datum_cmp x x)) (has_datum x xs) (itself x)) t) ∙ ap is_gt over) (λ t. absurd (false≢true t)) in
        ap (λ t. cond t (x ∷ filter p xs) (filter p xs)) fails
        ∙ rest
        ∙ ap (λ t. d ∷ cond t (x ∷ filter q xs) (filter q xs)) (sym (qs x ∙ ap is_lt over))

-- ---- steps

-- what is above a member
above_member : (b : BaseState) (e : Elt) (d x : Datum) → value_of b e ≡ Some d → is_above b (Some e) x ≡ is_lt (datum_cmp d x)
above_member b e d x v = ap (λ o. option_map_or (λ y. is_lt (datum_cmp y x)) o false) v

-- what is above something above `after` is above `after`
above_up : (b : BaseState) (after : Option Elt) (d x : Datum) → is_above b after d ≡ true → is_lt (datum_cmp d x) ≡ true → is_above b after x ≡ true
above_up b None d x h l = refl
above_up b (Some a) d x h l = by (value_of b a) h
  where
    by : (o : Option Datum) → option_map_or (λ y. is_lt (datum_cmp y d)) o false ≡ true → option_map_or (λ y. is_lt (datum_cmp y x)) o false ≡ true
    by None k = absurd (false≢true k)
    by (Some y) k = ap is_lt (datum_cmp_total.trans y d x (less_if_lt (datum_cmp y d) k) (less_if_lt (datum_cmp d x) l))

number_of : (b : BaseState) (n : ℕ) (d : Datum) → value_at b n ≡ Some d → (f : Elt) × (f.block ≡ n) × (value_of b f ≡ Some d)
number_of b n d h = by (member_at b n) refl h
  where
    chosen : (t : Bool) (x : Datum) → t ≡ true → cond t (Some x) None ≡ Some x
    chosen true x p = refl
    chosen false x p = absurd (false≢true p)

    tested : (k : ℕ) → nat_eq k k ≡ true
    tested k = grind (arith, nat_tests)

    by : (o : Option Member) → member_at b n ≡ o → option_map (λ m. m.value) o ≡ Some d → (f : Elt) × (f.block ≡ n) × (value_of b f ≡ Some d)
    by None e p = absurd (not_both p)
      where
        not_both : None ≡ Some d → ⊥
        not_both q = cc
    by (Some m) e p = (handle n m, refl, ap (option_and_then (value_in m.generation)) e ∙ chosen (nat_eq m.generation m.generation) m.value (tested m.generation) ∙ p)

-- the next member lives
pub lives : (b : BaseState) (after : Option Elt) (e : Elt) → IsNext b after e → (x : Elt) → Some e ≡ Some x → IsLiving b x
lives b after e next x p = subst (λ g. IsLiving b g) (same e x p) (subst (λ o. IsSome o) (sym next.living) refl)
  where
    same : (x y : Elt) → Some x ≡ Some y → x ≡ y
    same x y q = cc

module _ (tests : TestsMembership) (members : SetsHaveTheirMembers) (b : BaseState) (base : IsBase b) (ns : set.FinSet nat_cmp) where
  at : (x : Datum) → has_datum x (members_at b ns) ≡ true → IsAt b ns x
  at x h = ((members b ns).members x).0 ((tests x (members_at b ns)).0 h)

  -- a member of the set that is above `after` is not below the next one
  not_below : (after : Option Elt) (e : Elt) (next : IsNext b after e) (x : Datum) → has_datum x (members_at b ns) ≡ true → is_above b after x ≡ true → is_gt (datum_cmp next.value x) ≡ false
  not_below after e next x h p =
      let a = at x h in
      let f = number_of b a.0 x a.2 in
      next.least f.0 x f.2 p

  -- the next member is not in the set
  pub skips : (after : Option Elt) (e : Elt) → IsNext b after e → set.contains ns e.block ≡ false → left_after b ns after ≡ left_after b ns (Some e)
  skips after e next out = filters_agree (is_above b after) (is_above b (Some e)) (members_at b ns) (λ x h. agree (is_above b after x) (is_above b (Some e) x) (down x h) (up x))
    where
      other : (x : Datum) → has_datum x (members_at b ns) ≡ true → next.value ≡ x → ⊥
      other x h same =
          let a = at x h in
          let f = number_of b a.0 x a.2 in
          let one : Some e ≡ Some f.0 = sym (base.found e next.value next.living) ∙ ap (find b) same ∙ base.found f.0 x f.2 in
          let number : e.block ≡ a.0 = ap (λ g. g.block) (unwrapped e f.0 one) ∙ f.1 in
          false≢true (sym out ∙ ap (set.contains ns) number ∙ a.1)
        where
          unwrapped : (x y : Elt) → Some x ≡ Some y → x ≡ y
          unwrapped x y p = cc

      down : (x : Datum) → has_datum x (members_at b ns) ≡ true → is_above b after x ≡ true → is_above b (Some e) x ≡ true
      down x h p = above_member b e next.value x next.living ∙ below_others next.value x (not_below after e next x h p) (other x h)

      up : (x : Datum) → is_above b (Some e) x ≡ true → is_above b after x ≡ true
      up x p = above_up b after next.value x next.above (sym (above_member b e next.value x next.living) ∙ p)

  -- the next member is in the set
  pub takes : (after : Option Elt) (e : Elt) → IsNext b after e → set.contains ns e.block ≡ true → IsStep b ns after (Some e)
  takes after e next there =
      let number : value_at b e.block ≡ Some next.value = at_number in
      let has : has_datum next.value (members_at b ns) ≡ true = (tests next.value (members_at b ns)).1 (((members b ns).members next.value).1 (e.block, there, number)) in (
        next.value,
        next.living,
        least_first (is_above b after) (is_above b (Some e)) next.value (members_at b ns) (members b ns).rising has next.above (λ x. above_member b e next.value x next.living)
            (not_below after e next) (λ x l. above_up b after next.value x next.above l),
      )
    where
      at_number : value_at b e.block ≡ Some next.value
      at_number = by (member_at b e.block) next.living
        where
          if_so : (t : Bool) (x : Datum) → cond t (Some x) None ≡ Some next.value → Some x ≡ Some next.value
          if_so true x q = q
          if_so false x q = cc

          by : (o : Option Member) → option_and_then (value_in e.generation) o ≡ Some next.value → option_map (λ m. m.value) o ≡ Some next.value
          by None q = cc
          by (Some m) q = if_so _ m.value q

  pub ends : (after : Option Elt) → IsLast b after → IsStep b ns after None
  ends after last = none_pass (is_above b after) (members_at b ns) (λ x h. let a = at x h in let f = number_of b a.0 x a.2 in last f.0 x f.2)

-- a step over members that are not in the set is one from before them
pub from_before : (b : BaseState) (ns : set.FinSet nat_cmp) (after at next : Option Elt) → left_after b ns after ≡ left_after b ns at → IsStep b ns at next → IsStep b ns after next
from_before b ns after at None same s = same ∙ s
from_before b ns after at (Some e) same s = (s.0, s.1, same ∙ s.2)

-- ---- the members of the base that are left

-- how many of these members are above one
abbrev pub count_of : (Datum → Bool) → List Member → ℕ
count_of p [] = 0
count_of p (m ∷ ms) = cond (p m.value) (suc (count_of p ms)) (count_of p ms)

-- how many members of the base are above one
abbrev pub above_count : BaseState → Option Elt → ℕ
above_count b after = count_of (is_above b after) b.members

fewer : (p q : Datum → Bool) (ms : List Member) → ((x : Datum) → q x ≡ true → p x ≡ true) → count_of q ms ≤ count_of p ms
fewer p q [] h = omega arith
fewer p q (m ∷ ms) h = by (q m.value) (p m.value) (h m.value) (fewer p q ms h)
  where
    by : (s t : Bool) → (s ≡ true → t ≡ true) → count_of q ms ≤ count_of p ms → cond s (suc (count_of q ms)) (count_of q ms) ≤ cond t (suc (count_of p ms)) (count_of p ms)
    by true true k r = omega (arith, r)
    by true false k r = absurd (false≢true (k refl))
    by false true k r = omega (arith, r)
    by false false k r = r

one_fewer : (p q : Datum → Bool) (ms : List Member) (i : ℕ) (m : Member) → slice_get ms i ≡ Some m → p m.value ≡ true → q m.value ≡ false → ((x : Datum) → q x ≡ true → p x ≡ true) → count_of q ms < count_of p ms
one_fewer p q [] i m g a n h = cc
one_fewer p q (k ∷ ks) zero m g a n h =
    let same : k ≡ m = first_same k m g in
    let passes : p k.value ≡ true = ap (λ x. p x.value) same ∙ a in
    let fails : q k.value ≡ false = ap (λ x. q x.value) same ∙ n in
    subst (λ t. cond t (suc (count_of q ks)) (count_of q ks) < count_of p (k ∷ ks)) (sym fails)
    (subst (λ t. count_of q ks < cond t (suc (count_of p ks)) (count_of p ks)) (sym passes) (omega (arith, fewer p q ks h)))
  where
    first_same : (x y : Member) → Some x ≡ Some y → x ≡ y
    first_same x y e = cc
one_fewer p q (k ∷ ks) (suc i) m g a n h = by (q k.value) (p k.value) (h k.value) (one_fewer p q ks i m g a n h)
  where
    by : (s t : Bool) → (s ≡ true → t ≡ true) → count_of q ks < count_of p ks → cond s (suc (count_of q ks)) (count_of q ks) < cond t (suc (count_of p ks)) (count_of p ks)
    by true true w r = omega (arith, r)
    by true false w r = absurd (false≢true (w refl))
    by false true w r = omega (arith, r)
    by false false w r = r

-- fewer members are above the next one
pub nearer : (b : BaseState) (after : Option Elt) (e : Elt) → IsNext b after e → above_count b (Some e) < above_count b after
nearer b after e next = by e.block (member_at b e.block) refl next.living
  where
    fails : is_above b (Some e) next.value ≡ false
    fails = above_member b e next.value next.value next.living ∙ not_below_itself next.value

    smaller : (x : Datum) → is_above b (Some e) x ≡ true → is_above b after x ≡ true
    smaller x p = above_up b after next.value x next.above (sym (above_member b e next.value x next.living) ∙ p)

    is_value : (t : Bool) (x : Datum) → cond t (Some x) None ≡ Some next.value → x ≡ next.value
    is_value true x q = cc
    is_value false x q = cc

    by : (n : ℕ) (o : Option Member) → member_at b n ≡ o → option_and_then (value_in e.generation) o ≡ Some next.value → above_count b (Some e) < above_count b after
    by n None g v = cc
    by zero (Some m) g v = cc
    by (suc i) (Some m) g v =
        let same : m.value ≡ next.value = is_value _ m.value v in
        one_fewer (is_above b after) (is_above b (Some e)) b.members i m g (ap (is_above b after) same ∙ next.above) (ap (is_above b (Some e)) same ∙ fails) smaller
