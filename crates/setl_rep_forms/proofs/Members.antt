-- Which members a set of numbers has.
use Rattle.std.specs.Cmp.{nat_cmp_total}
use Rattle.std.proofs.Common.{◌≡◌, ℕ, true, List, [], ◌∷◌, Option, Some, None, inl, inr, refl, ap, sym, ◌∙◌, subst, arith}
use Rattle.std.specs.List.{filter_map, cons_option, list_any}
use Rattle.std.specs.Ordering.{nat_cmp, eq_by_cmp, is_eq}
use Rattle.std.specs.FinSet as set
use Rattle.std.proofs.lemmas.Bool.{false≢true, or_left, or_right, or_cases}
use Rattle.std.proofs.lemmas.Bool.Decides.{nat_tests, same_from_decides}
use Rattle.setl_value.specs.Datum.{Datum}
use Rattle.setl_value.specs.Order.{datum_cmp}
use Rattle.setl_value.specs.OrderLaws.{same_if_eq, eq_iff_same}
use Rattle.setl_set.specs.Sets.{has_datum, set_from}
use Rattle.setl_set.specs.Laws.{RisingListsAgree, TestsMembership, Gathers}
use Rattle.setl_base.specs.Base.{BaseState}
use Rattle.setl_rep_forms.specs.Stands.{value_at, members_at}
use Rattle.setl_rep_forms.specs.Laws.{IsAt, SetsHaveTheirMembers, MembersOfLists}

pub itself : (d : Datum) → is_eq (datum_cmp d d) ≡ true
itself d = (eq_iff_same d d).1 refl

number_itself : (n : ℕ) → eq_by_cmp nat_cmp n n ≡ true
number_itself n = grind (arith, nat_tests)

pub same_number : (n k : ℕ) → eq_by_cmp nat_cmp n k ≡ true → n ≡ k
same_number n k h = grind (arith, nat_tests)

-- ---- what `filter_map` gives

has_cons : (o : Option Datum) (d : Datum) (ds : List Datum) → o ≡ Some d → has_datum d (cons_option o ds) ≡ true
has_cons o d ds p = subst (λ x. has_datum d (cons_option x ds) ≡ true) (sym p) (or_left (is_eq (datum_cmp d d)) (has_datum d ds) (itself d))

has_later : (o : Option Datum) (d : Datum) (ds : List Datum) → has_datum d ds ≡ true → has_datum d (cons_option o ds) ≡ true
has_later None d ds h = h
has_later (Some x) d ds h = or_right (is_eq (datum_cmp d x)) (has_datum d ds) h

pub has_value : (g : ℕ → Option Datum) (ns : List ℕ) (d : Datum) (n : ℕ) → list_any (eq_by_cmp nat_cmp n) ns ≡ true → g n ≡ Some d → has_datum d (filter_map g ns) ≡ true
has_value g [] d n h p = absurd (false≢true h)
has_value g (k ∷ ks) d n h p =
    elim (or_cases (eq_by_cmp nat_cmp n k) (list_any (eq_by_cmp nat_cmp n) ks) h) as (λ _. has_datum d (cons_option (g k) (filter_map g ks)) ≡ true) [
      | inl e ↦ has_cons (g k) d (filter_map g ks) (ap g (sym (same_number n k e)) ∙ p)
      | inr r ↦ has_later (g k) d (filter_map g ks) (has_value g ks d n r p)
    ]

abbrev pub Comes : (ℕ → Option Datum) → List ℕ → Datum → Type 0
Comes g ns d = (n : ℕ) × (list_any (eq_by_cmp nat_cmp n) ns ≡ true) × (g n ≡ Some d)

pub value_comes : (g : ℕ → Option Datum) (ns : List ℕ) (d : Datum) → has_datum d (filter_map g ns) ≡ true → Comes g ns d
value_comes g [] d h = absurd (false≢true h)
value_comes g (k ∷ ks) d h =
    by (g k) refl h (λ r. let c = value_comes g ks d r in (c.0, or_right (eq_by_cmp nat_cmp c.0 k) (list_any (eq_by_cmp nat_cmp c.0) ks) c.1, c.2))
  where
    by : (o : Option Datum) → g k ≡ o → has_datum d (cons_option o (filter_map g ks)) ≡ true → (has_datum d (filter_map g ks) ≡ true → Comes g (k ∷ ks) d) → Comes g (k ∷ ks) d
    by None p q later = later q
    by (Some x) p q later =
        elim (or_cases (is_eq (datum_cmp d x)) (has_datum d (filter_map g ks)) q) as (λ _. Comes g (k ∷ ks) d) [
          | inl e ↦ (k, or_left (eq_by_cmp nat_cmp k k) (list_any (eq_by_cmp nat_cmp k) ks) (number_itself k), p ∙ ap (λ y. Some y) (sym (same_if_eq d x e)))
          | inr r ↦ later r
        ]

-- ---- the members at numbers

module _ (tests : TestsMembership) (gathers : Gathers) where
  -- whether a datum is in the set of these
  pub has_gathered : (ds : List Datum) (d : Datum) → has_datum d (set_from ds) ≡ has_datum d ds
  has_gathered ds d = same_from_decides _ _ (tests d (set_from ds)) (λ h. ((gathers ds).members d).1 ((tests d ds).0 h), λ c. (tests d ds).1 (((gathers ds).members d).0 c))

  pub is_at : (b : BaseState) (ns : set.FinSet nat_cmp) (d : Datum) → has_datum d (members_at b ns) ≡ true → IsAt b ns d
  is_at b ns d h =
      let c = value_comes (value_at b) (set.items ns) d (sym (has_gathered _ d) ∙ h) in
      (c.0, set.contains-items ns c.0 ∙ c.1, c.2)

  pub has_at : (b : BaseState) (ns : set.FinSet nat_cmp) (d : Datum) → IsAt b ns d → has_datum d (members_at b ns) ≡ true
  has_at b ns d a = has_gathered _ d ∙ has_value (value_at b) (set.items ns) d a.0 (sym (set.contains-items ns a.0) ∙ a.1) a.2

  pub sets_have_their_members : SetsHaveTheirMembers
  sets_have_their_members b ns = record {
    rising = (gathers (filter_map (value_at b) (set.items ns))).rising;
    members = λ d. (λ c. is_at b ns d ((tests d (members_at b ns)).1 c), λ a. (tests d (members_at b ns)).0 (has_at b ns d a));
  }

  pub members_of_lists : RisingListsAgree → MembersOfLists
  members_of_lists alike b numbers =
      let at = members_at b (set.from_list numbers) in
      let list = filter_map (value_at b) numbers in
      let there : (n : ℕ) → set.contains (set.from_list {R = nat_cmp} numbers) n ≡ list_any (eq_by_cmp nat_cmp n) numbers = λ n. set.contains-from_list nat_cmp_total numbers n in
      alike at (set_from list) (sets_have_their_members b (set.from_list numbers)).rising (gathers list).rising (λ d. (
        λ c. let a = is_at b (set.from_list numbers) d ((tests d at).1 c) in (tests d (set_from list)).0 (has_gathered list d ∙ has_value (value_at b) numbers d a.0 (sym (there a.0) ∙ a.1) a.2),
        λ c. let a = value_comes (value_at b) numbers d (sym (has_gathered list d) ∙ (tests d (set_from list)).1 c) in (tests d at).0 (has_at b (set.from_list numbers) d (a.0, there a.0 ∙ a.1, a.2)),
      ))
