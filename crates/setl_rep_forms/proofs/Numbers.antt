-- Sets of members by their numbers.
use Rattle.std.proofs.Common.{◌≡◌, ℕ, Bool, true, false, not, cond, List, [], Option, Some, None, option_and_then, inl, inr, ⊎_elim, refl, ap, sym, ◌∙◌, subst, arith, eq-eqb}
use Rattle.std.specs.Bool.{Decides}
use Rattle.std.specs.List.{Contains}
use Rattle.std.specs.Cmp.{nat_cmp_total}
use Rattle.std.specs.Option.{option_map}
use Rattle.std.specs.Ordering.{nat_cmp, eq_by_cmp, is_eq}
use Rattle.std.specs.FinSet as set
use Rattle.std.proofs.lemmas.Bool.{false≢true, or_left, or_right, or_cases, and_parts, and_from}
use Rattle.std.proofs.lemmas.Bool.Decides.{nat_tests, same_from_decides}
use Rattle.setl_value.specs.Datum.{Datum, set, element_list, element_list-elements_of}
use Rattle.setl_value.specs.Order.{IsRising}
use Rattle.setl_set.specs.Sets.{has_datum, union_of}
use Rattle.setl_set.specs.Laws.{IsSetOf, RisingListsAgree, TestsMembership, Gathers, Inserts, Removes, Unites, Subtracts, Intersects}
use Rattle.setl_base.specs.declared.Elt.{Elt}
use Rattle.setl_base.specs.Base.{BaseState, Member, IsBase, handle, member_at, value_in, value_of}
use Rattle.setl_rep_bases.specs.Bases.{base_at}
use Rattle.setl_rep_forms.specs.Stands.{value_at, members_at, AreLiving}
use Rattle.setl_rep_forms.specs.Laws.{IsAt, EqualSetsHaveEqualNumbers, MembersAreTestedByNumber, UnionsGoByNumber, MeetsGoByNumber, DifferencesGoByNumber, SymmetricDifferencesGoByNumber, InsertsGoByNumber, RemovesGoByNumber}
use Rattle.setl_rep_forms.proofs.Members.{is_at, has_at, sets_have_their_members, same_number}

some_same : {A : Type 0} {x y : A} → Some x ≡ Some y → x ≡ y
some_same p = cc

not_both : {A : Type 0} {x : A} → None ≡ Some x → ⊥
not_both p = cc

agree : (a b : Bool) → (a ≡ true → b ≡ true) → (b ≡ true → a ≡ true) → a ≡ b
agree a b f g = same_from_decides a b (f, g) (λ p. p, λ p. p)

-- ---- a member has one number

abbrev Handle : BaseState → ℕ → Datum → Type 0
Handle b n d = (e : Elt) × (e.block ≡ n) × (value_of b e ≡ Some d)

pub handle_at : (b : BaseState) (n : ℕ) (d : Datum) → value_at b n ≡ Some d → Handle b n d
handle_at b n d p = by (member_at b n) refl p
  where
    by : (o : Option Member) → member_at b n ≡ o → option_map (λ m. m.value) o ≡ Some d → Handle b n d
    by None q r = absurd (not_both r)
    by (Some m) q r = (handle n m, refl, ap (option_and_then (value_in m.generation)) q ∙ ap (λ t. cond t (Some m.value) None) (eq-eqb m.generation m.generation refl) ∙ r)

pub at_number : (b : BaseState) (e : Elt) (d : Datum) → value_of b e ≡ Some d → value_at b e.block ≡ Some d
at_number b e d p = by (member_at b e.block) p
  where
    if_so : (t : Bool) (x : Datum) → cond t (Some x) None ≡ Some d → Some x ≡ Some d
    if_so true x q = q
    if_so false x q = absurd (not_both q)

    by : (o : Option Member) → option_and_then (value_in e.generation) o ≡ Some d → option_map (λ m. m.value) o ≡ Some d
    by None q = absurd (not_both q)
    by (Some m) q = if_so _ m.value q

pub one_number : (b : BaseState) → IsBase b → (n k : ℕ) (d : Datum) → value_at b n ≡ Some d → value_at b k ≡ Some d → n ≡ k
one_number b base n k d p q =
    let e = handle_at b n d p in
    let f = handle_at b k d q in
    let same : e.0 ≡ f.0 = some_same (sym (base.found e.0 d e.2) ∙ base.found f.0 d f.2) in
    sym e.1 ∙ ap (λ (x : Elt). x.block) same ∙ f.1

-- ---- tests

module _ (tests : TestsMembership) (gathers : Gathers) where
  decided : (b : BaseState) (ns : set.FinSet nat_cmp) (d : Datum) → Decides (has_datum d (members_at b ns)) (IsAt b ns d)
  decided b ns d = (is_at tests gathers b ns d, has_at tests gathers b ns d)

  pub tested_by_number : MembersAreTestedByNumber
  tested_by_number b ns d base = (
    λ e p. same_from_decides _ _ (decided b ns d) (λ c. (e.block, c, at_number b e d p), λ a. subst (λ n. set.contains ns n ≡ true) (one_number b base a.0 e.block d a.2 (at_number b e d p)) a.1),
    λ none. none_there (has_datum d (members_at b ns)) (λ h. let a = is_at tests gathers b ns d h in let e = handle_at b a.0 d a.2 in not_both (sym none ∙ base.found e.0 d e.2)),
  )
    where
      none_there : (t : Bool) → (t ≡ true → ⊥) → t ≡ false
      none_there true f = absurd (f refl)
      none_there false f = refl

  goes : (b : BaseState) → IsBase b → (ms ns : set.FinSet nat_cmp) → AreLiving b ms → members_at b ms ≡ members_at b ns → (n : ℕ) → set.contains ms n ≡ true → set.contains ns n ≡ true
  goes b base ms ns living same n c = by (value_at b n) refl (living n c)
    where
      by : (o : Option Datum) → value_at b n ≡ o → Rattle.std.specs.Option.IsSome o → set.contains ns n ≡ true
      by None p h = absurd (false≢true h)
      by (Some d) p h =
          let a = is_at tests gathers b ns d (ap (has_datum d) (sym same) ∙ has_at tests gathers b ms d (n, c, p)) in
          subst (λ k. set.contains ns k ≡ true) (one_number b base a.0 n d a.2 p) a.1

  pub equal_numbers : EqualSetsHaveEqualNumbers
  equal_numbers bs b x y ms ns base living alive same =
      let c = base_at bs b in
      let members : members_at c ms ≡ members_at c ns = sym (element_list-elements_of (members_at c ms)) ∙ ap elements same ∙ element_list-elements_of (members_at c ns) in
      set.same_set nat_cmp_total set.nat_cmp-IsAntisymmetric ms ns (λ n. agree _ _ (goes c base ms ns living.1 members n) (goes c base ns ms alive.1 (sym members) n))
    where
      elements : Option Datum → List Datum
      elements (Some (set es)) = element_list es
      elements o = []

-- ---- operations

module _ (alike : RisingListsAgree) (tests : TestsMembership) (gathers : Gathers) where
  has : (b : BaseState) (ns : set.FinSet nat_cmp) (d : Datum) → IsAt b ns d → Contains (members_at b ns) d
  has b ns d a = ((sets_have_their_members tests gathers b ns).members d).1 a

  at : (b : BaseState) (ns : set.FinSet nat_cmp) (d : Datum) → Contains (members_at b ns) d → IsAt b ns d
  at b ns d c = ((sets_have_their_members tests gathers b ns).members d).0 c

  rising : (b : BaseState) (ns : set.FinSet nat_cmp) → IsRising (members_at b ns)
  rising b ns = (sets_have_their_members tests gathers b ns).rising

  -- a set of numbers and a set whose members are those at them
  is_that : (b : BaseState) (ns : set.FinSet nat_cmp) (P : Datum → Type 0) (ds : List Datum) → IsSetOf P ds → ((d : Datum) → IsAt b ns d → P d) → ((d : Datum) → P d → IsAt b ns d) → members_at b ns ≡ ds
  is_that b ns P ds s f g =
      alike (members_at b ns) ds (rising b ns) s.rising (λ d. (λ c. (s.members d).1 (f d (at b ns d c)), λ c. has b ns d (g d ((s.members d).0 c))))

  pub unions : Unites → UnionsGoByNumber
  unions unites b ms ns =
      is_that b (set.union ms ns) _ _ (unites (members_at b ms) (members_at b ns))
      (λ d a. ⊎_elim (λ h. inl (has b ms d (a.0, h, a.2))) (λ h. inr (has b ns d (a.0, h, a.2))) (or_cases _ _ (sym (set.contains-union nat_cmp_total ms ns a.0) ∙ a.1)))
      (λ d c. ⊎_elim
      (λ h. let a = at b ms d h in (a.0, set.contains-union nat_cmp_total ms ns a.0 ∙ or_left _ _ a.1, a.2))
      (λ h. let a = at b ns d h in (a.0, set.contains-union nat_cmp_total ms ns a.0 ∙ or_right _ _ a.1, a.2)) c)

  pub meets : Intersects → MeetsGoByNumber
  meets intersects b ms ns base =
      is_that b (set.intersection ms ns) _ _ (intersects (members_at b ms) (members_at b ns) (rising b ms))
      (λ d a. let h = and_parts _ _ (sym (set.contains-intersection nat_cmp_total ms ns a.0) ∙ a.1) in (has b ms d (a.0, h.0, a.2), has b ns d (a.0, h.1, a.2)))
      (λ d c.
      let x = at b ms d c.0 in
      let y = at b ns d c.1 in
      let there : set.contains ns x.0 ≡ true = subst (λ n. set.contains ns n ≡ true) (one_number b base y.0 x.0 d y.2 x.2) y.1 in
      (x.0, set.contains-intersection nat_cmp_total ms ns x.0 ∙ and_from _ _ x.1 there, x.2))

  not_there : (t : Bool) → (t ≡ true → ⊥) → not t ≡ true
  not_there true f = absurd (f refl)
  not_there false f = refl

  isnt : (t : Bool) → not t ≡ true → t ≡ true → ⊥
  isnt true p q = false≢true p
  isnt false p q = false≢true q

  pub differences : Subtracts → DifferencesGoByNumber
  differences subtracts b ms ns base =
      is_that b (set.difference ms ns) _ _ (subtracts (members_at b ms) (members_at b ns) (rising b ms))
      (λ d a.
      let h = and_parts _ _ (sym (set.contains-difference nat_cmp_total ms ns a.0) ∙ a.1) in
      (has b ms d (a.0, h.0, a.2), λ c. let y = at b ns d c in isnt _ h.1 (subst (λ n. set.contains ns n ≡ true) (one_number b base y.0 a.0 d y.2 a.2) y.1)))
      (λ d c.
      let x = at b ms d c.0 in
      (x.0, set.contains-difference nat_cmp_total ms ns x.0 ∙ and_from _ _ x.1 (not_there _ (λ t. c.1 (has b ns d (x.0, t, x.2)))), x.2))

  pub symmetric_differences : Unites → Subtracts → SymmetricDifferencesGoByNumber
  symmetric_differences unites subtracts b ms ns base =
      unions unites b (set.difference ms ns) (set.difference ns ms)
      ∙ (λ i. union_of (differences subtracts b ms ns base i) (differences subtracts b ns ms base i))

  pub inserts_go : Inserts → InsertsGoByNumber
  inserts_go inserts b ns e d p =
      is_that b (set.insert ns e.block) _ _ (inserts d (members_at b ns) (rising b ns))
      (λ x a. ⊎_elim
      (λ h. inl (some_same (sym a.2 ∙ ap (value_at b) (same_number a.0 e.block h) ∙ at_number b e d p)))
      (λ h. inr (has b ns x (a.0, h, a.2))) (or_cases _ _ (sym (set.contains-insert nat_cmp_total ns e.block a.0) ∙ a.1)))
      (λ x c. ⊎_elim
      (λ h. (e.block, set.contains-insert nat_cmp_total ns e.block e.block ∙ or_left _ _ (same_numbers e.block e.block refl), at_number b e d p ∙ ap (λ y. Some y) (sym h)))
      (λ h. let a = at b ns x h in (a.0, set.contains-insert nat_cmp_total ns e.block a.0 ∙ or_right _ _ a.1, a.2)) c)
    where
      same_numbers : (n k : ℕ) → n ≡ k → eq_by_cmp nat_cmp n k ≡ true
      same_numbers n k h = grind (arith, nat_tests)

  pub removes_go : Removes → RemovesGoByNumber
  removes_go removes b ns e d base p =
      is_that b (set.remove ns e.block) _ _ (removes d (members_at b ns) (rising b ns))
      (λ x a.
      let h = and_parts _ _ (sym (set.contains-remove nat_cmp_total ns e.block a.0) ∙ a.1) in (
        has b ns x (a.0, h.1, a.2),
        λ same. isnt _ h.0 (same_numbers a.0 e.block (one_number b base a.0 e.block d (a.2 ∙ ap (λ y. Some y) same) (at_number b e d p))),
      ))
      (λ x c.
      let a = at b ns x c.0 in (
        a.0,
        set.contains-remove nat_cmp_total ns e.block a.0
            ∙ and_from _ _ (not_there _ (λ t. c.1 (some_same (sym a.2 ∙ ap (value_at b) (same_number a.0 e.block t) ∙ at_number b e d p)))) a.1,
        a.2,
      ))
    where
      same_numbers : (n k : ℕ) → n ≡ k → eq_by_cmp nat_cmp n k ≡ true
      same_numbers n k h = grind (arith, nat_tests)
