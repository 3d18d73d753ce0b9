-- Sets of numbers under construction.
use Rattle.std.proofs.Common.{◌≡◌, ℕ, Bool, true, false, ◌||◌, cond, List, [], ◌∷◌, Option, Some, None, option_and_then, ⊎_elim, refl, ap, sym, ◌∙◌, subst, arith}
use Rattle.std.specs.Bool.{Decides}
use Rattle.std.specs.Cmp.{nat_cmp_total}
use Rattle.std.specs.Option.{option_map, IsSome}
use Rattle.std.specs.Ordering.{nat_cmp, eq_by_cmp, is_eq}
use Rattle.std.specs.FinSet as set
use Rattle.std.proofs.lemmas.Bool.{false≢true, or_left, or_right, or_cases}
use Rattle.std.proofs.lemmas.Bool.Decides.{nat_tests, same_from_decides}
use Rattle.setl_value.specs.Datum.{Datum, element_list-elements_of}
use Rattle.setl_value.specs.WellFormed.{IsSetList}
use Rattle.setl_value.specs.Order.{datum_cmp, IsRising}
use Rattle.setl_value.specs.OrderLaws.{same_if_eq, eq_iff_same}
use Rattle.setl_set.specs.Sets.{has_datum}
use Rattle.setl_set.specs.Laws.{RisingListsAgree, TestsMembership}
use Rattle.setl_base.specs.declared.Elt.{Elt}
use Rattle.setl_base.specs.Base.{BaseState, Member, member_at, value_in, value_of}
use Rattle.setl_rep_forms.specs.Stands.{value_at, members_at, AreLiving}
use Rattle.setl_rep_forms.specs.Laws.{IsAt, SetsHaveTheirMembers}
use Rattle.setl_rep_based.specs.Found.{AreFound}

some_same : {A : Type 0} {x y : A} → Some x ≡ Some y → x ≡ y
some_same p = cc

not_both : {A : Type 0} {x : A} → None ≡ Some x → ⊥
not_both p = cc

agree : (a b : Bool) → (a ≡ true → b ≡ true) → (b ≡ true → a ≡ true) → a ≡ b
agree a b f g = same_from_decides a b (f, g) (λ p. p, λ p. p)

same_number : (n k : ℕ) → eq_by_cmp nat_cmp n k ≡ true → n ≡ k
same_number n k h = grind (arith, nat_tests)

number_itself : (n : ℕ) → eq_by_cmp nat_cmp n n ≡ true
number_itself n = grind (arith, nat_tests)

or_moves : (a b c : Bool) → ((a || b) || c) ≡ (a || (b || c))
or_moves true b c = refl
or_moves false b c = refl

or_none : (a : Bool) → (a || false) ≡ a
or_none true = refl
or_none false = refl

pub at_number : (b : BaseState) (e : Elt) (d : Datum) → value_of b e ≡ Some d → value_at b e.block ≡ Some d
at_number b e d p = by (member_at b e.block) p
  where
    if_so : (t : Bool) (x : Datum) → cond t (Some x) None ≡ Some d → Some x ≡ Some d
    if_so true x q = q
    if_so false x q = absurd (not_both q)

    by : (o : Option Member) → option_and_then (value_in e.generation) o ≡ Some d → option_map (λ m. m.value) o ≡ Some d
    by None q = absurd (not_both q)
    by (Some m) q = if_so _ m.value q

-- the numbers of the members of `all` that don't come any more
pub record IsBuilt (b : BaseState) (ns : set.FinSet nat_cmp) (rest all : List Datum) : Type 0 where
  pub members : (d : Datum) → (has_datum d (members_at b ns) || has_datum d rest) ≡ has_datum d all
  pub found : AreFound b rest
  pub living : AreLiving b ns

module _ (tests : TestsMembership) (members : SetsHaveTheirMembers) where
  decided : (b : BaseState) (ns : set.FinSet nat_cmp) (d : Datum) → Decides (has_datum d (members_at b ns)) (IsAt b ns d)
  decided b ns d =
      (λ h. ((members b ns).members d).0 ((tests d (members_at b ns)).0 h), λ a. (tests d (members_at b ns)).1 (((members b ns).members d).1 a))

  nothing : (b : BaseState) (d : Datum) → has_datum d (members_at b set.empty) ≡ false
  nothing b d = agree (has_datum d (members_at b set.empty)) false (λ h. let a = (decided b set.empty d).0 h in absurd (false≢true (sym (set.contains-empty nat_cmp a.0) ∙ a.1))) (λ h. absurd (false≢true h))

  pub starts : (b : BaseState) (ns : set.FinSet nat_cmp) (all : List Datum) → ns ≡ set.empty → AreFound b all → IsBuilt b ns all all
  starts b ns all e f = subst (λ n. IsBuilt b n all all) (sym e) (record {
    members = λ d. ap (λ t. t || has_datum d all) (nothing b d);
    found = f;
    living = λ n c. absurd (false≢true (sym (set.contains-empty nat_cmp n) ∙ c));
  })

  one_more : (b : BaseState) (ns : set.FinSet nat_cmp) (e : Elt) (d x : Datum) → value_of b e ≡ Some d → has_datum x (members_at b (set.insert ns e.block)) ≡ (has_datum x (members_at b ns) || is_eq (datum_cmp x d))
  one_more b ns e d x p =
      let q = at_number b e d p in
      agree _ _
      (λ h.
      let a = (decided b (set.insert ns e.block) x).0 h in
      ⊎_elim
      (λ s. or_right (has_datum x (members_at b ns)) _ ((eq_iff_same x d).1 (some_same (sym a.2 ∙ ap (value_at b) (same_number a.0 e.block s) ∙ q))))
      (λ c. or_left _ (is_eq (datum_cmp x d)) ((decided b ns x).1 (a.0, c, a.2)))
      (or_cases _ _ (sym (set.contains-insert nat_cmp_total ns e.block a.0) ∙ a.1)))
      (λ h. ⊎_elim
      (λ c. let a = (decided b ns x).0 c in (decided b (set.insert ns e.block) x).1 (a.0, set.contains-insert nat_cmp_total ns e.block a.0 ∙ or_right _ _ a.1, a.2))
      (λ s. (decided b (set.insert ns e.block) x).1 (e.block, set.contains-insert nat_cmp_total ns e.block e.block ∙ or_left _ _ (number_itself e.block), q ∙ ap (λ y. Some y) (sym (same_if_eq x d s))))
      (or_cases _ _ h))

  pub steps : (b : BaseState) (ns ms : set.FinSet nat_cmp) (e : Elt) (d : Datum) (rest all : List Datum) → ms ≡ set.insert ns e.block → value_of b e ≡ Some d → IsBuilt b ns (d ∷ rest) all → IsBuilt b ms rest all
  steps b ns ms e d rest all s p h = subst (λ n. IsBuilt b n rest all) (sym s) (record {
    members = λ x. ap (λ t. t || has_datum x rest) (one_more b ns e d x p) ∙ or_moves (has_datum x (members_at b ns)) (is_eq (datum_cmp x d)) (has_datum x rest) ∙ h.members x;
    found = h.found.1;
    living = λ n c. ⊎_elim
        (λ t. subst (λ k. IsSome (value_at b k)) (sym (same_number n e.block t)) (subst (λ o. IsSome o) (sym (at_number b e d p)) refl))
        (λ t. h.living n t)
        (or_cases _ _ (sym (set.contains-insert nat_cmp_total ns e.block n) ∙ c));
  })

  pub ends : RisingListsAgree → (b : BaseState) (ns : set.FinSet nat_cmp) (rest all : List Datum) → rest ≡ [] → IsRising all → IsBuilt b ns rest all → members_at b ns ≡ all
  ends alike b ns rest all e r h =
      let same : (d : Datum) → has_datum d (members_at b ns) ≡ has_datum d all = λ d. sym (or_none _) ∙ ap (λ l. has_datum d (members_at b ns) || has_datum d l) (sym e) ∙ h.members d in
      alike (members_at b ns) all (members b ns).rising r (λ d. (
        λ c. (tests d all).0 (sym (same d) ∙ (tests d (members_at b ns)).1 c),
        λ c. (tests d (members_at b ns)).0 (same d ∙ (tests d all).1 c),
      ))

-- the members of a set rise
pub rising_members : (ds : List Datum) → IsSetList ds → IsRising ds
rising_members ds v = subst (λ l. IsRising l) (element_list-elements_of ds) v.0.1
