-- Members by their numbers, and how many there are.
use Rattle.std.proofs.Common.{◌≡◌, ℕ, suc, ◌+◌, Bool, true, false, ◌||◌, cond, List, [], ◌∷◌, Option, Some, None, length, refl, ap, sym, ◌∙◌, arith}
use Rattle.std.specs.Cmp.{nat_cmp_total}
use Rattle.std.specs.List.{AllByRecursion, list_any}
use Rattle.std.specs.List.Sorted.{IsStrictlySortedBy}
use Rattle.std.specs.Option.{IsSome}
use Rattle.std.specs.declared.cmp.Ordering.{Ordering}
use Rattle.std.specs.declared.cmp.Ordering.TheVariants.{Less, Equal, Greater}
use Rattle.std.specs.Ordering.{nat_cmp, eq_by_cmp, is_eq}
use Rattle.std.specs.FinSet as set
use Rattle.std.proofs.lemmas.Bool.{false≢true, or_left, or_right, or_cases}
use Rattle.setl_value.specs.Datum.{Datum}
use Rattle.setl_value.specs.Order.{datum_cmp, IsRising}
use Rattle.setl_value.specs.OrderLaws.{datum_cmp_total, eq_iff_same}
use Rattle.setl_set.specs.Sets.{has_datum, insert_datum, insert_by}
use Rattle.setl_base.specs.Base.{BaseState, IsBase}
use Rattle.setl_rep_forms.specs.Stands.{value_at, members_at}
use Rattle.setl_rep_forms.specs.Laws.{SetsHaveTheirMembers, MembersAreTestedByNumber, InsertsGoByNumber, RemovesGoByNumber, TestedAtNumber, InsertsAtNumber, RemovesAtNumber, CountsGoByNumber}
use Rattle.setl_rep_forms.proofs.Numbers.{handle_at}

pub tested_at : MembersAreTestedByNumber → TestedAtNumber
tested_at tested b ns d n base p = let e = handle_at b n d p in (tested b ns d base).0 e.0 e.2 ∙ ap (set.contains ns) e.1

pub inserts_at : InsertsGoByNumber → InsertsAtNumber
inserts_at inserts b ns d n p = let e = handle_at b n d p in ap (λ k. members_at b (set.insert ns k)) (sym e.1) ∙ inserts b ns e.0 d e.2

pub removes_at : RemovesGoByNumber → RemovesAtNumber
removes_at removes b ns d n base p = let e = handle_at b n d p in ap (λ k. members_at b (set.remove ns k)) (sym e.1) ∙ removes b ns e.0 d base e.2

-- ---- counts

itself : (d : Datum) → is_eq (datum_cmp d d) ≡ true
itself d = (eq_iff_same d d).1 refl

below_trans : (d e : Datum) (es : List Datum) → datum_cmp d e ≡ Less → AllByRecursion (λ y. datum_cmp e y ≡ Less) es → AllByRecursion (λ y. datum_cmp d y ≡ Less) es
below_trans d e [] p a = tt
below_trans d e (f ∷ es) p a = (datum_cmp_total.trans d e f p a.0, below_trans d e es p a.1)

none_above : (d : Datum) (ds : List Datum) → AllByRecursion (λ y. datum_cmp d y ≡ Less) ds → has_datum d ds ≡ false
none_above d [] a = refl
none_above d (e ∷ es) a = (λ i. is_eq (a.0 i) || none_above d es a.1 i)

length_insert : (d : Datum) (ds : List Datum) → IsRising ds → length (insert_datum d ds) ≡ cond (has_datum d ds) (length ds) (length ds + 1)
unfolding IsStrictlySortedBy
length_insert d [] r = refl
length_insert d (e ∷ es) r = by (datum_cmp d e) refl (length_insert d es r.1)
  where
    next : (t : Bool) (n m : ℕ) → m ≡ cond t n (n + 1) → suc m ≡ cond t (suc n) (suc n + 1)
    next true n m h = ap suc h
    next false n m h = omega (arith, h)

    by : (o : Ordering) → datum_cmp d e ≡ o → length (insert_datum d es) ≡ cond (has_datum d es) (length es) (length es + 1)
        → length (insert_by o d e es (insert_datum d es)) ≡ cond (is_eq o || has_datum d es) (suc (length es)) (suc (length es) + 1)
    by Less p h = let none = none_above d es (below_trans d e es p r.0) in let more : suc (suc (length es)) ≡ suc (length es) + 1 = omega arith in more ∙ ap (λ t. cond t (suc (length es)) (suc (length es) + 1)) (sym none)
    by Equal p h = refl
    by Greater p h = next (has_datum d es) (length es) (length (insert_datum d es)) h

of_items : (ns : set.FinSet nat_cmp) → set.from_list (set.items ns) ≡ ns
of_items ns = set.same_set nat_cmp_total set.nat_cmp-IsAntisymmetric (set.from_list (set.items ns)) ns (λ q. set.contains-from_list nat_cmp_total (set.items ns) q ∙ sym (set.contains-items ns q))

module _ (members : SetsHaveTheirMembers) (tested : TestedAtNumber) (inserts : InsertsAtNumber) where
  count_list : (b : BaseState) → IsBase b → length (members_at b set.empty) ≡ 0 → (ks : List ℕ) → ((n : ℕ) → list_any (eq_by_cmp nat_cmp n) ks ≡ true → IsSome (value_at b n)) → length (members_at b (set.from_list ks)) ≡ set.len (set.from_list {R = nat_cmp} ks)
  count_list b base start [] living = start ∙ sym (set.len-empty nat_cmp)
  count_list b base start (k ∷ ks) living =
      let s = set.from_list {R = nat_cmp} ks in
      let rest = count_list b base start ks (λ n c. living n (or_right (eq_by_cmp nat_cmp n k) (list_any (eq_by_cmp nat_cmp n) ks) c)) in
      by s rest (value_at b k) refl (living k (or_left (eq_by_cmp nat_cmp k k) (list_any (eq_by_cmp nat_cmp k) ks) (number_itself k)))
    where
      number_itself : (n : ℕ) → eq_by_cmp nat_cmp n n ≡ true
      number_itself n = grind (arith, Rattle.std.proofs.lemmas.Bool.Decides.nat_tests)

      by : (s : set.FinSet nat_cmp) → length (members_at b s) ≡ set.len s → (o : Option Datum) → value_at b k ≡ o → IsSome o → length (members_at b (set.insert s k)) ≡ set.len (set.insert s k)
      by s rest None p h = absurd (false≢true h)
      by s rest (Some d) p h =
          ap length (inserts b s d k p)
          ∙ length_insert d (members_at b s) (members b s).rising
          ∙ (λ i. cond (tested b s d k base p i) (rest i) (rest i + 1))
          ∙ sym (set.len-insert nat_cmp_total s k)

  no_members : (b : BaseState) → length (members_at b set.empty) ≡ 0
  no_members b = by (members_at b set.empty) (members b set.empty)
    where
      by : (ds : List Datum) → Rattle.setl_set.specs.Laws.IsSetOf (Rattle.setl_rep_forms.specs.Laws.IsAt b set.empty) ds → length ds ≡ 0
      by [] s = refl
      by (d ∷ ds) s = let a = (s.members d).0 (0, omega arith, refl) in absurd (false≢true (sym (set.contains-empty nat_cmp a.0) ∙ a.1))

  pub counts : CountsGoByNumber
  counts b ns base living =
      ap (λ s. length (members_at b s)) (sym (of_items ns))
      ∙ count_list b base (no_members b) (set.items ns) (λ n c. living n (set.contains-items ns n ∙ c))
      ∙ ap set.len (of_items ns)
