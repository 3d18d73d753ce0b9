-- What is read of bases after a change.
use Rattle.std.proofs.Common.{◌≡◌, ◌∙◌, ℕ, zero, suc, Bool, true, false, not, cond, ◌&&◌, ◌==◌, nat_eq, nat_lt, None, Some, refl, sym, ap, subst, arith}
use Rattle.std.specs.Bool.{if◌then◌else◌}
use Rattle.std.specs.Ordering.{nat_cmp, eq_by_cmp, is_eq}
use Rattle.std.specs.Cmp.{Equal-is, unsigned_tied, both_tied, tied_itself}
use Rattle.std.specs.FinMap as map
use Rattle.setl_rep_bases.specs.declared.BaseId.{BaseId}
use Rattle.setl_rep_bases.specs.BaseId.{id_cmp, is_id, main}
use Rattle.setl_rep_bases.specs.Bases.{instance_at, is_gone, fresh, main_instances}
use Rattle.setl_rep_bases.specs.Reading.{InstancesArePut, InstancesAreTaken, GoneAreTaken, MainInstancesAreFresh, NamesAreExact, BasesAgree}
use Rattle.setl_rep_bases.proofs.Ids.{id_total, same_id}

-- the order and `==` tell the same names apart
tied : (i j : BaseId) → eq_by_cmp id_cmp i j ≡ is_id i j
tied i j = sym (both_tied (nat_eq i.base j.base) (nat_eq i.instance j.instance) (nat_cmp i.base j.base) (nat_cmp i.instance j.instance) (sym (unsigned_tied i.base j.base)) (sym (unsigned_tied i.instance j.instance)))

pub names_are_exact : NamesAreExact
names_are_exact i j = (
  λ e. same_id i j ((Equal-is (id_cmp i j)).0 (tied i j ∙ e)),
  λ e. subst (λ k. is_id i k ≡ true) e (sym (tied i i) ∙ ap is_eq (tied_itself id_total i)),
)

pub instances_are_put : InstancesArePut
instances_are_put bs i x j = map.get-insert id_total bs.instances i x j ∙ ap (λ b. cond b (Some x) (instance_at bs j)) (tied j i)

pub instances_are_taken : InstancesAreTaken
instances_are_taken bs i j = map.get-remove id_total bs.instances i j ∙ ap (λ b. cond b None (instance_at bs j)) (tied j i)

turned : {A : Type 0} (b : Bool) (x y : A) → cond (not b) x y ≡ cond b y x
turned true x y = refl
turned false x y = refl

pub gone_are_taken : GoneAreTaken
gone_are_taken bs j =
    map.get-retain_keys bs.instances (λ k. not (is_gone bs k)) j (λ x e. ap (λ k. not (is_gone bs k)) (sym (same_id j x e)))
    ∙ turned (is_gone bs j) (instance_at bs j) None

-- one base more
one_more : (n b k : ℕ) → (if nat_eq b n && nat_eq k 0 then Some fresh else (if nat_lt b n && k == 0 then Some fresh else None)) ≡ (if nat_lt b (suc n) && k == 0 then Some fresh else None)
one_more n b k = by (nat_eq b n) (nat_eq k 0) (nat_lt b n) (nat_lt b (suc n)) (k == 0) zero_too more
  where
    zero_too : (k == 0) ≡ nat_eq k 0
    zero_too = grind (arith, Rattle.std.proofs.lemmas.Bool.Decides.nat_tests)

    more : nat_lt b (suc n) ≡ cond (nat_eq b n) true (nat_lt b n)
    more = grind (arith, Rattle.std.proofs.lemmas.Bool.Decides.nat_tests)

    none : (t : Bool) → (if t && false then Some fresh else None) ≡ None
    none true = refl
    none false = refl

    by : (e z l m o : Bool) → o ≡ z → m ≡ cond e true l → (if e && z then Some fresh else (if l && o then Some fresh else None)) ≡ (if m && o then Some fresh else None)
    by true true l m o p q = sym (λ i. if q i && p i then Some fresh else None)
    by true false l m o p q = (λ i. if l && p i then Some fresh else None) ∙ none l ∙ sym ((λ i. if m && p i then Some fresh else None) ∙ none m)
    by false z l m o p q = sym (λ i. if q i && o then Some fresh else None)

pub main_instances_are_fresh : MainInstancesAreFresh
main_instances_are_fresh zero j = map.get-empty id_cmp j ∙ none
  where
    none : None ≡ (if nat_lt j.base 0 && j.instance == 0 then Some fresh else None)
    none = grind (arith, Rattle.std.proofs.lemmas.Bool.Decides.nat_tests)
main_instances_are_fresh (suc n) j =
    map.get-insert id_total (main_instances n) (main n) fresh j
    ∙ (λ i. cond (tied j (main n) i) (Some fresh) (main_instances_are_fresh n j i))
    ∙ one_more n j.base j.instance

pub bases_agree : BasesAgree
bases_agree bs cs c h = let same = map.same_map id_total same_id bs.instances cs.instances h in λ k. record { count = c k; instances = same k }
