-- Which blocks each change of bases leaves.
use Rattle.std.proofs.Common.{◌≡◌, ◌∙◌, ℕ, zero, suc, Bool, true, false, cond, not, List, [], ◌∷◌, ◌++◌, take, slice_get, Option, None, Some, IsSome, refl, sym, ap, subst}
use Rattle.std.proofs.lemmas.Bool.{false≢true}
use Rattle.std.specs.Bool.{if◌then◌else◌}
use Rattle.std.specs.Cmp.{Equal-is}
use Rattle.std.specs.Ordering.{eq_by_cmp}
use Rattle.std.specs.Option.{option_map_or, is_some}
use Rattle.std.specs.FinMap as map
use Rattle.setl_base.specs.Base.{BaseState, Member, empty, member_at, cut_back, undone, find}
use Rattle.setl_rep_bases.specs.declared.BaseId.{BaseId}
use Rattle.setl_rep_bases.specs.declared.tables.Instance.{Instance}
use Rattle.setl_rep_bases.specs.BaseId.{id_cmp}
use Rattle.setl_rep_bases.specs.Bases.{BasesState, instance_at, base_at, is_gone, IsThere, with_instance, fresh, without, without_gone}
use Rattle.setl_rep_bases.specs.Keeping.{AreKept, EnteringKeepsMembers, EnteringKeepsBlocks, CutsKeepBlocks, InstancesKeepBlocks, RemovalsKeepBlocks}
use Rattle.setl_rep_bases.proofs.Ids.{id_total, same_id}

-- ---- one base

abbrev Keeps : BaseState → BaseState → Type 0
Keeps b c = (n : ℕ) (m : Member) → member_at b n ≡ Some m → member_at c n ≡ Some m

get_taken : {A : Type 0} (n : ℕ) (xs : List A) (i : ℕ) (x : A) → slice_get (take n xs) i ≡ Some x → slice_get xs i ≡ Some x
get_taken zero xs i x p = cc
get_taken (suc n) [] i x p = p
get_taken (suc n) (y ∷ ys) zero x p = p
get_taken (suc n) (y ∷ ys) (suc i) x p = get_taken n ys i x p

get_before : {A : Type 0} (xs : List A) (y : A) (i : ℕ) (x : A) → slice_get xs i ≡ Some x → slice_get (xs ++ y ∷ []) i ≡ Some x
get_before [] y i x p = cc
get_before (z ∷ zs) y zero x p = p
get_before (z ∷ zs) y (suc i) x p = get_before zs y i x p

undone_keeps : (b : BaseState) (n : ℕ) → Keeps (undone b n) b
undone_keeps b n zero m p = p
undone_keeps b n (suc i) m p = get_taken n b.members i m p

cut_keeps : (b : BaseState) (n : ℕ) → Keeps (cut_back b n) b
cut_keeps b n zero m p = p
cut_keeps b n (suc i) m p = get_taken n b.members i m p

longer : (t : Bool) (ms : List Member) (x m : Member) (i : ℕ) → slice_get ms i ≡ Some m → slice_get (if t then ms else ms ++ x ∷ []) i ≡ Some m
longer true ms x m i p = p
longer false ms x m i p = get_before ms x i m p

pub entered_keeps : EnteringKeepsMembers
entered_keeps b d zero m p = p
entered_keeps b d (suc i) m p = longer (is_some (find b d)) b.members (record { value = d; generation = b.cuts }) m i p

empty_keeps : (c : BaseState) → Keeps empty c
empty_keeps c zero m p = cc
empty_keeps c (suc i) m p = cc

-- ---- instances

-- an instance that is there is kept in what is there in the other
abbrev Holds : Option Instance → Option Instance → Type 0
Holds o p = (x : Instance) → o ≡ Some x → (y : Instance) × (p ≡ Some y) × Keeps x.base y.base

module _ (bs cs : BasesState) (h : (i : BaseId) → Holds (instance_at bs i) (instance_at cs i)) where
  there : (o p : Option Instance) → Holds o p → IsSome o → IsSome p
  there None p k t = absurd (false≢true t)
  there (Some x) p k t = let y = k x refl in subst (λ q. IsSome q) (sym y.1) t

  members : (o p : Option Instance) → Holds o p → (n : ℕ) (m : Member) → member_at (option_map_or (λ x. x.base) o empty) n ≡ Some m → member_at (option_map_or (λ x. x.base) p empty) n ≡ Some m
  members None p k n m e = empty_keeps (option_map_or (λ x. x.base) p empty) n m e
  members (Some x) p k n m e = let y = k x refl in subst (λ q. member_at (option_map_or (λ x. x.base) q empty) n ≡ Some m) (sym y.1) (y.2 n m e)

  kept : AreKept bs cs
  kept = record {
    there = λ i. there (instance_at bs i) (instance_at cs i) (h i);
    members = λ i. members (instance_at bs i) (instance_at cs i) (h i);
  }

itself : (o : Option Instance) → Holds o o
itself o x p = (x, p, λ n m e. e)

some_same : {A : Type 0} {x y : A} → Some x ≡ Some y → x ≡ y
some_same p = cc

none_is : {A : Type 0} {x : A} → None ≡ Some x → ⊥
none_is p = cc

same_name : (i j : BaseId) → eq_by_cmp id_cmp j i ≡ true → i ≡ j
same_name i j e = sym (same_id j i ((Equal-is (id_cmp j i)).0 e))

-- ---- another instance in the place of one

base_is : (o : Option Instance) (x : Instance) → o ≡ Some x → option_map_or (λ y. y.base) o empty ≡ x.base
base_is o x p = ap (λ q. option_map_or (λ y. y.base) q empty) p

-- one that keeps the blocks of the instance
with_more : (bs : BasesState) (i : BaseId) (y : Instance) → Keeps (base_at bs i) y.base → AreKept bs (with_instance bs i y)
with_more bs i y k = kept bs (with_instance bs i y) (λ j. subst (λ o. Holds (instance_at bs j) o) (sym (map.get-insert id_total bs.instances i y j)) (by j (eq_by_cmp id_cmp j i) refl))
  where
    by : (j : BaseId) (b : Bool) → eq_by_cmp id_cmp j i ≡ b → Holds (instance_at bs j) (cond b (Some y) (instance_at bs j))
    by j true e x p = (y, refl, subst (λ c. Keeps c y.base) (base_is (instance_at bs i) x (ap (instance_at bs) (same_name i j e) ∙ p)) k)
    by j false e x p = itself (instance_at bs j) x p

-- one whose blocks are kept in the instance
with_fewer : (bs : BasesState) (i : BaseId) (y : Instance) → IsThere bs i → Keeps y.base (base_at bs i) → AreKept (with_instance bs i y) bs
with_fewer bs i y t k = kept (with_instance bs i y) bs (λ j. subst (λ o. Holds o (instance_at bs j)) (sym (map.get-insert id_total bs.instances i y j)) (by j (eq_by_cmp id_cmp j i) refl))
  where
    old : (o : Option Instance) → instance_at bs i ≡ o → IsSome o → (z : Instance) × (instance_at bs i ≡ Some z) × Keeps y.base z.base
    old None p s = absurd (false≢true s)
    old (Some z) p s = (z, p, subst (λ c. Keeps y.base c) (base_is (instance_at bs i) z p) k)

    by : (j : BaseId) (b : Bool) → eq_by_cmp id_cmp j i ≡ b → Holds (cond b (Some y) (instance_at bs j)) (instance_at bs j)
    by j true e x p =
        let z = old (instance_at bs i) refl t in
        (z.0, ap (instance_at bs) (sym (same_name i j e)) ∙ z.1, subst (λ w. Keeps w.base z.0.base) (some_same p) z.2)
    by j false e x p = itself (instance_at bs j) x p

pub entering_keeps : EnteringKeepsBlocks
entering_keeps bs i d = with_more bs i _ (entered_keeps (base_at bs i) d)

pub cuts_keep : CutsKeepBlocks
cuts_keep bs i n t = (with_fewer bs i _ t (cut_keeps (base_at bs i) n), with_fewer bs i _ t (undone_keeps (base_at bs i) n))

pub instances_keep : InstancesKeepBlocks
instances_keep bs i = (λ none. with_more bs i fresh (nothing none), λ gone. with_more bs i _ (λ n m p. p))
  where
    nothing : instance_at bs i ≡ None → Keeps (base_at bs i) empty
    nothing none = subst (λ o. Keeps (option_map_or (λ x. x.base) o empty) empty) (sym none) (λ n m p. p)

-- ---- instances that are taken out

-- where each is taken out or left
some_out : (bs cs : BasesState) (f : BaseId → Bool) → ((j : BaseId) → instance_at cs j ≡ cond (f j) (instance_at bs j) None) → AreKept cs bs
some_out bs cs f h = kept cs bs (λ j. subst (λ o. Holds o (instance_at bs j)) (sym (h j)) (by (f j) (instance_at bs j)))
  where
    by : (b : Bool) (o : Option Instance) → Holds (cond b o None) o
    by true o x p = itself o x p
    by false o x p = absurd (none_is p)

turned : {A : Type 0} (b : Bool) (x y : A) → cond b x y ≡ cond (not b) y x
turned true x y = refl
turned false x y = refl

pub removals_keep : RemovalsKeepBlocks
removals_keep bs = (
  λ i. some_out bs (without bs i) (λ j. not (eq_by_cmp id_cmp j i)) (λ j. map.get-remove id_total bs.instances i j ∙ turned (eq_by_cmp id_cmp j i) None (instance_at bs j)),
  some_out bs (without_gone bs) (λ j. not (is_gone bs j)) (λ j. map.get-retain_keys bs.instances (λ k. not (is_gone bs k)) j (λ x e. ap (λ k. not (is_gone bs k)) (sym (same_id j x e)))),
)
