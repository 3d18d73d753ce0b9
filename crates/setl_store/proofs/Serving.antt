-- Operands that serve as values, whose members are there.
use Rattle.std.proofs.Common.{◌≡◌, ℕ, zero, suc, ◌+◌, ◌-◌, ◌<◌, ◌≤◌, Bool, true, false, List, [], ◌∷◌, ◌++◌, length, drop, reverse, get_or, map, refl, sym, ap, ◌∙◌, subst, arith, Option, Some}
use Rattle.std.specs.Prelude.{slice_get, is_some, IsSome, ◌&&◌}
use Rattle.std.specs.Option.{option_map}
use Rattle.setl_value.specs.declared.Value.{Value}
use Rattle.setl_value.specs.code.DatumOf.{part}
use Rattle.setl_program.specs.declared.kinds.Collection.{Collection}
use Rattle.setl_model.specs.Core.{Item}
use Rattle.setl_code.specs.declared.code.Code.{Code}
use Rattle.setl_code.specs.Code as plain
use Rattle.setl_code.specs.CodeCore as core
use Rattle.setl_code.specs.CodeCore.{value_of, popped}
use Rattle.setl_code.specs.Plain.{plain_code}
use Rattle.setl_rep_bases.specs.Bases.{BasesState}
use Rattle.setl_store_operands.specs.declared.cells.Member.{Member}
use Rattle.setl_store_operands.specs.declared.cells.Operand.{Operand}
use Rattle.setl_store_operands.specs.declared.cells.Operand.TheVariants as operand
use Rattle.setl_store_operands.specs.Operands.{IsOperandOver, HasMembers, Serves, iterator_by, members_below, operand_of}
use Rattle.setl_store.specs.Standing.{Standing, top_of}
use Rattle.setl_store.specs.declared.cells.Kept.{Kept}
use Rattle.setl_store.specs.Flat.{Here, stands, AllGot, GotThese, IsSound}
use Rattle.setl_store.specs.HasValues.{has_values}
use Rattle.setl_store.proofs.Lists.{some_same}
use Rattle.setl_store.proofs.OperandLists.{below_within, has_below, lowest_of, on_top_counted, some_below}
use Rattle.setl_store.proofs.Popping.{top_there}
use Rattle.setl_store.proofs.StandingOperands.{over_at}
use Rattle.setl_store.proofs.Slots.{slice_get_map}
use Rattle.setl_store.proofs.HasValues.{at_from_top, from_top, popped_more}

-- its members are among so many
abbrev Within : Operand → ℕ → Type 0
Within operand.Om n = Unit {0}
Within (operand.Value v) n = Unit {0}
Within (operand.Based f) n = Unit {0}
Within (operand.Iterator i) n = Unit {0}
Within (operand.Collection what lowest count) n = lowest + count ≤ n

within_more : (o : Operand) (n m : ℕ) → Within o n → n ≤ m → Within o m
within_more operand.Om n m h l = tt
within_more (operand.Value v) n m h l = tt
within_more (operand.Based f) n m h l = tt
within_more (operand.Iterator i) n m h l = tt
within_more (operand.Collection what lowest count) n m h l = omega (arith, h, l)

within_first : (o : Operand) (os : List Operand) (n : ℕ) → HasMembers (o ∷ os) n → Within o n
within_first operand.Om os n h = tt
within_first (operand.Value v) os n h = tt
within_first (operand.Based f) os n h = tt
within_first (operand.Iterator i) os n h = tt
within_first (operand.Collection what lowest count) os n h = omega (arith, h.0)

first_same : {A : Type 0} (x y : A) (xs ys : List A) → x ∷ xs ≡ y ∷ ys → x ≡ y
first_same x y xs ys e = ap (λ l. get_or l 0 x) e

within : (os : List Operand) (k n : ℕ) (o : Operand) (rest : List Operand) → HasMembers os n → drop k os ≡ o ∷ rest → Within o n
within [] zero n o rest h e = absurd (cc)
within [] (suc k) n o rest h e = absurd (cc)
within (x ∷ os) zero n o rest h e = subst (λ p. Within p n) (first_same x o os rest e) (within_first x os n h)
within (x ∷ os) (suc k) n o rest h e = within_more o (members_below x n) n (within os k (members_below x n) o rest (has_below x os n h) e) (below_within x os n h)

got_at_place : (xs : List core.Operand) (i : ℕ) (x : core.Operand) → AllGot xs → Some x ≡ slice_get xs i → GotThese x
got_at_place [] i x a e = absurd (cc)
got_at_place (y ∷ ys) zero x a e = subst GotThese (some_same y x (sym e)) a.0
got_at_place (y ∷ ys) (suc i) x a e = got_at_place ys i x a.1 e

no_iterator : (pairs : Bool) (left : List Item) → is_some (value_of (iterator_by pairs left)) ≡ true → ⊥
no_iterator true left e = cc
no_iterator false left e = cc

serves_by : (bs : BasesState) (ms : List Member) (o : Operand) → is_some (value_of (operand_of bs ms o)) ≡ true → Within o (length ms) → GotThese (operand_of bs ms o) → IsOperandOver bs o → Serves bs ms o
serves_by bs ms operand.Om some in_them got stands = tt
serves_by bs ms (operand.Value v) some in_them got stands = tt
serves_by bs ms (operand.Based f) some in_them got stands = stands
serves_by bs ms (operand.Iterator i) some in_them got stands = absurd (no_iterator i.pairs i.left some)
serves_by bs ms (operand.Collection what lowest count) some in_them got stands = (in_them, got)

-- the k-th from the top
pub serves_at : (c : plain.Code) (bs : BasesState) (e : Here) (k : ℕ) (o : Operand) → IsSound c bs e → k < length e.operands → Some o ≡ slice_get e.operands (length e.operands - 1 - k) →
    is_some (value_of (operand_of bs e.members o)) ≡ true → Serves bs e.members o
serves_at c bs e k o h there is some =
    let f = operand_of bs e.members in
    serves_by bs e.members o some
    (within (reverse e.operands) k (length e.members) o (drop (k + 1) (reverse e.operands)) h.members (from_top e.operands 0 k o (omega (arith, there)) is))
    (got_at_place (map f e.operands) (length e.operands - 1 - k) (f o) h.got (slice_get_map f e.operands (length e.operands - 1 - k) o is))
    (over_at bs e.operands (length e.operands - 1 - k) o h.operands is)

-- a collection on top
module _ (code : Code) (bs : BasesState) (at : ℕ) (e : Here) (kept : List (Here × Kept)) (s : Standing) (h : IsSound (plain_code code) bs e) (is : stands code bs at e kept ≡ s) (some : IsSome (top_of s.core.now.operands))
    (size : ℕ) (long : size ≡ length e.operands) (o : Operand) (there : Some o ≡ slice_get e.operands (size - 1)) (what : Collection) (lowest count : ℕ) (made : o ≡ operand.Collection what lowest count) where
  pub collection_serves : Serves bs e.members o
  collection_serves =
      serves_at (plain_code code) bs e 0 o h (omega (arith, some_below code bs at e kept s is (top_there s.core.now.operands some)))
      (there ∙ ap (slice_get e.operands) {x = size - 1} {y = length e.operands - 1 - 0} (omega (arith, long)))
      (ap (λ p. is_some (value_of (operand_of bs e.members p))) made)

  pub collection_within : lowest ≤ length e.members
  collection_within = omega (arith, (subst (Serves bs e.members) made collection_serves).0)

-- ---- so many of them

left : (a b : Bool) → (a && b) ≡ true → a ≡ true
left true b e = refl
left false b e = e

right : (a b : Bool) → (a && b) ≡ true → b ≡ true
right true b e = e
right false b e = absurd (cc)

pub enough : (n : ℕ) (xs : List core.Operand) → has_values n xs ≡ true → n ≤ length xs
enough zero xs e = omega arith
enough (suc n) [] e = absurd (cc)
enough (suc n) (o ∷ xs) e = omega (arith, enough n xs (right (is_some (value_of o)) (has_values n xs) e))

some_at : (n k : ℕ) (xs : List core.Operand) (o : core.Operand) (rest : List core.Operand) → k < n → has_values n xs ≡ true → drop k xs ≡ o ∷ rest → is_some (value_of o) ≡ true
some_at zero k xs o rest l e d = absurd (omega (arith, l))
some_at (suc n) k [] o rest l e d = absurd (cc)
some_at (suc n) zero (x ∷ xs) o rest l e d = ap (λ y. is_some (value_of y)) (sym (first_same x o xs rest d)) ∙ left (is_some (value_of x)) (has_values n xs) e
some_at (suc n) (suc k) (x ∷ xs) o rest l e d = some_at n k xs o rest (omega (arith, l)) (right (is_some (value_of x)) (has_values n xs) e) d

-- the k-th of n results on top
module _ (code : Code) (bs : BasesState) (at : ℕ) (e : Here) (kept : List (Here × Kept)) (s : Standing) (h : IsSound (plain_code code) bs e) (is : stands code bs at e kept ≡ s)
    (size n k : ℕ) (o : Operand) (long : size ≡ length e.operands) (l : k < n) (all : has_values n s.core.now.operands ≡ true) (there : Some o ≡ slice_get e.operands (size - 1 - k)) where
  pub top_at : drop k s.core.now.operands ≡ operand_of bs e.members o ∷ drop (k + 1) s.core.now.operands
  top_at = at_from_top code bs at e kept s h is size (lowest_of e) k o long refl (omega (arith, l, long, enough n s.core.now.operands all, on_top_counted code bs at e kept s is)) there

  pub top_serves : Serves bs e.members o
  top_serves =
      serves_at (plain_code code) bs e k o h (omega (arith, l, enough n s.core.now.operands all, on_top_counted code bs at e kept s is)) (there ∙ ap (λ m. slice_get e.operands (m - 1 - k)) long)
      (some_at n k s.core.now.operands (operand_of bs e.members o) (drop (k + 1) s.core.now.operands) l all top_at)

  pub one_more_copied : (vs : List (Option Value)) (v : Option Value) → value_of (operand_of bs e.members o) ≡ Some (part v) →
      popped (n - k) (reverse (map part vs)) (drop k s.core.now.operands) ≡ popped (n - (k + 1)) (reverse (map part (vs ++ v ∷ []))) (drop (k + 1) s.core.now.operands)
  one_more_copied vs v serves =
      popped_more n k vs v (drop k s.core.now.operands) (drop (k + 1) s.core.now.operands) l
      (ap top_of top_at ∙ ap (option_map (λ w. (w, drop (k + 1) s.core.now.operands))) serves)

-- as many are there
pub values_there : (code : Code) (bs : BasesState) (at : ℕ) (e : Here) (kept : List (Here × Kept)) (s : Standing) → stands code bs at e kept ≡ s → (n : ℕ) → has_values n s.core.now.operands ≡ true → n ≤ length e.operands
values_there code bs at e kept s is n all = omega (arith, enough n s.core.now.operands all, on_top_counted code bs at e kept s is)
