-- Iterators that are dropped.
use Rattle.std.proofs.Common.{◌≡◌, ℕ, zero, suc, ◌+◌, ◌-◌, ◌<◌, ◌≤◌, Bool, true, false, List, [], ◌∷◌, length, drop, refl, sym, ap, ◌∙◌, arith, Some, None}
use Rattle.std.specs.Prelude.{is_some}
use Rattle.setl_model.specs.Core.{Item}
use Rattle.setl_code.specs.declared.code.Code.{Code}
use Rattle.setl_code.specs.CodeCore as core
use Rattle.setl_code.specs.CodeCore.{value_of, without_iterators}
use Rattle.setl_rep_bases.specs.Bases.{BasesState}
use Rattle.setl_store_operands.specs.declared.cells.Member.{Member}
use Rattle.setl_store_operands.specs.declared.cells.Operand.{Operand}
use Rattle.setl_store_operands.specs.declared.cells.Operand.TheVariants as operand
use Rattle.setl_store_operands.specs.Operands.{iterator_by, operand_of}
use Rattle.setl_store.specs.Standing.{Standing}
use Rattle.setl_store.specs.declared.cells.Kept.{Kept}
use Rattle.setl_store.specs.Flat.{Here, stands}
use Rattle.setl_store.proofs.Lists.{some_same}
use Rattle.setl_store.proofs.OperandLists.{lowest_of, on_top_counted}

-- ---- operands

dropped_by : (pairs : Bool) (left : List Item) (xs : List core.Operand) → without_iterators 1 (iterator_by pairs left ∷ xs) ≡ Some xs
dropped_by true left xs = refl
dropped_by false left xs = refl

one_dropped : (bs : BasesState) (ms : List Member) (o : Operand) (xs : List core.Operand) → is_some (value_of (operand_of bs ms o)) ≡ false → without_iterators 1 (operand_of bs ms o ∷ xs) ≡ Some xs
one_dropped bs ms operand.Om xs e = absurd (cc)
one_dropped bs ms (operand.Value v) xs e = absurd (cc)
one_dropped bs ms (operand.Based f) xs e = absurd (cc)
one_dropped bs ms (operand.Iterator i) xs e = dropped_by i.pairs i.left xs
one_dropped bs ms (operand.Collection what lowest count) xs e = absurd (cc)

none_dropped : (o : core.Operand) (xs : List core.Operand) → is_some (value_of o) ≡ true → without_iterators 1 (o ∷ xs) ≡ None
none_dropped (core.Result v) xs e = refl
none_dropped (core.Iterator items) xs e = absurd (cc)
none_dropped (core.PairIterator items) xs e = absurd (cc)
none_dropped (core.Collecting what got) xs e = refl

one_more_off : (n : ℕ) (old new : List core.Operand) → without_iterators 1 old ≡ Some new → without_iterators (suc n) old ≡ without_iterators n new
one_more_off n [] new e = absurd (cc)
one_more_off n (core.Result v ∷ xs) new e = absurd (cc)
one_more_off n (core.Iterator items ∷ xs) new e = ap (without_iterators n) (some_same xs new e)
one_more_off n (core.PairIterator items ∷ xs) new e = ap (without_iterators n) (some_same xs new e)
one_more_off n (core.Collecting what got ∷ xs) new e = absurd (cc)

no_more_off : (n : ℕ) (xs : List core.Operand) → without_iterators 1 xs ≡ None → without_iterators (suc n) xs ≡ None
no_more_off n [] e = refl
no_more_off n (core.Result v ∷ xs) e = refl
no_more_off n (core.Iterator items ∷ xs) e = absurd (cc)
no_more_off n (core.PairIterator items ∷ xs) e = absurd (cc)
no_more_off n (core.Collecting what got ∷ xs) e = refl

-- after i of n
dropped_more : (n i : ℕ) (old new : List core.Operand) → i < n → without_iterators 1 old ≡ Some new → without_iterators (n - i) old ≡ without_iterators (n - (i + 1)) new
dropped_more n i old new l e =
    let less : n - i ≡ suc (n - (i + 1)) = omega (arith, l) in
    ap (λ k. without_iterators k old) less ∙ one_more_off (n - (i + 1)) old new e

dropped_end : (n i : ℕ) (xs : List core.Operand) → i < n → without_iterators 1 xs ≡ None → without_iterators (n - i) xs ≡ None
dropped_end n i xs l e =
    let less : n - i ≡ suc (n - (i + 1)) = omega (arith, l) in
    ap (λ k. without_iterators k xs) less ∙ no_more_off (n - (i + 1)) xs e

-- fewer are there
few : (n : ℕ) (xs : List core.Operand) → length xs < n → without_iterators n xs ≡ None
few zero xs h = absurd (omega (arith, h))
few (suc n) [] h = refl
few (suc n) (core.Result v ∷ xs) h = refl
few (suc n) (core.Iterator items ∷ xs) h = few n xs (omega (arith, h))
few (suc n) (core.PairIterator items ∷ xs) h = few n xs (omega (arith, h))
few (suc n) (core.Collecting what got ∷ xs) h = refl

-- as many are there as were dropped
pub enough_off : (n : ℕ) (xs ys : List core.Operand) → without_iterators n xs ≡ Some ys → n ≤ length xs
enough_off zero xs ys e = omega arith
enough_off (suc n) [] ys e = absurd (cc)
enough_off (suc n) (core.Result v ∷ xs) ys e = absurd (cc)
enough_off (suc n) (core.Iterator items ∷ xs) ys e = omega (arith, enough_off n xs ys e)
enough_off (suc n) (core.PairIterator items ∷ xs) ys e = omega (arith, enough_off n xs ys e)
enough_off (suc n) (core.Collecting what got ∷ xs) ys e = absurd (cc)

-- ---- a store

pub few_left : (code : Code) (bs : BasesState) (at : ℕ) (e : Here) (kept : List (Here × Kept)) (s : Standing) → stands code bs at e kept ≡ s →
    (size low n : ℕ) → size ≡ length e.operands → low ≡ lowest_of e → size - low < n → without_iterators n s.core.now.operands ≡ None
few_left code bs at e kept s is size low n long lowest less = few n s.core.now.operands (omega (arith, less, on_top_counted code bs at e kept s is, long, lowest))

-- the k-th from the top is none
pub one_off : (bs : BasesState) (n k : ℕ) (ms : List Member) (o : Operand) (xs : List core.Operand) → k < n → drop k xs ≡ operand_of bs ms o ∷ drop (k + 1) xs → ((cs : BasesState) (ns : List Member) → false ≡ is_some (value_of (operand_of cs ns o))) →
    without_iterators (n - k) (drop k xs) ≡ without_iterators (n - (k + 1)) (drop (k + 1) xs)
one_off bs n k ms o xs l there none =
    dropped_more n k (drop k xs) (drop (k + 1) xs) l (ap (without_iterators 1) there ∙ one_dropped bs ms o (drop (k + 1) xs) (sym (none bs ms)))

pub none_off : (bs : BasesState) (n k : ℕ) (ms : List Member) (o : Operand) (xs : List core.Operand) → k < n → drop k xs ≡ operand_of bs ms o ∷ drop (k + 1) xs → ((cs : BasesState) (ns : List Member) → true ≡ is_some (value_of (operand_of cs ns o))) →
    without_iterators (n - k) (drop k xs) ≡ None
none_off bs n k ms o xs l there some =
    dropped_end n k (drop k xs) l (ap (without_iterators 1) there ∙ none_dropped (operand_of bs ms o) (drop (k + 1) xs) (sym (some bs ms)))
