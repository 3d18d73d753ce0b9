-- So many results taken off.
use Rattle.std.proofs.Common.{◌≡◌, ℕ, zero, suc, ◌+◌, ◌-◌, ◌<◌, Bool, true, false, List, [], ◌∷◌, ◌++◌, length, drop, map, reverse, get_or, refl, sym, ap, ◌∙◌, subst, arith, Option, Some, None}
use Rattle.std.specs.Prelude.{slice_get, is_some, ◌&&◌}
use Rattle.std.specs.Option.{option_map}
use Rattle.std.proofs.Math.Seq.{drop-cons}
use Rattle.std.proofs.lemmas.List.{get_or-reverse, get_or-drop, length-drop, length-map, length-reverse, map-append, reverse-append}
use Rattle.setl_value.specs.declared.Value.{Value}
use Rattle.setl_value.specs.Datum.{Datum}
use Rattle.setl_value.specs.code.DatumOf.{part}
use Rattle.setl_code.specs.declared.code.Code.{Code}
use Rattle.setl_code.specs.Plain.{plain_code}
use Rattle.setl_code.specs.CodeCore as core
use Rattle.setl_code.specs.CodeCore.{Pops, Lacks, value_of, pop_before, popped}
use Rattle.setl_rep_bases.specs.Bases.{BasesState}
use Rattle.setl_store.specs.declared.cells.Frame.{Frame}
use Rattle.setl_store_operands.specs.declared.cells.Operand.{Operand}
use Rattle.setl_store.specs.Standing.{Standing, top_of}
use Rattle.setl_store.specs.declared.cells.Kept.{Kept}
use Rattle.setl_store_operands.specs.Operands.{operand_of}
use Rattle.setl_store.specs.Flat.{Here, operands_in, lowest_in, stands, results, IsSound}
use Rattle.setl_store.specs.HasValues.{has_values}
use Rattle.setl_store.proofs.Lists.{some_same}
use Rattle.setl_store.proofs.OperandLists.{lowest_of, now_counted, now_is}
use Rattle.setl_store.proofs.Slots.{slice_get_map}

-- ---- popping

step_by : (n : ℕ) (vs : List (Option Datum)) (w : Option (Option Datum)) (xs : List core.Operand) (v : Option Datum) (rest : List core.Operand) →
    option_map {U = Option Datum × List core.Operand} (λ u. (u, xs)) w ≡ Some (v, rest) → pop_before w (λ u. popped n (u ∷ vs) xs) ≡ popped n (v ∷ vs) rest
step_by n vs None xs v rest e = absurd (cc)
step_by n vs (Some u) xs v rest e = ap (λ (p : Option Datum × List core.Operand). popped n (p.0 ∷ vs) p.1) (some_same (u, xs) (v, rest) e)

popped_step : (n : ℕ) (vs : List (Option Datum)) (xs : List core.Operand) (v : Option Datum) (rest : List core.Operand) → top_of xs ≡ Some (v, rest) → popped (suc n) vs xs ≡ popped n (v ∷ vs) rest
popped_step n vs [] v rest e = absurd (cc)
popped_step n vs (o ∷ xs) v rest e = step_by n vs (value_of o) xs v rest e

pub popped_more : (n i : ℕ) (vs : List (Option Value)) (v : Option Value) (old new : List core.Operand) → i < n → top_of old ≡ Some (part v, new) →
    popped (n - i) (reverse (map part vs)) old ≡ popped (n - (i + 1)) (reverse (map part (vs ++ v ∷ []))) new
popped_more n i vs v old new l e =
    let less : n - i ≡ suc (n - (i + 1)) = omega (arith, l) in
    let more : reverse (map part (vs ++ v ∷ [])) ≡ part v ∷ reverse (map part vs) = ap reverse (map-append part vs (v ∷ [])) ∙ reverse-append (map part vs) (part v ∷ []) in
    ap (λ k. popped k (reverse (map part vs)) old) less
    ∙ popped_step (n - (i + 1)) (reverse (map part vs)) old (part v) new e
    ∙ ap (λ l. popped (n - (i + 1)) l new) (sym more)

-- ---- whether there are so many

lacks_by : (n : ℕ) (vs : List (Option Datum)) (w : Option (Option Datum)) (xs : List core.Operand) → ((us : List (Option Datum)) → has_values n xs ≡ false → popped n us xs ≡ Lacks) →
    (is_some w && has_values n xs) ≡ false → pop_before w (λ v. popped n (v ∷ vs) xs) ≡ Lacks
lacks_by n vs None xs rest e = refl
lacks_by n vs (Some v) xs rest e = rest (v ∷ vs) e

pub lacks : (n : ℕ) (vs : List (Option Datum)) (xs : List core.Operand) → has_values n xs ≡ false → popped n vs xs ≡ Lacks
lacks zero vs xs e = absurd (cc)
lacks (suc n) vs [] e = refl
lacks (suc n) vs (o ∷ xs) e = lacks_by n vs (value_of o) xs (λ us h. lacks n us xs h) e

-- ---- the flat list of operands

got_at : {A : Type 0} (xs : List A) (n : ℕ) (x : A) → Some x ≡ slice_get xs n → get_or xs n x ≡ x
got_at [] n x e = absurd (cc)
got_at (y ∷ xs) zero x e = sym (some_same x y e)
got_at (y ∷ xs) (suc n) x e = got_at xs n x e

few_by : (a b : Bool) → b ≡ false → (a && b) ≡ false
few_by true b e = e
few_by false b e = refl

-- one of them, counted from the top
pub from_top : {A : Type 0} (xs : List A) (low k : ℕ) (x : A) → low + k < length xs → Some x ≡ slice_get xs (length xs - 1 - k) → drop k (reverse (drop low xs)) ≡ x ∷ drop (k + 1) (reverse (drop low xs))
from_top xs low k x h is =
    let size = length-drop low xs in
    let turned = length-reverse (drop low xs) in
    let split : drop k (reverse (drop low xs)) ≡ get_or (reverse (drop low xs)) k x ∷ drop (suc k) (reverse (drop low xs)) = drop-cons (reverse (drop low xs)) k x (omega (arith, h, size, turned)) in
    let place : low + (length (drop low xs) - 1 - k) ≡ length xs - 1 - k = omega (arith, h, size) in
    let at : get_or (reverse (drop low xs)) k x ≡ x =
    get_or-reverse (drop low xs) k x (omega (arith, h, size))
    ∙ get_or-drop low xs (length (drop low xs) - 1 - k) x
    ∙ ap (λ n. get_or xs n x) place
    ∙ got_at xs (length xs - 1 - k) x is in
    let next : suc k ≡ k + 1 = omega arith in
    split ∙ (λ i. at i ∷ drop (next i) (reverse (drop low xs)))

-- without so many, fewer are there
pub too_few : (n : ℕ) (xs : List core.Operand) → length xs < n → has_values n xs ≡ false
too_few zero xs h = absurd (omega (arith, h))
too_few (suc n) [] h = refl
too_few (suc n) (o ∷ xs) h = few_by (is_some (value_of o)) (has_values n xs) (too_few n xs (omega (arith, h)))

pub values_more : (n k : ℕ) (xs : List core.Operand) (o : core.Operand) → k < n → drop k xs ≡ o ∷ drop (k + 1) xs → is_some (value_of o) ≡ true → has_values (n - k) (drop k xs) ≡ has_values (n - (k + 1)) (drop (k + 1) xs)
values_more n k xs o l e is =
    let less : n - k ≡ suc (n - (k + 1)) = omega (arith, l) in
    ap (λ m. has_values m (drop k xs)) less
    ∙ ap (has_values (suc (n - (k + 1)))) e
    ∙ ap (λ b. b && has_values (n - (k + 1)) (drop (k + 1) xs)) is

pub values_end : (n k : ℕ) (xs : List core.Operand) (o : core.Operand) → k < n → drop k xs ≡ o ∷ drop (k + 1) xs → is_some (value_of o) ≡ false → has_values (n - k) (drop k xs) ≡ false
values_end n k xs o l e is =
    let less : n - k ≡ suc (n - (k + 1)) = omega (arith, l) in
    ap (λ m. has_values m (drop k xs)) less
    ∙ ap (has_values (suc (n - (k + 1)))) e
    ∙ ap (λ b. b && has_values (n - (k + 1)) (drop (k + 1) xs)) is

from_top_in : (fs : List Frame) (os : List core.Operand) (k : ℕ) (o : core.Operand) → 0 < length fs → lowest_in fs + k < length os → Some o ≡ slice_get os (length os - 1 - k) → drop k (operands_in fs os) ≡ o ∷ drop (k + 1) (operands_in fs os)
from_top_in [] os k o some h there = absurd (omega (arith, some))
from_top_in (f ∷ fs) os k o some h there = from_top os f.operands k o h there

-- the same of a store
pub at_from_top : (code : Code) (bs : BasesState) (at : ℕ) (e : Here) (kept : List (Here × Kept)) (s : Standing) → IsSound (plain_code code) bs e → stands code bs at e kept ≡ s →
    (size low k : ℕ) (o : Operand) → size ≡ length e.operands → low ≡ lowest_of e → low + k < size → Some o ≡ slice_get e.operands (size - 1 - k) →
    drop k s.core.now.operands ≡ operand_of bs e.members o ∷ drop (k + 1) s.core.now.operands
at_from_top code bs at e kept s h is size low k o long lowest below there =
    let count = length-map e.operands (operand_of bs e.members) in
    let place : size - 1 - k ≡ length (results bs e) - 1 - k = omega (arith, long, count) in
    subst (λ l. drop k l ≡ operand_of bs e.members o ∷ drop (k + 1) l) (now_is code bs at e kept s is)
    (from_top_in (reverse e.activations) (results bs e) k (operand_of bs e.members o) (omega (arith, h.some, length-reverse e.activations)) (omega (arith, long, lowest, below, count))
    (slice_get_map (operand_of bs e.members) e.operands (length (results bs e) - 1 - k) o (there ∙ ap (slice_get e.operands) place)))

pub too_few_left : (code : Code) (bs : BasesState) (at : ℕ) (e : Here) (kept : List (Here × Kept)) (s : Standing) → stands code bs at e kept ≡ s →
    (size low n : ℕ) → size ≡ length e.operands → low ≡ lowest_of e → size - low < n → false ≡ has_values n s.core.now.operands
too_few_left code bs at e kept s is size low n long lowest few =
    let count = ap length (now_is code bs at e kept s is) in
    sym (too_few n s.core.now.operands (omega (arith, long, lowest, few, count, now_counted (reverse e.activations) (results bs e), length-map e.operands (operand_of bs e.members))))
