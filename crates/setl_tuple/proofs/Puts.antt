-- What is put in, copied and cut out.
use Rattle.std.specs.Prelude.{◌≡◌, ℕ, zero, suc, ◌+◌, ◌-◌, ◌≤◌, List, [], ◌∷◌, ◌++◌, Option, Some, None, length, take, drop, replicate, slice_get, slice_range, map, refl, ℤ, pos, negsuc, unsigned_abs, int_lt, false, Ok}
use Rattle.std.specs.List.{flat_map}
use Rattle.std.proofs.Common.{arith, ap, sym, ◌∙◌}
use Rattle.std.proofs.lemmas.List.{append-nil, append_assoc, replicate-append-replicate, take_all}
use Rattle.std.proofs.lemmas.List.Concat.{flat_map-append}
use Rattle.std.proofs.lemmas.List.Edits.{between_more}
use Rattle.std.proofs.lemmas.Option.{slice_get_within, get_or_from_slice_get}
use Rattle.std.proofs.lemmas.Bool.{true≢false}
use Rattle.std.proofs.Math.ListN.{drop_of_length-le}
use Rattle.setl_value.specs.Datum.{Datum}
use Rattle.setl_value.specs.code.DatumOf.{part}
use Rattle.setl_value.specs.declared.Value.{Value}
use Rattle.setl_value.specs.WellFormed.{put, trim, IsTrimmed}
use Rattle.setl_value.specs.Copies.{copies}
use Rattle.setl_tuple.specs.Tuples.{put_of, with_of, repeat_of}
use Rattle.setl_tuple.proofs.Trimmed.{trim-trimmed, trimmed-append, trim-append_om}

-- one component more of a part
pub part_more : {A : Type 0} (xs : List A) (from i : ℕ) (x : A) → from ≤ i → slice_get xs i ≡ Some x → slice_range xs from (i + 1) ≡ slice_range xs from i ++ x ∷ []
part_more xs from i x le h =
    between_more xs from i x le (slice_get_within xs i x h) ∙ ap (λ y. slice_range xs from i ++ y ∷ []) (get_or_from_slice_get xs i x x h)

pub copies-nil : (n : ℕ) → copies {A = Option Datum} n [] ≡ []
copies-nil zero = refl
copies-nil (suc n) = copies-nil n

pub copies_more : (n : ℕ) (t : List (Option Datum)) → copies n t ++ t ≡ copies (n + 1) t
copies_more n t =
    ap (λ l. copies n t ++ l) (sym (append-nil t)) ∙ sym (flat_map-append (λ copy. copy) (replicate n t) (t ∷ [])) ∙ ap (flat_map (λ copy. copy)) (replicate-append-replicate n 1 t)

put-split : (t : List (Option Datum)) (i : ℕ) (p : Option Datum) → i ≤ length t → put t i p ≡ take i t ++ p ∷ drop (suc i) t
put-split [] zero p h = refl
put-split [] (suc i) p h = absurd (omega arith)
put-split (q ∷ t) zero p h = refl
put-split (q ∷ t) (suc i) p h = ap (λ l. q ∷ l) (put-split t i p (omega arith))

-- in place
pub put_inside : (t : List (Option Datum)) (i : ℕ) (p : Option Datum) → i ≤ length t → trim (put t i p) ≡ put_of t i p
put_inside t i p h =
    let none : take i t ≡ take i t ++ replicate (i - length t) None = sym (append-nil (take i t)) ∙ ap (λ k. take i t ++ replicate k None) {x = 0} (omega arith) in
    let next : suc i ≡ i + 1 = omega arith in
    ap trim (put-split t i p h ∙ (λ j. none j ++ p ∷ drop (next j) t))

-- past the end
pub put_past : (t : List (Option Datum)) (i : ℕ) (p : Option Datum) → length t ≤ i → trim (t ++ replicate (i - length t) None ++ p ∷ []) ≡ put_of t i p
put_past t i p h =
    let all = sym (take_all i t h) in
    let none = sym (drop_of_length-le t {i = i + 1} (omega arith)) in
    λ j. trim (all j ++ replicate (i - length t) None ++ p ∷ none j)

pub put_om_past : (t : List (Option Datum)) (i : ℕ) → IsTrimmed t → length t ≤ i → t ≡ put_of t i None
put_om_past t i m h =
    let k = i - length t in
    sym (trim-trimmed t m) ∙ sym (trim-append_om t (k + 1))
    ∙ ap trim (ap (λ l. t ++ l) (sym (replicate-append-replicate k 1 None)) ∙ sym (append_assoc t (replicate k None) (None ∷ [])))
    ∙ put_past t i None h

pub put_end : (t : List (Option Datum)) (d : Datum) → IsTrimmed t → trim (put t (length t) (Some d)) ≡ with_of t d
put_end t d m =
    let all = take_all (length t) t (omega arith) in
    let none = drop_of_length-le t {i = suc (length t)} (omega arith) in
    ap trim (put-split t (length t) (Some d) (omega arith) ∙ (λ j. all j ++ Some d ∷ none j)) ∙ trim-trimmed (t ++ Some d ∷ []) (trimmed-append t (Some d ∷ []) m tt)

-- no copy of an empty tuple holds anything
pub copies_of_none : (n : ℕ) (t : List (Option Datum)) (xs : List (Option Value)) (k : ℕ) → k ≡ length t → k ≡ 0 → xs ≡ [] → map part xs ≡ copies n t
copies_of_none n [] xs k e z p = ap (map part) p ∙ sym (copies-nil n)
copies_of_none n (q ∷ t) xs k e z p = absurd (omega arith)

-- the part that is the whole
pub whole_part : (t : List (Option Datum)) (n : ℕ) → n ≡ length t → slice_range t 0 n ≡ t
whole_part t n e = take_all (n - 0) t (omega arith)

pub repeat_is : (t r : List (Option Datum)) (n : ℤ) (k : ℕ) → k ≡ unsigned_abs n → int_lt n (pos 0) ≡ false → r ≡ copies k t → repeat_of t n ≡ Ok r
repeat_is t r (pos n) k e l p = ap Ok (ap (λ j. copies j t) (sym e) ∙ sym p)
repeat_is t r (negsuc n) k e l p = absurd (true≢false l)
