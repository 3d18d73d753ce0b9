-- Counting the members of a set that are no pairs.
use Rattle.std.specs.Prelude.{◌≡◌, ℕ, zero, suc, ◌+◌, ◌≤◌, ◌==◌, ◌-◌, Bool, true, false, ◌&&◌, cond, List, [], ◌∷◌, Option, Some, None, slice_get, slice_range, length, is_some, refl}
use Rattle.std.specs.Option.{unwrap_or}
use Rattle.std.specs.List.{insert, remove}
use Rattle.std.proofs.Common.{arith, ap, ◌∙◌, ◌<◌, ◌++◌, take, drop, zero-add, get_or}
use Rattle.std.specs.Prelude.{map}
use Rattle.std.proofs.lemmas.List.{map-append, take_more}
use Rattle.setl_value.specs.declared.Value.{Value}
use Rattle.setl_value.specs.code.DatumOf.{datum}
use Rattle.std.proofs.lemmas.Bool.{ne_eqb}
use Rattle.std.proofs.lemmas.Option.{none-some}
use Rattle.setl_value.specs.Datum.{Datum, tuple_of}
use Rattle.setl_value_pages.specs.ListLaws.{replaced, three_parts}
use Rattle.setl_value.specs.Pairs.{pair_parts, is_map, is_there, other_count}

-- 1 for a datum that is no pair
abbrev pub counted : Datum → ℕ
counted d = cond (is_some (pair_parts d)) 0 1

some_other : (b : Bool) (n : ℕ) (m : Bool) → (n == 0) ≡ m → (cond b 0 1 + n == 0) ≡ (b && m)
some_other true n m e = rw zero-add e
some_other false n m e = ne_eqb (1 + n) 0 (omega arith)

-- a set is a map where no member is counted
pub none_counted : (ds : List Datum) → (other_count ds == 0) ≡ is_map ds
none_counted [] = refl
none_counted (d ∷ ds) = some_other (is_some (pair_parts d)) (other_count ds) (is_map ds) (none_counted ds)

pub at_most_one : (b : Bool) → cond b 0 1 ≤ 1
at_most_one true = omega arith
at_most_one false = omega arith

pub counted_at_most_length : (ds : List Datum) → other_count ds ≤ length ds
counted_at_most_length [] = omega arith
counted_at_most_length (d ∷ ds) = omega (arith, at_most_one (is_some (pair_parts d)), counted_at_most_length ds)

pub count_insert : (ds : List Datum) (i : ℕ) (d : Datum) → other_count (insert ds i d) ≡ other_count ds + counted d
count_insert [] zero d = omega arith
count_insert [] (suc i) d = omega arith
count_insert (e ∷ ds) zero d = omega arith
count_insert (e ∷ ds) (suc i) d = omega (arith, count_insert ds i d)

pub count_remove : (ds : List Datum) (i : ℕ) (d : Datum) → slice_get ds i ≡ Some d → other_count (remove ds i) + counted d ≡ other_count ds
count_remove [] i d e = absurd (none-some d e)
count_remove (c ∷ ds) zero d e = omega (arith, ap (λ o. counted (unwrap_or o c)) e)
count_remove (c ∷ ds) (suc i) d e = omega (arith, count_remove ds i d e)

count_append : (xs ys : List Datum) → other_count (xs ++ ys) ≡ other_count xs + other_count ys
count_append [] ys = omega arith
count_append (x ∷ xs) ys = omega (arith, count_append xs ys)

pub count_replaced : (ds : List Datum) (i j : ℕ) (ms : List Datum) → i ≤ j → other_count (replaced ds i j ms) + other_count (slice_range ds i j) ≡ other_count ds + other_count ms
count_replaced ds i j ms h =
    let s = slice_range ds i j in
    omega (arith, count_append (take i ds ++ ms) (drop j ds), count_append (take i ds) ms, count_append (take i ds ++ s) (drop j ds), count_append (take i ds) s, ap other_count (three_parts ds i j h))

-- one member more
pub count_more : (vs : List Value) (i : ℕ) (v : Value) → i < length vs → v ≡ get_or vs i v → other_count (map datum (take (i + 1) vs)) ≡ other_count (map datum (take i vs)) + counted (datum v)
count_more vs i v h e =
    ap (λ l. other_count (map datum l)) (take_more vs i v h)
    ∙ ap other_count (map-append datum (take i vs) (get_or vs i v ∷ []))
    ∙ omega (arith, count_append (map datum (take i vs)) (datum (get_or vs i v) ∷ []), ap (λ w. counted (datum w)) e)

-- the first of some members
pub count_taken : (n : ℕ) (d : Datum) (ds : List Datum) → 0 < n → other_count (take n (d ∷ ds)) ≡ counted d + other_count (take (n - 1) ds)
count_taken zero d ds h = absurd (omega arith)
count_taken (suc n) d ds h = ap (λ m. counted d + other_count (take m ds)) {x = n} {y = suc n - 1} (omega arith)

-- ---- which tuples are pairs

pub pair_test : (ps : List (Option Datum)) → is_some (pair_parts (tuple_of ps)) ≡ ((length ps == 2) && is_there (slice_get ps 0) && is_there (slice_get ps 1))
pair_test [] = refl
pair_test (None ∷ []) = refl
pair_test (Some x ∷ []) = refl
pair_test (None ∷ None ∷ []) = refl
pair_test (None ∷ Some y ∷ []) = refl
pair_test (Some x ∷ None ∷ []) = refl
pair_test (Some x ∷ Some y ∷ []) = refl
pair_test (None ∷ None ∷ None ∷ ps) = rw (ne_eqb (suc (suc (suc (length ps)))) 2 (omega arith)) refl
pair_test (None ∷ None ∷ Some z ∷ ps) = rw (ne_eqb (suc (suc (suc (length ps)))) 2 (omega arith)) refl
pair_test (None ∷ Some y ∷ None ∷ ps) = rw (ne_eqb (suc (suc (suc (length ps)))) 2 (omega arith)) refl
pair_test (None ∷ Some y ∷ Some z ∷ ps) = rw (ne_eqb (suc (suc (suc (length ps)))) 2 (omega arith)) refl
pair_test (Some x ∷ None ∷ None ∷ ps) = rw (ne_eqb (suc (suc (suc (length ps)))) 2 (omega arith)) refl
pair_test (Some x ∷ None ∷ Some z ∷ ps) = rw (ne_eqb (suc (suc (suc (length ps)))) 2 (omega arith)) refl
pair_test (Some x ∷ Some y ∷ None ∷ ps) = rw (ne_eqb (suc (suc (suc (length ps)))) 2 (omega arith)) refl
pair_test (Some x ∷ Some y ∷ Some z ∷ ps) = rw (ne_eqb (suc (suc (suc (length ps)))) 2 (omega arith)) refl
