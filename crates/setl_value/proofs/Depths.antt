-- How a change of a list of members or components changes the depth.
use Rattle.std.specs.Prelude.{◌≡◌, ℕ, ◌+◌, ◌-◌, ◌<◌, ◌≤◌, take, zero, suc, List, [], ◌∷◌, ◌++◌, Option, Some, None, map, max, slice_get, unwrap_or}
use Rattle.std.specs.List.{remove}
use Rattle.std.proofs.Common.{arith, ap}
use Rattle.std.proofs.lemmas.List.{map-append}
use Rattle.std.proofs.lemmas.Option.{none-some}
use Rattle.setl_value.specs.declared.Value.{Value}
use Rattle.setl_value.specs.Datum.{Datum, depth, elements_depth, elements_of, part_depth, parts_depth, parts_of, set_of, tuple_of}
use Rattle.setl_value.specs.code.DatumOf.{datum, part}
use Rattle.setl_value.specs.WellFormed.{trim, put}
use Rattle.setl_value.proofs.Trim.{trim_depth}

-- ---- members

elements_snoc : (ds : List Datum) (d : Datum) → elements_depth (elements_of (ds ++ d ∷ [])) ≡ max (elements_depth (elements_of ds)) (depth d)
elements_snoc [] d = omega arith
elements_snoc (c ∷ ds) d = omega (arith, elements_snoc ds d)

-- the depth of a set whose last member is v
pub set_of_rest : (vs rest : List Value) (v : Value) → vs ≡ rest ++ v ∷ [] → depth (set_of (map datum vs)) ≡ max (depth (set_of (map datum rest))) (depth (datum v) + 1)
set_of_rest vs rest v e = omega (arith, ap (λ l. depth (set_of (map datum l))) e, ap (λ l. depth (set_of l)) (map-append datum rest (v ∷ [])), elements_snoc (map datum rest) (datum v))

elements_remove : (ds : List Datum) (i : ℕ) (d : Datum) → slice_get ds i ≡ Some d → max (elements_depth (elements_of (remove ds i))) (depth d) ≡ elements_depth (elements_of ds)
elements_remove [] i d e = absurd (none-some d e)
elements_remove (c ∷ ds) zero d e = omega (arith, ap (λ o. depth (unwrap_or o c)) e)
elements_remove (c ∷ ds) (suc i) d e = omega (arith, elements_remove ds i d e)

-- the depth of a set that lost its i-th member d
pub set_without : (ds : List Datum) (i : ℕ) (d : Datum) → slice_get ds i ≡ Some d → max (depth (set_of (remove ds i))) (depth d + 1) ≡ depth (set_of ds)
set_without ds i d e = omega (arith, elements_remove ds i d e)

-- the depth of the first of some members
pub depth_taken : (n : ℕ) (d : Datum) (ds : List Datum) → 0 < n → depth (set_of (take n (d ∷ ds))) ≡ max (depth d + 1) (depth (set_of (take (n - 1) ds)))
depth_taken zero d ds h = absurd (omega arith)
depth_taken (suc n) d ds h = omega (arith, ap (λ m. depth (set_of (take m ds))) {x = n} {y = suc n - 1} (omega arith))

-- ---- components

pub parts_cons : (p : Option Datum) (ps : List (Option Datum)) → parts_depth (parts_of (p ∷ ps)) ≡ max (part_depth p) (parts_depth (parts_of ps))
parts_cons None ps = omega arith
parts_cons (Some d) ps = omega arith

parts_snoc : (ps : List (Option Datum)) (p : Option Datum) → parts_depth (parts_of (ps ++ p ∷ [])) ≡ max (parts_depth (parts_of ps)) (part_depth p)
parts_snoc [] p = omega (arith, parts_cons p [])
parts_snoc (q ∷ ps) p = omega (arith, parts_cons q (ps ++ p ∷ []), parts_cons q ps, parts_snoc ps p)

-- the depth of a tuple whose last component is v
pub tuple_of_rest : (vs rest : List (Option Value)) (v : Option Value) → vs ≡ rest ++ v ∷ [] → depth (tuple_of (map part vs)) ≡ max (depth (tuple_of (map part rest))) (part_depth (part v) + 1)
tuple_of_rest vs rest v e = omega (arith, ap (λ l. depth (tuple_of (map part l))) e, ap (λ l. depth (tuple_of l)) (map-append part rest (v ∷ [])), parts_snoc (map part rest) (part v))

parts_remove : (ps : List (Option Datum)) (i : ℕ) (p : Option Datum) → slice_get ps i ≡ Some p → max (parts_depth (parts_of (remove ps i))) (part_depth p) ≡ parts_depth (parts_of ps)
parts_remove [] i p e = absurd (none-some p e)
parts_remove (q ∷ ps) zero p e = omega (arith, parts_cons q ps, ap (λ o. part_depth (unwrap_or o q)) e)
parts_remove (q ∷ ps) (suc i) p e = omega (arith, parts_cons q ps, parts_cons q (remove ps i), parts_remove ps i p e)

-- the depth of a tuple that lost its i-th component p, and then the `om` at its end
pub tuple_without : (ps : List (Option Datum)) (i : ℕ) (p : Option Datum) → slice_get ps i ≡ Some p → max (depth (tuple_of (trim (remove ps i)))) (part_depth p + 1) ≡ depth (tuple_of ps)
tuple_without ps i p e = omega (arith, parts_remove ps i p e, trim_depth (remove ps i))

pub parts_put : (ps : List (Option Datum)) (i : ℕ) (p : Option Datum) → max (parts_depth (parts_of (put ps i p))) (part_depth (unwrap_or (slice_get ps i) None)) ≡ max (parts_depth (parts_of ps)) (part_depth p)
parts_put [] i p = omega (arith, parts_cons p [])
parts_put (q ∷ ps) zero p = omega (arith, parts_cons p ps, parts_cons q ps)
parts_put (q ∷ ps) (suc i) p = omega (arith, parts_cons q (put ps i p), parts_cons q ps, parts_put ps i p)

parts_there : (ps : List (Option Datum)) (i : ℕ) (p : Option Datum) → part_depth p ≤ parts_depth (parts_of (put ps i p))
parts_there [] i p = omega (arith, parts_cons p [])
parts_there (q ∷ ps) zero p = omega (arith, parts_cons p ps)
parts_there (q ∷ ps) (suc i) p = omega (arith, parts_cons q (put ps i p), parts_there ps i p)

-- the depth of a tuple whose i-th component became p
pub tuple_with : (ps : List (Option Datum)) (i : ℕ) (p : Option Datum)
    → max (depth (tuple_of (trim (put ps i p)))) (part_depth (unwrap_or (slice_get ps i) None) + 1) ≡ max (depth (tuple_of ps)) (part_depth p + 1)
tuple_with ps i p = omega (arith, parts_put ps i p, trim_depth (put ps i p))

pub part_in_tuple : (ps : List (Option Datum)) (i : ℕ) (p : Option Datum) → part_depth p + 1 ≤ depth (tuple_of (trim (put ps i p)))
part_in_tuple ps i p = omega (arith, parts_there ps i p, trim_depth (put ps i p))
