-- The depths of lists of components.
use Rattle.std.specs.Prelude.{◌≡◌, ℕ, zero, suc, ◌-◌, ◌≤◌, List, [], ◌∷◌, ◌++◌, Option, Some, None, max, take, drop, replicate, slice_range}
use Rattle.std.proofs.Common.{arith, ap}
use Rattle.setl_value.specs.Datum.{Datum, part_depth, parts_depth, parts_of}
use Rattle.setl_value.specs.WellFormed.{put}
use Rattle.setl_value.specs.Copies.{copies}

-- the greatest depth in a list of components
abbrev pub greatest : List (Option Datum) → ℕ
greatest ps = parts_depth (parts_of ps)

greatest-cons : (p : Option Datum) (ps : List (Option Datum)) → greatest (p ∷ ps) ≡ max (part_depth p) (greatest ps)
greatest-cons None ps = omega arith
greatest-cons (Some d) ps = omega arith

pub greatest-append : (xs ys : List (Option Datum)) → greatest (xs ++ ys) ≡ max (greatest xs) (greatest ys)
greatest-append [] ys = omega arith
greatest-append (x ∷ xs) ys = omega (arith, greatest-cons x (xs ++ ys), greatest-cons x xs, greatest-append xs ys)

pub greatest-om : (k : ℕ) → greatest (replicate k None) ≡ 0
greatest-om zero = omega arith
greatest-om (suc k) = greatest-om k

pub greatest-copies : (n : ℕ) (t : List (Option Datum)) → greatest (copies n t) ≤ greatest t
greatest-copies zero t = omega arith
greatest-copies (suc n) t = omega (arith, greatest-append t (copies n t), greatest-copies n t)

greatest-take : (n : ℕ) (t : List (Option Datum)) → greatest (take n t) ≤ greatest t
greatest-take zero t = omega arith
greatest-take (suc n) [] = omega arith
greatest-take (suc n) (p ∷ t) = omega (arith, greatest-cons p t, greatest-cons p (take n t), greatest-take n t)

greatest-drop : (n : ℕ) (t : List (Option Datum)) → greatest (drop n t) ≤ greatest t
greatest-drop zero t = omega arith
greatest-drop (suc n) [] = omega arith
greatest-drop (suc n) (p ∷ t) = omega (arith, greatest-cons p t, greatest-drop n t)

pub greatest-put : (t : List (Option Datum)) (i : ℕ) (p : Option Datum) → greatest (put t i p) ≤ max (greatest t) (part_depth p)
greatest-put [] i p = omega (arith, greatest-cons p [])
greatest-put (q ∷ t) zero p = omega (arith, greatest-cons q t, greatest-cons p t)
greatest-put (q ∷ t) (suc i) p = omega (arith, greatest-cons q t, greatest-cons q (put t i p), greatest-put t i p)

-- a tuple of a part is no deeper
pub part_shallow : (ps xs t : List (Option Datum)) (m n : ℕ) → ps ≡ xs ++ slice_range t m n → xs ≡ [] → greatest t ≤ 499 → greatest ps ≤ 499
part_shallow ps xs t m n e none h =
    omega (arith, ap greatest e, greatest-append xs (slice_range t m n), ap greatest none, greatest-take (n - m) (drop m t), greatest-drop m t)
