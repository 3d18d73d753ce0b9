-- Lists that are a set's members.
use Rattle.std.specs.Prelude.{◌≡◌, ℕ, zero, suc, ◌≤◌, List, [], ◌∷◌, ◌++◌, take, drop, Some, max, slice_get, slice_range}
use Rattle.std.specs.List.{AllByRecursion, insert, remove}
use Rattle.std.specs.List.Sorted.{IsStrictlySortedBy}
use Rattle.std.specs.declared.cmp.Ordering.TheVariants.{Less}
use Rattle.std.proofs.Common.{arith, ap, sym, subst}
use Rattle.setl_value_pages.specs.ListLaws.{all_append, all_at, all_drop, all_insert, all_remove, all_take, replaced, three_parts}
use Rattle.setl_value.specs.Datum.{Datum, set, depth, elements_depth, elements_of, element_list-elements_of, set_of}
use Rattle.setl_value.specs.Order.{datum_cmp, IsRising}
use Rattle.setl_value.specs.WellFormed.{IsWellFormed, ElementsAreWellFormed, IsValue, IsSetList}

-- a member of some set
abbrev pub IsMember : Datum → Type 0
IsMember d = IsWellFormed d × (depth d ≤ 499)

members_in : (ds : List Datum) → ElementsAreWellFormed (elements_of ds) → elements_depth (elements_of ds) ≤ 499 → AllByRecursion IsMember ds
members_in [] s p = tt
members_in (d ∷ ds) s p = ((s.0, omega arith), members_in ds s.1 (omega arith))

members_out : (ds : List Datum) → AllByRecursion IsMember ds → ElementsAreWellFormed (elements_of ds) × (elements_depth (elements_of ds) ≤ 499)
members_out [] a = (tt, omega arith)
members_out (d ∷ ds) a = let r = members_out ds a.1 in ((a.0.0, r.0), omega (arith, a.0.1, r.1))

pub set_facts : (ds : List Datum) → IsSetList ds → AllByRecursion IsMember ds × IsRising ds
set_facts ds h = (members_in ds h.0.0 (omega (arith, h.1)), subst IsRising (element_list-elements_of ds) h.0.1)

pub set_made : (ds : List Datum) → AllByRecursion IsMember ds → IsRising ds → IsSetList ds
set_made ds a r = let m = members_out ds a in ((m.0, subst IsRising (sym (element_list-elements_of ds)) r), omega (arith, m.1))

pub set_empty : IsSetList []
unfolding IsStrictlySortedBy
set_empty = set_made [] tt tt

pub sorted_remove : (xs : List Datum) (i : ℕ) → IsRising xs → IsRising (remove xs i)
unfolding IsStrictlySortedBy
sorted_remove [] zero a = tt
sorted_remove [] (suc i) a = tt
sorted_remove (x ∷ xs) zero a = a.1
sorted_remove (x ∷ xs) (suc i) a = (all_remove (λ y. datum_cmp x y ≡ Less) xs i a.0, sorted_remove xs i a.1)

pub set_at : (ds : List Datum) (i : ℕ) (d : Datum) → IsSetList ds → slice_get ds i ≡ Some d → IsValue d
set_at ds i d h e = let m = all_at IsMember ds i d (set_facts ds h).0 e in (m.0, omega (arith, m.1))

pub set_remove : (ds : List Datum) (i : ℕ) → IsSetList ds → IsSetList (remove ds i)
set_remove ds i h = let f = set_facts ds h in set_made (remove ds i) (all_remove IsMember ds i f.0) (sorted_remove ds i f.1)

stand_in : (ds : List Datum) → ElementsAreWellFormed (elements_of ds) → AllByRecursion IsWellFormed ds
stand_in [] s = tt
stand_in (d ∷ ds) s = (s.0, stand_in ds s.1)

stand_out : (ds : List Datum) → AllByRecursion IsWellFormed ds → ElementsAreWellFormed (elements_of ds)
stand_out [] s = tt
stand_out (d ∷ ds) s = (s.0, stand_out ds s.1)

pub set_from : (ds : List Datum) → AllByRecursion IsWellFormed ds → IsRising ds → depth (set_of ds) ≤ 500 → IsSetList ds
set_from ds a r p = ((stand_out ds a, subst IsRising (sym (element_list-elements_of ds)) r), p)

pub set_insert : (ds : List Datum) (i : ℕ) (d : Datum) → IsSetList ds → IsValue d → IsRising (insert ds i d) → depth (set (elements_of (insert ds i d))) ≤ 500 → IsSetList (insert ds i d)
set_insert ds i d h v r p =
    set_from (insert ds i d) (all_insert IsWellFormed ds i d (stand_in ds h.0.0) v.0) r p

pub depth_insert : (ds : List Datum) (i : ℕ) (d : Datum) → elements_depth (elements_of (insert ds i d)) ≡ max (elements_depth (elements_of ds)) (depth d)
depth_insert [] zero d = omega arith
depth_insert [] (suc i) d = omega arith
depth_insert (e ∷ ds) zero d = omega arith
depth_insert (e ∷ ds) (suc i) d = omega (arith, depth_insert ds i d)

-- ---- some members in the place of others

pub set_replaced : (ds : List Datum) (i j : ℕ) (ms : List Datum) → IsSetList ds → AllByRecursion IsWellFormed ms → IsRising (replaced ds i j ms) → depth (set_of (replaced ds i j ms)) ≤ 500 → IsSetList (replaced ds i j ms)
set_replaced ds i j ms h a r p =
    let fine = stand_in ds h.0.0 in
    set_from (replaced ds i j ms) (all_append IsWellFormed (take i ds ++ ms) (drop j ds) (all_append IsWellFormed (take i ds) ms (all_take IsWellFormed ds i fine) a) (all_drop IsWellFormed ds j fine)) r p

pub depth_append : (xs ys : List Datum) → elements_depth (elements_of (xs ++ ys)) ≡ max (elements_depth (elements_of xs)) (elements_depth (elements_of ys))
depth_append [] ys = omega arith
depth_append (x ∷ xs) ys = omega (arith, depth_append xs ys)

depth_take : (xs : List Datum) (i : ℕ) → elements_depth (elements_of (take i xs)) ≤ elements_depth (elements_of xs)
depth_take xs zero = omega arith
depth_take [] (suc i) = omega arith
depth_take (x ∷ xs) (suc i) = omega (arith, depth_take xs i)

pub depth_drop : (xs : List Datum) (i : ℕ) → elements_depth (elements_of (drop i xs)) ≤ elements_depth (elements_of xs)
depth_drop xs zero = omega arith
depth_drop [] (suc i) = omega arith
depth_drop (x ∷ xs) (suc i) = omega (arith, depth_drop xs i)

-- what was replaced and what it was replaced by are as deep together as before and after
pub depth_exchanged : (ds : List Datum) (i j : ℕ) (ms : List Datum) → i ≤ j
    → max (depth (set_of (replaced ds i j ms))) (depth (set_of (slice_range ds i j))) ≡ max (depth (set_of ds)) (depth (set_of ms))
depth_exchanged ds i j ms h =
    let s = slice_range ds i j in
    omega (arith, depth_append (take i ds ++ ms) (drop j ds), depth_append (take i ds) ms, depth_append (take i ds ++ s) (drop j ds), depth_append (take i ds) s, ap (λ l. elements_depth (elements_of l)) (three_parts ds i j h))

-- the depth after it is at least that of ms, and at most the greater of both
pub depth_replaced : (ds : List Datum) (i j : ℕ) (ms : List Datum)
    → (depth (set_of ms) ≤ depth (set_of (replaced ds i j ms))) × (depth (set_of (replaced ds i j ms)) ≤ max (depth (set_of ds)) (depth (set_of ms)))
depth_replaced ds i j ms = (
  omega (arith, depth_append (take i ds ++ ms) (drop j ds), depth_append (take i ds) ms),
  omega (arith, depth_append (take i ds ++ ms) (drop j ds), depth_append (take i ds) ms, depth_take ds i, depth_drop ds j),
)
