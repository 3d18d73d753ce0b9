-- Sets whose members are values, in their order.
use Rattle.std.specs.Prelude.{◌≡◌, ℕ, suc, ◌≤◌, Bool, List, [], ◌∷◌, map}
use Rattle.std.specs.List.{AllByRecursion, filter}
use Rattle.std.specs.List.Sorted.{IsStrictlySortedBy}
use Rattle.std.specs.declared.cmp.Ordering.{Ordering}
use Rattle.std.specs.declared.cmp.Ordering.TheVariants.{Less, Equal, Greater}
use Rattle.std.proofs.Common.{sym, subst, arith}
use Rattle.std.proofs.lemmas.List.Kept.{IsStrictlySortedBy-filter}
use Rattle.setl_value.specs.Datum.{Datum, set, Elements, no_element, element_then, depth, elements_depth, elements_of, element_list, element_list-elements_of, set_of}
use Rattle.setl_value.specs.Order.{datum_cmp, IsRising}
use Rattle.setl_value.specs.WellFormed.{IsWellFormed, ElementsAreWellFormed, IsValue}
use Rattle.setl_set.specs.Sets.{insert_datum, insert_by, set_from}
use Rattle.setl_set.specs.Subsets.{subsets}
use Rattle.setl_operators_laws.specs.Lists.{all_append, all_weaker, all_map}

-- well formed, and at most k deep
abbrev pub Stands : ℕ → Datum → Type 0
Stands k d = IsWellFormed d × (depth d ≤ k)

pub members_of : (k : ℕ) (ms : Elements) → ElementsAreWellFormed ms → elements_depth ms ≤ k → AllByRecursion (Stands k) (element_list ms)
members_of k no_element w h = tt
members_of k (element_then d ms) w h = ((w.0, omega (arith, h)), members_of k ms w.1 (omega (arith, h)))

-- the members of a value
pub members : (ms : Elements) → IsValue (set ms) → AllByRecursion (Stands 499) (element_list ms)
members ms h = members_of 499 ms h.0.0 (omega (arith, h.1))

pub rising_members : (ms : Elements) → IsValue (set ms) → IsRising (element_list ms)
rising_members ms h = h.0.1

formed : (k : ℕ) (ds : List Datum) → AllByRecursion (Stands k) ds → ElementsAreWellFormed (elements_of ds) × (elements_depth (elements_of ds) ≤ k)
formed k [] a = (tt, omega arith)
formed k (d ∷ ds) a = let r = formed k ds a.1 in ((a.0.0, r.0), omega (arith, a.0.1, r.1))

-- the set of them
pub set_stands : (k : ℕ) (ds : List Datum) → AllByRecursion (Stands k) ds → IsRising ds → Stands (suc k) (set_of ds)
set_stands k ds a r = let f = formed k ds a in ((f.0, subst IsRising (sym (element_list-elements_of ds)) r), omega (arith, f.1))

pub set_is_value : (ds : List Datum) → AllByRecursion (Stands 499) ds → IsRising ds → IsValue (set_of ds)
set_is_value ds a r = let s = set_stands 499 ds a r in (s.0, omega (arith, s.1))

pub higher : (d : Datum) → Stands 499 d → Stands 500 d
higher d h = (h.0, omega (arith, h.1))

pub all_higher : (ds : List Datum) → AllByRecursion (Stands 499) ds → AllByRecursion (Stands 500) ds
all_higher ds a = all_weaker (Stands 499) (Stands 500) ds higher a

-- ---- what is kept

pub all_insert : (P : Datum → Type 0) (d : Datum) (ds : List Datum) → P d → AllByRecursion P ds → AllByRecursion P (insert_datum d ds)
all_insert P d [] p a = (p, tt)
all_insert P d (e ∷ es) p a = go (datum_cmp d e) (all_insert P d es p a.1)
  where
    go : (o : Ordering) → AllByRecursion P (insert_datum d es) → AllByRecursion P (insert_by o d e es (insert_datum d es))
    go Less r = (p, a)
    go Equal r = a
    go Greater r = (a.0, r)

pub all_set_from : (P : Datum → Type 0) (ds : List Datum) → AllByRecursion P ds → AllByRecursion P (set_from ds)
all_set_from P [] a = tt
all_set_from P (d ∷ ds) a = all_insert P d (set_from ds) a.0 (all_set_from P ds a.1)

pub rising_filter : (p : Datum → Bool) (ds : List Datum) → IsRising ds → IsRising (filter p ds)
rising_filter p ds r = IsStrictlySortedBy-filter datum_cmp p ds r

-- ---- subsets

all_subsets : (P : Datum → Type 0) (ds : List Datum) → AllByRecursion P ds → AllByRecursion (λ xs. AllByRecursion P xs) (subsets ds)
all_subsets P [] a = (tt, tt)
all_subsets P (d ∷ ds) a =
    let s = all_subsets P ds a.1 in
    all_append (λ xs. AllByRecursion P xs) (map (λ xs. d ∷ xs) (subsets ds)) (subsets ds)
    (all_map (λ xs. AllByRecursion P xs) (λ xs. AllByRecursion P xs) (λ xs. d ∷ xs) (subsets ds) (λ xs t. (a.0, t)) s)
    s

with_first : (d : Datum) (xss : List (List Datum)) → AllByRecursion (λ xs. AllByRecursion (λ y. datum_cmp d y ≡ Less) xs) xss → AllByRecursion IsRising xss → AllByRecursion IsRising (map (λ xs. d ∷ xs) xss)
unfolding IsStrictlySortedBy
with_first d [] b r = tt
with_first d (xs ∷ xss) b r = ((b.0, r.0), with_first d xss b.1 r.1)

rising_subsets : (ds : List Datum) → IsRising ds → AllByRecursion IsRising (subsets ds)
unfolding IsStrictlySortedBy
rising_subsets [] r = (tt, tt)
rising_subsets (d ∷ ds) r =
    let s = rising_subsets ds r.1 in
    all_append IsRising (map (λ xs. d ∷ xs) (subsets ds)) (subsets ds) (with_first d (subsets ds) (all_subsets (λ y. datum_cmp d y ≡ Less) ds r.0) s) s

-- a list of members of a set
abbrev pub IsPart : List Datum → Type 0
IsPart xs = AllByRecursion (Stands 499) xs × IsRising xs

both : (xss : List (List Datum)) → AllByRecursion (λ xs. AllByRecursion (Stands 499) xs) xss → AllByRecursion IsRising xss → AllByRecursion IsPart xss
both [] a r = tt
both (xs ∷ xss) a r = ((a.0, r.0), both xss a.1 r.1)

pub subsets_are_parts : (ds : List Datum) → AllByRecursion (Stands 499) ds → IsRising ds → AllByRecursion IsPart (subsets ds)
subsets_are_parts ds a r = both (subsets ds) (all_subsets (Stands 499) ds a) (rising_subsets ds r)

-- the set of sets of members
pub all_sets : (xss : List (List Datum)) → AllByRecursion IsPart xss → AllByRecursion (Stands 500) (map set_of xss)
all_sets xss a = all_map IsPart (Stands 500) set_of xss (λ xs p. set_is_value xs p.0 p.1) a
