-- The subsets of a rising list within bounds of their size, listed in the canonical order of sets.
use Rattle.std.specs.Prelude.{◌≡◌, ℕ, zero, suc, nat_le, Bool, true, false, ◌&&◌, ◌||◌, List, [], ◌∷◌, ◌++◌, length, map, refl}
use Rattle.std.specs.List.{AllByRecursion, list_any}
use Rattle.std.specs.List.Sorted.{IsStrictlySortedBy}
use Rattle.std.specs.declared.cmp.Ordering.{Ordering}
use Rattle.std.specs.declared.cmp.Ordering.TheVariants.{Less}
use Rattle.std.specs.Ordering.{is_eq, ordering_then}
use Rattle.std.specs.Cmp.{tied_itself}
use Rattle.std.proofs.Common.{ap, sym, ◌∙◌, arith}
use Rattle.std.proofs.lemmas.Bool.Decides.{nat_tests}
use Rattle.std.proofs.lemmas.List.Folds.{list_any-append}
use Rattle.setl_value.specs.Datum.{Datum, set_of, elements_of}
use Rattle.setl_value.specs.Order.{datum_cmp, elements_cmp, IsRising}
use Rattle.setl_value.specs.OrderLaws.{datum_cmp_total}
use Rattle.setl_set.specs.Sets.{has_datum}
use Rattle.setl_set.specs.Subsets.{subsets, subsets_between, set_of_sets}
use Rattle.setl_set.proofs.Lists.{any_map, any_filter, any_same, any_never, all_append, all_map}
use Rattle.setl_set.proofs.Members.{IsBelow, rising_unique}
use Rattle.setl_set.proofs.Results.{has_set_from, rising_set_from}

abbrev pub less_one : ℕ → ℕ
less_one zero = zero
less_one (suc n) = n

-- the empty subset, if none is too small
abbrev pub the_empty : ℕ → List (List Datum)
the_empty zero = [] ∷ []
the_empty (suc n) = []

-- the subsets with at least `least` members, at least one and at most `most`
abbrev pub longer : ℕ → ℕ → List Datum → List (List Datum)
longer least most [] = []
longer least zero (d ∷ ds) = []
longer least (suc most) (d ∷ ds) = map (λ xs. d ∷ xs) (the_empty (less_one least) ++ longer (less_one least) most ds) ++ longer least (suc most) ds

abbrev pub choices : ℕ → ℕ → List Datum → List (List Datum)
choices least most ds = the_empty least ++ longer least most ds

-- ---- they are the subsets within the bounds

abbrev is_within : ℕ → ℕ → List Datum → Bool
is_within l m xs = nat_le l (length xs) && nat_le (length xs) m

-- whether a subset within the bounds passes a test
abbrev some_within : ℕ → ℕ → (List Datum → Bool) → List Datum → Bool
some_within l m p ds = list_any (λ xs. is_within l m xs && p xs) (subsets ds)

within_longer : (l m : ℕ) (d : Datum) (xs : List Datum) → is_within l (suc m) (d ∷ xs) ≡ is_within (less_one l) m xs
within_longer zero m d xs = grind (arith, nat_tests)
within_longer (suc l) m d xs = grind (arith, nat_tests)

within_none : (l : ℕ) (d : Datum) (xs : List Datum) → is_within l zero (d ∷ xs) ≡ false
within_none l d xs = grind (arith, nat_tests)

any_empty : (l m : ℕ) (p : List Datum → Bool) → list_any p (the_empty l) ≡ (is_within l m [] && p [])
any_empty zero m p = grind (arith, nat_tests)
any_empty (suc l) m p = grind (arith, nat_tests)

or_false : (b : Bool) → (b || false) ≡ b
or_false true = refl
or_false false = refl

swap_or : (a b c : Bool) → (a || (b || c)) ≡ (b || (a || c))
swap_or true true c = refl
swap_or true false c = refl
swap_or false true c = refl
swap_or false false c = refl

pub nothing_longer : (l : ℕ) (ds : List Datum) → longer l zero ds ≡ []
nothing_longer l [] = refl
nothing_longer l (d ∷ ds) = refl

any_choices : (p : List Datum → Bool) (l m : ℕ) (ds : List Datum) → list_any p (choices l m ds) ≡ some_within l m p ds
any_choices p l m [] = list_any-append p (the_empty l) [] ∙ ap (λ b. b || false) (any_empty l m p)
any_choices p l zero (d ∷ ds) =
    ap (λ ls. list_any p (the_empty l ++ ls)) (sym (nothing_longer l ds))
    ∙ any_choices p l zero ds
    ∙ ap (λ b. b || some_within l zero p ds) (sym (any_map (λ xs. is_within l zero xs && p xs) (λ xs. d ∷ xs) (subsets ds) ∙ any_never (λ xs. is_within l zero (d ∷ xs) && p (d ∷ xs)) (subsets ds) (λ xs. ap (λ b. b && p (d ∷ xs)) (within_none l d xs))))
    ∙ sym (list_any-append (λ xs. is_within l zero xs && p xs) (map (λ xs. d ∷ xs) (subsets ds)) (subsets ds))
any_choices p l (suc m) (d ∷ ds) =
    let q : List Datum → Bool = λ xs. p (d ∷ xs) in
    let with_d = map (λ xs. d ∷ xs) (choices (less_one l) m ds) in
    list_any-append p (the_empty l) (with_d ++ longer l (suc m) ds)
    ∙ ap (λ b. list_any p (the_empty l) || b) (list_any-append p with_d (longer l (suc m) ds))
    ∙ swap_or (list_any p (the_empty l)) (list_any p with_d) (list_any p (longer l (suc m) ds))
    ∙ ap (λ b. list_any p with_d || b) (sym (list_any-append p (the_empty l) (longer l (suc m) ds)) ∙ any_choices p l (suc m) ds)
    ∙ ap (λ b. b || some_within l (suc m) p ds)
    (any_map p (λ xs. d ∷ xs) (choices (less_one l) m ds) ∙ any_choices q (less_one l) m ds
    ∙ any_same (λ xs. is_within (less_one l) m xs && q xs) (λ xs. is_within l (suc m) (d ∷ xs) && p (d ∷ xs)) (subsets ds) (λ xs. ap (λ b. b && p (d ∷ xs)) (sym (within_longer l m d xs)))
    ∙ sym (any_map (λ xs. is_within l (suc m) xs && p xs) (λ xs. d ∷ xs) (subsets ds)))
    ∙ sym (list_any-append (λ xs. is_within l (suc m) xs && p xs) (map (λ xs. d ∷ xs) (subsets ds)) (subsets ds))

has_choices : (x : Datum) (l m : ℕ) (ds : List Datum) → has_datum x (map set_of (choices l m ds)) ≡ has_datum x (set_of_sets (subsets_between l m ds))
has_choices x l m ds =
    let p : List Datum → Bool = λ xs. is_eq (datum_cmp x (set_of xs)) in
    any_map (λ e. is_eq (datum_cmp x e)) set_of (choices l m ds)
    ∙ any_choices p l m ds
    ∙ sym (any_filter p (is_within l m) (subsets ds))
    ∙ sym (any_map (λ e. is_eq (datum_cmp x e)) set_of (subsets_between l m ds))
    ∙ sym (has_set_from x (map set_of (subsets_between l m ds)))

-- ---- they rise

abbrev sets_cmp : List Datum → List Datum → Ordering
sets_cmp xs ys = datum_cmp (set_of xs) (set_of ys)

abbrev SetsRise : List (List Datum) → Type 0
SetsRise xss = IsStrictlySortedBy sets_cmp xss

-- the list begins with a datum above d
abbrev StartsAbove : Datum → List Datum → Type 0
StartsAbove d [] = ⊥
StartsAbove d (e ∷ es) = datum_cmp d e ≡ Less

longer_start : (d : Datum) (l m : ℕ) (ds : List Datum) → IsBelow d ds → AllByRecursion (StartsAbove d) (longer l m ds)
longer_start d l m [] b = tt
longer_start d l zero (e ∷ es) b = tt
longer_start d l (suc m) (e ∷ es) b =
    all_append (StartsAbove d) (map (λ xs. e ∷ xs) (choices (less_one l) m es)) (longer l (suc m) es)
    (all_map (StartsAbove d) (λ xs. e ∷ xs) (choices (less_one l) m es) (each (choices (less_one l) m es)))
    (longer_start d l (suc m) es b.1)
  where
    each : (xss : List (List Datum)) → AllByRecursion (λ xs. datum_cmp d e ≡ Less) xss
    each [] = tt
    each (xs ∷ xss) = (b.0, each xss)

abbrev IsNotEmpty : List Datum → Type 0
IsNotEmpty [] = ⊥
IsNotEmpty (e ∷ es) = Unit {0}

longer_full : (l m : ℕ) (ds : List Datum) → AllByRecursion IsNotEmpty (longer l m ds)
longer_full l m [] = tt
longer_full l zero (e ∷ es) = tt
longer_full l (suc m) (e ∷ es) =
    all_append IsNotEmpty (map (λ xs. e ∷ xs) (choices (less_one l) m es)) (longer l (suc m) es)
    (all_map IsNotEmpty (λ xs. e ∷ xs) (choices (less_one l) m es) (each (choices (less_one l) m es)))
    (longer_full l (suc m) es)
  where
    each : (xss : List (List Datum)) → AllByRecursion (λ xs. Unit {0}) xss
    each [] = tt
    each (xs ∷ xss) = (tt, each xss)

same_first : (d : Datum) (xs ys : List Datum) → sets_cmp (d ∷ xs) (d ∷ ys) ≡ sets_cmp xs ys
same_first d xs ys = ap (λ o. ordering_then o (sets_cmp xs ys)) (tied_itself datum_cmp_total d)

below_with : (d : Datum) (xs : List Datum) (yss : List (List Datum)) → AllByRecursion (λ ys. sets_cmp xs ys ≡ Less) yss → AllByRecursion (λ ys. sets_cmp (d ∷ xs) ys ≡ Less) (map (λ ys. d ∷ ys) yss)
below_with d xs [] a = tt
below_with d xs (ys ∷ yss) a = (same_first d xs ys ∙ a.0, below_with d xs yss a.1)

rise_with : (d : Datum) (xss : List (List Datum)) → SetsRise xss → SetsRise (map (λ xs. d ∷ xs) xss)
unfolding IsStrictlySortedBy
rise_with d [] r = tt
rise_with d (xs ∷ xss) r = (below_with d xs xss r.0, rise_with d xss r.1)

starts_below : (d : Datum) (xs : List Datum) (yss : List (List Datum)) → AllByRecursion (StartsAbove d) yss → AllByRecursion (λ ys. sets_cmp (d ∷ xs) ys ≡ Less) yss
starts_below d xs [] a = tt
starts_below d xs ([] ∷ yss) a = absurd a.0
starts_below d xs ((e ∷ es) ∷ yss) a = (ap (λ o. ordering_then o (elements_cmp (elements_of xs) (elements_of es))) a.0, starts_below d xs yss a.1)

rise_before : (d : Datum) (xss yss : List (List Datum)) → SetsRise (map (λ xs. d ∷ xs) xss) → SetsRise yss → AllByRecursion (StartsAbove d) yss → SetsRise (map (λ xs. d ∷ xs) xss ++ yss)
unfolding IsStrictlySortedBy
rise_before d [] yss r s a = s
rise_before d (xs ∷ xss) yss r s a =
    (all_append (λ ys. sets_cmp (d ∷ xs) ys ≡ Less) (map (λ xs. d ∷ xs) xss) yss r.0 (starts_below d xs yss a), rise_before d xss yss r.1 s a)

empty_below : (yss : List (List Datum)) → AllByRecursion IsNotEmpty yss → AllByRecursion (λ ys. sets_cmp [] ys ≡ Less) yss
empty_below [] a = tt
empty_below ([] ∷ yss) a = absurd a.0
empty_below ((e ∷ es) ∷ yss) a = (refl, empty_below yss a.1)

rise_after_empty : (l : ℕ) (yss : List (List Datum)) → AllByRecursion IsNotEmpty yss → SetsRise yss → SetsRise (the_empty l ++ yss)
unfolding IsStrictlySortedBy
rise_after_empty zero yss a r = (empty_below yss a, r)
rise_after_empty (suc l) yss a r = r

longer_rise : (l m : ℕ) (ds : List Datum) → IsRising ds → SetsRise (longer l m ds)
unfolding IsStrictlySortedBy
longer_rise l m [] r = tt
longer_rise l zero (d ∷ ds) r = tt
longer_rise l (suc m) (d ∷ ds) r =
    rise_before d (choices (less_one l) m ds) (longer l (suc m) ds)
    (rise_with d (choices (less_one l) m ds) (rise_after_empty (less_one l) (longer (less_one l) m ds) (longer_full (less_one l) m ds) (longer_rise (less_one l) m ds r.1)))
    (longer_rise l (suc m) ds r.1)
    (longer_start d l (suc m) ds r.0)

rising_map : (xss : List (List Datum)) → SetsRise xss → IsRising (map set_of xss)
unfolding IsStrictlySortedBy
rising_map [] r = tt
rising_map (xs ∷ xss) r = (all_map (λ d. datum_cmp (set_of xs) d ≡ Less) set_of xss r.0, rising_map xss r.1)

pub rising_choices : (l m : ℕ) (ds : List Datum) → IsRising ds → IsRising (map set_of (choices l m ds))
rising_choices l m ds r = rising_map (choices l m ds) (rise_after_empty l (longer l m ds) (longer_full l m ds) (longer_rise l m ds r))

-- so they are listed as the set of these subsets is
pub choices_are : (l m : ℕ) (ds : List Datum) → IsRising ds → map set_of (choices l m ds) ≡ set_of_sets (subsets_between l m ds)
choices_are l m ds r =
    rising_unique (map set_of (choices l m ds)) (set_of_sets (subsets_between l m ds)) (rising_choices l m ds r) (rising_set_from (map set_of (subsets_between l m ds))) (λ x. has_choices x l m ds)
