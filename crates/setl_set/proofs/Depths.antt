-- How deep the set of all subsets within bounds of their size is.
use Rattle.std.specs.Prelude.{◌≡◌, ◌==◌, ◌&&◌, ℕ, zero, suc, ◌+◌, ◌<◌, ◌≤◌, nat_le, Bool, true, cond, List, [], ◌∷◌, ◌++◌, length, map, refl}
use Rattle.std.specs.List.{AllByRecursion, filter}
use Rattle.std.proofs.Common.{ap, sym, ◌∙◌, subst, arith, inl, inr}
use Rattle.std.proofs.lemmas.Bool.{cases_lt, cond-true}
use Rattle.std.proofs.lemmas.List.{append-nil}
use Rattle.std.proofs.lemmas.Bool.Decides.{nat_tests}
use Rattle.setl_value.specs.Datum.{Datum, depth, set_of, elements_depth, elements_of}
use Rattle.setl_value.specs.Order.{IsRising}
use Rattle.setl_set.specs.Subsets.{subsets, subsets_between, set_of_sets, pow_of, npow_of}
use Rattle.setl_set.proofs.Choices.{less_one, the_empty, longer, choices, choices_are, nothing_longer}
use Rattle.setl_set.proofs.Lists.{all_append, all_left, all_right, all_map, all_from_map, all_weaker}
use Rattle.setl_set.proofs.Places.{depths_in, depths_out}
use Rattle.setl_set.proofs.Search.{none_longer}

-- P holds of each member of each list
abbrev AllIn : (Datum → Type 0) → List (List Datum) → Type 0
AllIn P xss = AllByRecursion (λ xs. AllByRecursion P xs) xss

all_empty : (P : Datum → Type 0) (l : ℕ) → AllIn P (the_empty l)
all_empty P zero = (tt, tt)
all_empty P (suc l) = tt

-- ---- a subset has members of the whole

all_longer : (P : Datum → Type 0) (l m : ℕ) (ds : List Datum) → AllByRecursion P ds → AllIn P (longer l m ds)
all_longer P l m [] a = tt
all_longer P l zero (d ∷ ds) a = tt
all_longer P l (suc m) (d ∷ ds) a =
    let k = less_one l in
    let fewer : AllIn P (choices k m ds) = all_append (λ xs. AllByRecursion P xs) (the_empty k) (longer k m ds) (all_empty P k) (all_longer P k m ds a.1) in
    all_append (λ xs. AllByRecursion P xs) (map (λ xs. d ∷ xs) (choices k m ds)) (longer l (suc m) ds)
    (all_map (λ xs. AllByRecursion P xs) (λ xs. d ∷ xs) (choices k m ds) (all_weaker (λ xs. AllByRecursion P xs) (λ xs. AllByRecursion P (d ∷ xs)) (choices k m ds) (λ xs b. (a.0, b)) fewer))
    (all_longer P l (suc m) ds a.1)

all_choices : (P : Datum → Type 0) (l m : ℕ) (ds : List Datum) → AllByRecursion P ds → AllIn P (choices l m ds)
all_choices P l m ds a = all_append (λ xs. AllByRecursion P xs) (the_empty l) (longer l m ds) (all_empty P l) (all_longer P l m ds a)

-- ---- each member of the whole is in a subset

some_choice : (Q : Type 0) (l m : ℕ) (ds : List Datum) → l ≤ m → l ≤ length ds → AllByRecursion (λ xs. Q) (choices l m ds) → Q
some_choice Q zero m ds p q a = a.0
some_choice Q (suc l) zero ds p q a = absurd (omega arith)
some_choice Q (suc l) (suc m) [] p q a = absurd (omega arith)
some_choice Q (suc l) (suc m) (d ∷ ds) p q a =
    some_choice Q l m ds (omega arith) (omega arith) (all_from_map (λ xs. Q) (λ xs. d ∷ xs) (choices l m ds) (all_left (λ xs. Q) (map (λ xs. d ∷ xs) (choices l m ds)) (longer (suc l) (suc m) ds) a))

one_less : (l n : ℕ) → l ≤ suc n → less_one l ≤ n
one_less zero n h = omega arith
one_less (suc l) n h = omega arith

covered_rest : (P : Datum → Type 0) (l m : ℕ) (ds : List Datum) → l ≤ suc m → AllIn P (choices (less_one l) m ds) → AllIn P (longer l (suc m) ds)
    → (0 < m → AllIn P (choices (less_one l) m ds) → AllByRecursion P ds)
    → (l ≤ length ds → AllIn P (choices l (suc m) ds) → AllByRecursion P ds)
    → AllByRecursion P ds
covered_rest P l m [] p c later fewer same = tt
covered_rest P l zero (e ∷ es) p c later fewer same = same (omega arith) (all_append (λ xs. AllByRecursion P xs) (the_empty l) (longer l (suc zero) (e ∷ es)) (all_empty P l) later)
covered_rest P l (suc m) (e ∷ es) p c later fewer same = fewer (omega arith) c

covered : (P : Datum → Type 0) (l m : ℕ) (ds : List Datum) → l ≤ m → 0 < m → l ≤ length ds → AllIn P (choices l m ds) → AllByRecursion P ds
covered P l m [] p q r a = tt
covered P l zero (d ∷ ds) p q r a = absurd (omega arith)
covered P l (suc m) (d ∷ ds) p q r a =
    let each : List Datum → Type 0 = λ xs. AllByRecursion P xs in
    let k = less_one l in
    let with_d = map (λ xs. d ∷ xs) (choices k m ds) in
    let b = all_right each (the_empty l) (with_d ++ longer l (suc m) ds) a in
    let c = all_from_map each (λ xs. d ∷ xs) (choices k m ds) (all_left each with_d (longer l (suc m) ds) b) in (
      some_choice (P d) k m ds (one_less l m p) (one_less l (length ds) r) (all_weaker (λ xs. each (d ∷ xs)) (λ xs. P d) (choices k m ds) (λ xs h. h.0) c),
      covered_rest P l m ds p (all_weaker (λ xs. each (d ∷ xs)) each (choices k m ds) (λ xs h. h.1) c) (all_right each with_d (longer l (suc m) ds) b)
          (λ h. covered P k m ds (one_less l m p) h (one_less l (length ds) r))
          (λ h. covered P l (suc m) ds p q h),
    )

-- ---- the depth of the set of these subsets

shallow : (l m n : ℕ) (ds : List Datum) → elements_depth (elements_of ds) ≤ n → elements_depth (elements_of (map set_of (choices l m ds))) ≤ n + 1
shallow l m n ds h =
    depths_out (n + 1) (map set_of (choices l m ds))
    (all_map (λ d. depth d ≤ n + 1) set_of (choices l m ds)
    (all_weaker (λ xs. AllByRecursion (λ d. depth d ≤ n) xs) (λ xs. depth (set_of xs) ≤ n + 1) (choices l m ds) (λ xs a. omega (arith, depths_out n xs a)) (all_choices (λ d. depth d ≤ n) l m ds (depths_in n ds h))))

deep_whole : (l m n : ℕ) (ds : List Datum) → l ≤ m → 0 < m → l ≤ length ds → elements_depth (elements_of (map set_of (choices l m ds))) ≤ n + 1 → elements_depth (elements_of ds) ≤ n
deep_whole l m n ds p q r h =
    depths_out n ds
    (covered (λ d. depth d ≤ n) l m ds p q r
    (all_weaker (λ xs. depth (set_of xs) ≤ n + 1) (λ xs. AllByRecursion (λ d. depth d ≤ n) xs) (choices l m ds) (λ xs a. depths_in n xs (omega (arith, a)))
    (all_from_map (λ d. depth d ≤ n + 1) set_of (choices l m ds) (depths_in (n + 1) (map set_of (choices l m ds)) h))))

-- it is deeper than the whole, where a subset has a member
pub deep_when : (l m : ℕ) (ds : List Datum) → IsRising ds → l ≤ m → 0 < m → l ≤ length ds → depth (set_of ds) ≡ 500 → 500 < depth (set_of (set_of_sets (subsets_between l m ds)))
deep_when l m ds rise p q r h =
    let all = map set_of (choices l m ds) in
    let deep : 500 < depth (set_of all) =
    elim (cases_lt 500 (depth (set_of all))) [ inl g ↦ g | inr g ↦ absurd (omega (arith, h, deep_whole l m 498 ds p q r (omega (arith, g)))) ] in
    subst (λ a. 500 < depth (set_of a)) (choices_are l m ds rise) deep

no_deeper : (l : ℕ) → elements_depth (elements_of (map set_of (the_empty l))) ≤ 1
no_deeper zero = omega arith
no_deeper (suc l) = omega arith

only_empty : (l m : ℕ) (ds : List Datum) → longer l m ds ≡ [] → elements_depth (elements_of (map set_of (choices l m ds))) ≤ 1
only_empty l m ds h = subst (λ a. elements_depth (elements_of (map set_of (the_empty l ++ a))) ≤ 1) (sym h) (subst (λ a. elements_depth (elements_of (map set_of a)) ≤ 1) (sym (append-nil (the_empty l))) (no_deeper l))

-- and else it isn't above 500
pub deep_only : (l m : ℕ) (ds : List Datum) → IsRising ds → depth (set_of ds) ≤ 500 → 500 < depth (set_of (set_of_sets (subsets_between l m ds)))
    → (depth (set_of ds) ≡ 500) × (0 < m) × (l ≤ length ds)
deep_only l m ds rise b h =
    let all = map set_of (choices l m ds) in
    let deep : 500 < depth (set_of all) = subst (λ a. 500 < depth (set_of a)) (sym (choices_are l m ds rise)) h in (
      elim (cases_lt (depth (set_of ds)) 500) [ inl g ↦ absurd (omega (arith, deep, shallow l m 498 ds (omega (arith, g)))) | inr g ↦ omega (arith, g, b) ],
      elim (cases_lt 0 m) [ inl g ↦ g | inr g ↦ absurd (omega (arith, deep, only_empty l m ds (subst (λ k. longer l k ds ≡ []) {x = 0} (omega (arith, g)) (nothing_longer l ds)))) ],
      elim (cases_lt (length ds) l) [ inl g ↦ absurd (omega (arith, deep, only_empty l m ds (none_longer l m ds g))) | inr g ↦ g ],
    )

-- ---- all subsets, and those of one size

filter_all : (p : List Datum → Bool) (xss : List (List Datum)) → AllByRecursion (λ xs. p xs ≡ true) xss → filter p xss ≡ xss
filter_all p [] a = refl
filter_all p (xs ∷ xss) a = cond-true (p xs) (xs ∷ filter p xss) (filter p xss) a.0 ∙ ap (λ l. xs ∷ l) (filter_all p xss a.1)

filter_same : (p q : List Datum → Bool) (xss : List (List Datum)) → ((xs : List Datum) → p xs ≡ q xs) → filter p xss ≡ filter q xss
filter_same p q [] h = refl
filter_same p q (xs ∷ xss) h = ap (λ b. cond b (xs ∷ filter p xss) (filter p xss)) (h xs) ∙ ap (λ l. cond (q xs) (xs ∷ l) l) (filter_same p q xss h)

no_longer : (ds : List Datum) → AllByRecursion (λ xs. length xs ≤ length ds) (subsets ds)
no_longer [] = (omega arith, tt)
no_longer (d ∷ ds) =
    all_append (λ xs. length xs ≤ length (d ∷ ds)) (map (λ xs. d ∷ xs) (subsets ds)) (subsets ds)
    (all_map (λ xs. length xs ≤ length (d ∷ ds)) (λ xs. d ∷ xs) (subsets ds) (all_weaker (λ xs. length xs ≤ length ds) (λ xs. length (d ∷ xs) ≤ length (d ∷ ds)) (subsets ds) (λ xs h. omega (arith, h)) (no_longer ds)))
    (all_weaker (λ xs. length xs ≤ length ds) (λ xs. length xs ≤ length (d ∷ ds)) (subsets ds) (λ xs h. omega (arith, h)) (no_longer ds))

all_within : (n k : ℕ) → k ≤ n → (nat_le 0 k && nat_le k n) ≡ true
all_within n k h = grind (arith, nat_tests)

pub pow_is : (ds : List Datum) → set_of_sets (subsets_between 0 (length ds) ds) ≡ pow_of ds
pow_is ds =
    ap set_of_sets (filter_all (λ xs. nat_le 0 (length xs) && nat_le (length xs) (length ds)) (subsets ds)
    (all_weaker (λ xs. length xs ≤ length ds) (λ xs. (nat_le 0 (length xs) && nat_le (length xs) (length ds)) ≡ true) (subsets ds) (λ xs h. all_within (length ds) (length xs) h) (no_longer ds)))

one_size : (n k : ℕ) → (nat_le n k && nat_le k n) ≡ (k == n)
one_size n k = grind (arith, nat_tests)

pub npow_is : (n : ℕ) (ds : List Datum) → set_of_sets (subsets_between n n ds) ≡ npow_of n ds
npow_is n ds = ap set_of_sets (filter_same (λ xs. nat_le n (length xs) && nat_le (length xs) n) (λ xs. length xs == n) (subsets ds) (λ xs. one_size n (length xs)))
