-- The search for all subsets within bounds of their size: the places chosen so far, and what is still to come.
use Rattle.std.specs.Prelude.{◌≡◌, ℕ, zero, suc, ◌+◌, ◌-◌, ◌<◌, ◌≤◌, List, [], ◌∷◌, ◌++◌, Option, Some, length, drop, map, slice_get, refl}
use Rattle.std.specs.List.{cons_option}
use Rattle.std.proofs.Common.{ap, sym, ◌∙◌, subst, arith, append_assoc, inl, inr}
use Rattle.std.proofs.lemmas.Bool.{cases_lt}
use Rattle.std.proofs.lemmas.List.{map-append, drop_all, length-drop}
use Rattle.std.proofs.lemmas.Option.{none-some}
use Rattle.setl_value.specs.Datum.{Datum}
use Rattle.setl_set.specs.code.Choice.{members_at, IsFull}
use Rattle.setl_set.proofs.Choices.{less_one, the_empty, longer, nothing_longer}
use Rattle.setl_set.proofs.Places.{some_same}

-- each list after the member at a place
abbrev after_member : List Datum → ℕ → List (List Datum) → List (List Datum)
after_member ds i xss = map (λ xs. cons_option (slice_get ds i) xs) xss

-- the subset of the chosen places, if it isn't too small
abbrev pub found : ℕ → List Datum → List ℕ → List (List Datum)
found least ds [] = the_empty least
found least ds (i ∷ is) = after_member ds i (found (less_one least) ds is)

-- the subsets that come after that of the chosen places, where `next` is the first place that may be chosen next
abbrev pub to_come : ℕ → ℕ → List Datum → List ℕ → ℕ → List (List Datum)
to_come least most ds [] next = longer least most (drop next ds)
to_come least zero ds (i ∷ is) next = []
to_come least (suc most) ds (i ∷ is) next = after_member ds i (to_come (less_one least) most ds is next) ++ longer least (suc most) (drop (suc i) ds)

drop_at : (ds : List Datum) (i : ℕ) (d : Datum) → slice_get ds i ≡ Some d → drop i ds ≡ d ∷ drop (suc i) ds
drop_at [] i d h = absurd (none-some d h)
drop_at (e ∷ es) zero d h = ap (λ x. x ∷ es) (some_same e d h)
drop_at (e ∷ es) (suc i) d h = drop_at es i d h

-- ---- a place is chosen

choose_first : (l m : ℕ) (ds : List Datum) (next : ℕ) (d : Datum) → slice_get ds next ≡ Some d
    → to_come l (suc m) ds [] next ≡ found l ds (next ∷ []) ++ to_come l (suc m) ds (next ∷ []) (suc next)
choose_first l m ds next d h =
    let rest = drop (suc next) ds in
    let one : Option Datum → List (List Datum) → List (List Datum) = λ o xss. map (λ xs. cons_option o xs) xss in
    ap (longer l (suc m)) (drop_at ds next d h)
    ∙ ap (λ a. a ++ longer l (suc m) rest) (map-append (λ xs. d ∷ xs) (the_empty (less_one l)) (longer (less_one l) m rest))
    ∙ append_assoc (map (λ xs. d ∷ xs) (the_empty (less_one l))) (map (λ xs. d ∷ xs) (longer (less_one l) m rest)) (longer l (suc m) rest)
    ∙ ap (λ o. one o (the_empty (less_one l)) ++ (one o (longer (less_one l) m rest) ++ longer l (suc m) rest)) (sym h)

pub chosen_next : (l m : ℕ) (ds : List Datum) (is : List ℕ) (next : ℕ) (d : Datum) → length is < m → slice_get ds next ≡ Some d
    → to_come l m ds is next ≡ found l ds (is ++ next ∷ []) ++ to_come l m ds (is ++ next ∷ []) (suc next)
chosen_next l zero ds is next d lt h = absurd (omega arith)
chosen_next l (suc m) ds [] next d lt h = choose_first l m ds next d h
chosen_next l (suc m) ds (i ∷ is) next d lt h =
    let k = less_one l in
    let now = found k ds (is ++ next ∷ []) in
    let later = to_come k m ds (is ++ next ∷ []) (suc next) in
    ap (λ a. after_member ds i a ++ longer l (suc m) (drop (suc i) ds)) (chosen_next k m ds is next d (omega arith) h)
    ∙ ap (λ a. a ++ longer l (suc m) (drop (suc i) ds)) (map-append (λ xs. cons_option (slice_get ds i) xs) now later)
    ∙ append_assoc (after_member ds i now) (after_member ds i later) (longer l (suc m) (drop (suc i) ds))

-- ---- the last place is given back, once nothing comes after it

-- the subsets that add members to the chosen ones
abbrev pub beyond : ℕ → ℕ → List Datum → List ℕ → ℕ → List (List Datum)
beyond least most ds [] next = longer least most (drop next ds)
beyond least most ds (i ∷ is) next = beyond (less_one least) (less_one most) ds is next

pub given_back : (l m : ℕ) (ds : List Datum) (is : List ℕ) (i next : ℕ) → beyond l m ds (is ++ i ∷ []) next ≡ [] → to_come l m ds (is ++ i ∷ []) next ≡ to_come l m ds is (suc i)
given_back l zero ds [] i next h = sym (nothing_longer l (drop (suc i) ds))
given_back l (suc m) ds [] i next h = ap (λ a. after_member ds i a ++ longer l (suc m) (drop (suc i) ds)) h
given_back l zero ds (j ∷ is) i next h = refl
given_back l (suc m) ds (j ∷ is) i next h = ap (λ a. after_member ds j a ++ longer l (suc m) (drop (suc j) ds)) (given_back (less_one l) m ds is i next h)

-- ---- what is found

pub found_large : (l : ℕ) (ds : List Datum) (is : List ℕ) → l ≤ length is → found l ds is ≡ members_at ds is ∷ []
found_large zero ds [] h = refl
found_large (suc l) ds [] h = absurd (omega arith)
found_large l ds (i ∷ is) h = ap (after_member ds i) (found_large (less_one l) ds is (smaller l (length is) h))
  where
    smaller : (l n : ℕ) → l ≤ suc n → less_one l ≤ n
    smaller zero n h = omega arith
    smaller (suc l) n h = omega arith

pub found_small : (l : ℕ) (ds : List Datum) (is : List ℕ) → length is < l → found l ds is ≡ []
found_small zero ds is h = absurd (omega arith)
found_small (suc l) ds [] h = refl
found_small (suc l) ds (i ∷ is) h = ap (after_member ds i) (found_small l ds is (omega arith))

-- ---- where nothing can be added

pub none_longer : (l m : ℕ) (ds : List Datum) → length ds < l → longer l m ds ≡ []
none_longer l m [] h = refl
none_longer l zero (d ∷ ds) h = refl
none_longer zero (suc m) (d ∷ ds) h = absurd (omega arith)
none_longer (suc zero) (suc m) (d ∷ ds) h = absurd (omega arith)
none_longer (suc (suc l)) (suc m) (d ∷ ds) h =
    ap (λ a. map (λ xs. d ∷ xs) a ++ longer (suc (suc l)) (suc m) ds) (none_longer (suc l) m ds (omega arith)) ∙ none_longer (suc (suc l)) (suc m) ds (omega arith)

full_before : (l m size count next : ℕ) → IsFull l m size (suc count) next → IsFull (less_one l) (less_one m) size count next
full_before zero zero size count next h = elim h [ inl p ↦ inl (omega (arith, p)) | inr q ↦ elim q [ inl r ↦ inr (inl (omega (arith, r))) | inr r ↦ inr (inr r) ] ]
full_before zero (suc m) size count next h = elim h [ inl p ↦ inl (omega (arith, p)) | inr q ↦ elim q [ inl r ↦ inr (inl (omega (arith, r))) | inr r ↦ inr (inr r) ] ]
full_before (suc l) zero size count next h = elim h [ inl p ↦ inl (omega (arith, p)) | inr q ↦ elim q [ inl r ↦ inr (inl (omega (arith, r))) | inr r ↦ inr (inr r) ] ]
full_before (suc l) (suc m) size count next h = elim h [ inl p ↦ inl (omega (arith, p)) | inr q ↦ elim q [ inl r ↦ inr (inl (omega (arith, r))) | inr r ↦ inr (inr r) ] ]

full_first : (l m : ℕ) (ds : List Datum) (next : ℕ) → IsFull l m (length ds) 0 next → longer l m (drop next ds) ≡ []
full_first l m ds next (inl p) = subst (λ k. longer l k (drop next ds) ≡ []) {x = 0} (omega arith) (nothing_longer l (drop next ds))
full_first l m ds next (inr (inl p)) = elim (cases_lt next (length ds)) [
  | inl q ↦ none_longer l m (drop next ds) (omega (arith, length-drop next ds))
  | inr q ↦ ap (longer l m) (drop_all next ds q)
]
full_first l m ds next (inr (inr p)) = ap (longer l m) (drop_all next ds p)

pub full_beyond : (l m : ℕ) (ds : List Datum) (is : List ℕ) (next : ℕ) → IsFull l m (length ds) (length is) next → beyond l m ds is next ≡ []
full_beyond l m ds [] next h = full_first l m ds next h
full_beyond l m ds (i ∷ is) next h = full_beyond (less_one l) (less_one m) ds is next (full_before l m (length ds) (length is) next h)

-- ---- how many steps are left

-- with at most `most` more members out of `left`
abbrev work : ℕ → ℕ → ℕ
work zero left = 1
work (suc most) zero = 1
work (suc most) (suc left) = 1 + (work most left + work (suc most) left)

abbrev pub steps : ℕ → ℕ → List ℕ → ℕ → ℕ
steps most size [] next = work most (size - next)
steps most size (i ∷ is) next = steps (less_one most) size is next + work most (size - (i + 1))

works : (m n : ℕ) → 0 < work m n
works zero n = omega arith
works (suc m) zero = omega arith
works (suc m) (suc n) = omega arith

work_more : (m left n : ℕ) → n ≡ suc left → work (suc m) n ≡ 1 + (work m left + work (suc m) left)
work_more m left n e = ap (work (suc m)) e

pub steps_chosen : (m size : ℕ) (is : List ℕ) (next : ℕ) → length is < m → next < size → steps m size (is ++ next ∷ []) (next + 1) < steps m size is next
steps_chosen zero size is next lt h = absurd (omega arith)
steps_chosen (suc m) size [] next lt h = omega (arith, work_more m (size - (next + 1)) (size - next) (omega arith))
steps_chosen (suc m) size (i ∷ is) next lt h = omega (arith, steps_chosen m size is next (omega arith) h)

pub steps_back : (m size : ℕ) (is : List ℕ) (i next : ℕ) → steps m size is (i + 1) < steps m size (is ++ i ∷ []) next
steps_back m size [] i next = omega (arith, works (less_one m) (size - next))
steps_back m size (j ∷ is) i next = omega (arith, steps_back (less_one m) size is i next)
