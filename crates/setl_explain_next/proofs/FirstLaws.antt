-- Laws of the first items of a list.
use Rattle.std.proofs.Common.{◌≡◌, ◌∙◌, inl, inr, ℕ, zero, suc, ◌-◌, ◌+◌, ◌<◌, ◌≤◌, List, [], ◌∷◌, ◌++◌, length, drop, refl, sym, ap, subst, arith}
use Rattle.std.proofs.lemmas.List.{append-nil, append_assoc, length-append}
use Rattle.std.proofs.lemmas.Option.{slice_get-get_or}
use Rattle.std.specs.Prelude.{slice_get, Some, get_or}
use Rattle.setl_value_pages.specs.ListLaws.{front_there}
use Rattle.setl_explain_next.specs.Firsts.{AreFirst, Adds}

-- they are one list
pub one_list : {A : Type 0} (P : A → Type 0) (n : ℕ) (xs one two : List A) → AreFirst P n xs one → AreFirst P n xs two → one ≡ two
one_list P zero xs one two a b = a ∙ sym b
one_list P (suc n) [] one two a b = a ∙ sym b
one_list P (suc n) (x ∷ xs) one two (inl a) (inl b) = a.2 ∙ ap (λ l. x ∷ l) (one_list P n xs a.1 b.1 a.3 b.3) ∙ sym b.2
one_list P (suc n) (x ∷ xs) one two (inl a) (inr b) = absurd (b.0 a.0)
one_list P (suc n) (x ∷ xs) one two (inr a) (inl b) = absurd (a.0 b.0)
one_list P (suc n) (x ∷ xs) one two (inr a) (inr b) = one_list P (suc n) xs one two a.1 b.1

-- what is found up to an index makes the whole with what is found from there on
abbrev pub Continues : {A : Type 0} (P : A → Type 0) (most : ℕ) (xs found : List A) (i : ℕ) → Type 0
Continues {A} P most xs found i = (length found ≤ most) × ((others : List A) → AreFirst P (most - length found) (drop i xs) others → AreFirst P most xs (found ++ others))

-- enough is found
pub at_most : {A : Type 0} (P : A → Type 0) (most : ℕ) (xs found : List A) (i : ℕ) → length found ≡ most → Continues P most xs found i → AreFirst P most xs found
at_most {A} P most xs found i e h = subst (λ l. AreFirst P most xs l) (append-nil found) (h.1 [] (subst (λ n. AreFirst {A = A} P n (drop i xs) []) {x = 0} {y = most - length found} (omega (arith, e)) refl))

-- the list is at its end
pub at_end : {A : Type 0} (P : A → Type 0) (most : ℕ) (xs found : List A) (i : ℕ) → drop i xs ≡ [] → Continues P most xs found i → AreFirst P most xs found
at_end {A} P most xs found i e h = subst (λ l. AreFirst P most xs l) (append-nil found) (h.1 [] (subst (λ l. AreFirst {A = A} P (most - length found) l []) (sym e) (nothing (most - length found))))
  where
    nothing : (n : ℕ) → AreFirst {A = A} P n [] []
    nothing zero = refl
    nothing (suc n) = refl

-- an item is found
pub at_found : {A : Type 0} (P : A → Type 0) (most : ℕ) (xs found : List A) (i : ℕ) (x : A) → slice_get xs i ≡ Some x → P x → length found < most → Continues P most xs found i → Continues P most xs (found ++ x ∷ []) (i + 1)
at_found {A} P most xs found i x at holds few h = (longer, λ others more. subst (λ l. AreFirst P most xs l) (sym (append_assoc found (x ∷ []) others)) (h.1 (x ∷ others) (here others more)))
  where
    longer : length (found ++ x ∷ []) ≤ most
    longer = omega (arith, few, length-append found (x ∷ []))

    here : (others : List A) → AreFirst P (most - length (found ++ x ∷ [])) (drop (i + 1) xs) others → AreFirst P (most - length found) (drop i xs) (x ∷ others)
    here others more = subst (λ l. AreFirst P (most - length found) l (x ∷ others)) (sym (front_there i xs x at)) (subst (λ n. AreFirst P n (x ∷ drop (i + 1) xs) (x ∷ others)) {x = suc (most - length (found ++ x ∷ []))} (omega (arith, few, length-append found (x ∷ []))) (inl (holds, others, refl, more)))

-- an item is passed
pub at_passed : {A : Type 0} (P : A → Type 0) (most : ℕ) (xs found : List A) (i : ℕ) (x : A) → slice_get xs i ≡ Some x → (P x → ⊥) → length found < most → Continues P most xs found i → Continues P most xs found (i + 1)
at_passed {A} P most xs found i x at fails few h = (h.0, λ others more. h.1 others (here others more))
  where
    here : (others : List A) → AreFirst P (most - length found) (drop (i + 1) xs) others → AreFirst P (most - length found) (drop i xs) others
    here others more = subst (λ l. AreFirst P (most - length found) l others) (sym (front_there i xs x at)) (subst (λ n. AreFirst P n (x ∷ drop (i + 1) xs) others) {x = suc (most - length found - 1)} (omega (arith, few)) (inr (fails, subst (λ n. AreFirst P n (drop (i + 1) xs) others) {y = suc (most - length found - 1)} (omega (arith, few)) more)))

-- an item was added if it holds of it
pub at_next : {A : Type 0} (P : A → Type 0) (most : ℕ) (xs found now : List A) (i : ℕ) (x : A) → slice_get xs i ≡ Some x → length found < most → Adds P x found now → Continues P most xs found i → Continues P most xs now (i + 1)
at_next {A} P most xs found now i x at few (inl added) h = subst (λ l. Continues P most xs l (i + 1)) (sym added.1) (at_found P most xs found i x at added.0 few h)
at_next {A} P most xs found now i x at few (inr left) h = subst (λ l. Continues P most xs l (i + 1)) (sym left.1) (at_passed P most xs found i x at left.0 few h)

-- the same by the item's index in a list that is this one
pub at_index : {A : Type 0} (P : A → Type 0) (most : ℕ) (xs all found now : List A) (i : ℕ) (d : A) → all ≡ xs → i < length all → length found < most → Adds P (get_or all i d) found now → Continues P most xs found i → Continues P most xs now (i + 1)
at_index {A} P most xs all found now i d e within few adds h = at_next P most xs found now i (get_or all i d) (subst (λ (l : List A). slice_get l i ≡ Some (get_or all i d)) e (slice_get-get_or all i d within)) few adds h
