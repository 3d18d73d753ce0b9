-- The numbers of the slots that have a content.
use Rattle.std.proofs.Common.{◌≡◌, ◌∙◌, map, ℕ, zero, suc, ◌+◌, ◌<◌, ◌≤◌, Bool, true, false, cond, ◌||◌, if◌then◌else◌, List, [], ◌∷◌, ◌++◌, length, filter, Option, Some, None, nat_eq, ⊎_elim, refl, ap, sym, subst, arith}
use Rattle.std.specs.Prelude.{is_some, option_copied}
use Rattle.std.specs.Borrow.{Bor}
use Rattle.std.specs.Option.{option_map}
use Rattle.std.specs.List.{list_any, range_with_len}
use Rattle.std.specs.List.Sorted.{IsStrictlyIncreasing}
use Rattle.std.proofs.Math.Nat.{eq-or-lt_of_le}
use Rattle.std.proofs.lemmas.Bool.{eq-eqb, eqb-true, cases_Bool, cases_lt}
use Rattle.std.proofs.lemmas.List.{append-nil}
use Rattle.std.proofs.lemmas.List.Elements.{filter-append}
use Rattle.std.proofs.lemmas.List.FromFn.{get_or-range_with_len, length-range_with_len}
use Rattle.std.proofs.lemmas.List.Kept.{IsStrictlyIncreasing-filter}
use Rattle.setl_remote.specs.Slots.{slot_at}
use Rattle.setl_rep_forms.specs.declared.held.Held.{Held}
use Rattle.setl_sparse.specs.Entries.{content_at}
use Rattle.setl_rep_forms.specs.Form.{Form, entries_of}
use Rattle.setl_rep_forms.specs.FormOf.{form}
use Rattle.setl_rep_tables.specs.Tables.{content_in}
use Rattle.setl_rep_layout.specs.Listing.{ListsExactly}

abbrev pub full : List (Option Held) → ℕ → Bool
full cs n = is_some (slot_at cs n)

range_more : (a n : ℕ) → range_with_len a (n + 1) ≡ range_with_len a n ++ (a + n) ∷ []
range_more a zero = let e : a ≡ a + 0 = omega arith in ap (λ m. m ∷ []) e
range_more a (suc n) =
    let up : suc n + 1 ≡ suc (n + 1) = omega arith in
    let last : (a + 1) + n ≡ a + suc n = omega arith in
    ap (range_with_len a) up ∙ ap (λ l. a ∷ l) (range_more (a + 1) n ∙ ap (λ m. range_with_len (a + 1) n ++ m ∷ []) last)

one_more : (p : ℕ → Bool) (xs : List ℕ) (n : ℕ) (b : Bool) → p n ≡ b → xs ++ filter p (n ∷ []) ≡ (if b then xs ++ n ∷ [] else xs)
one_more p xs n true e = ap (λ b. xs ++ cond b (n ∷ []) []) e
one_more p xs n false e = ap (λ b. xs ++ cond b (n ∷ []) []) e ∙ append-nil xs

-- the number of one slot more
pub slots_more : (cs : List (Option Held)) (n : ℕ) (l m : List ℕ) (b : Bool) → l ≡ filter (full cs) (range_with_len 1 n) → full cs (n + 1) ≡ b
    → m ≡ (if b then l ++ (n + 1) ∷ [] else l) → m ≡ filter (full cs) (range_with_len 1 (n + 1))
slots_more cs n l m b e f g =
    let last : n + 1 ≡ 1 + n = omega arith in
    g
    ∙ ap (λ x. if b then x ++ (n + 1) ∷ [] else x) e
    ∙ sym (one_more (full cs) (filter (full cs) (range_with_len 1 n)) (n + 1) b f)
    ∙ ap (λ k. filter (full cs) (range_with_len 1 n) ++ filter (full cs) (k ∷ [])) last
    ∙ sym (filter-append (full cs) (range_with_len 1 n) ((1 + n) ∷ []))
    ∙ ap (filter (full cs)) (sym (range_more 1 n))

-- ---- all of them

rises : (p : ℕ → Bool) (n : ℕ) → IsStrictlyIncreasing (filter p (range_with_len 1 n))
rises p n = IsStrictlyIncreasing-filter p (range_with_len 1 n) (λ k h.
    let long = length-range_with_len 1 n in
    let one = get_or-range_with_len 1 n k 0 (omega arith) in
    let other = get_or-range_with_len 1 n (k + 1) 0 (omega arith) in
    omega arith)

not_equal : (q a : ℕ) → (q ≡ a → ⊥) → nat_eq q a ≡ false
not_equal q a h = ⊎_elim (λ t. absurd (h (eqb-true q a t))) (λ f. f) (cases_Bool (nat_eq q a))

skipped : (p : ℕ → Bool) (q a : ℕ) (xs : List ℕ) (b : Bool) → nat_eq q a ≡ false → list_any (nat_eq q) (cond b (a ∷ xs) xs) ≡ list_any (nat_eq q) xs
skipped p q a xs true e = ap (λ c. c || list_any (nat_eq q) xs) e
skipped p q a xs false e = refl

below : (p : ℕ → Bool) (q a n : ℕ) → q < a → list_any (nat_eq q) (filter p (range_with_len a n)) ≡ false
below p q a zero h = refl
below p q a (suc n) h = skipped p q a (filter p (range_with_len (a + 1) n)) (p a) (not_equal q a (λ e. omega (arith, h, e))) ∙ below p q (a + 1) n (omega (arith, h))

at_it : (p : ℕ → Bool) (q n : ℕ) (b : Bool) → p q ≡ b → list_any (nat_eq q) (cond b (q ∷ filter p (range_with_len (q + 1) n)) (filter p (range_with_len (q + 1) n))) ≡ b
at_it p q n true e = ap (λ c. c || list_any (nat_eq q) (filter p (range_with_len (q + 1) n))) (eq-eqb q q refl)
at_it p q n false e = below p q (q + 1) n (omega arith)

within : (p : ℕ → Bool) (q a n : ℕ) → a ≤ q → q < a + n → list_any (nat_eq q) (filter p (range_with_len a n)) ≡ p q
within p q a zero low high = absurd (omega (arith, low, high))
within p q a (suc n) low high =
    ⊎_elim
    (λ e. ap (λ k. list_any (nat_eq q) (filter p (range_with_len k (suc n)))) e ∙ at_it p q n (p q) refl)
    (λ l. skipped p q a (filter p (range_with_len (a + 1) n)) (p a) (not_equal q a (λ e. omega (arith, l, e))) ∙ within p q (a + 1) n (omega (arith, l)) (omega (arith, high)))
    (eq-or-lt_of_le low)

above : (p : ℕ → Bool) (q a n : ℕ) → a + n ≤ q → list_any (nat_eq q) (filter p (range_with_len a n)) ≡ false
above p q a zero h = refl
above p q a (suc n) h = skipped p q a (filter p (range_with_len (a + 1) n)) (p a) (not_equal q a (λ e. omega (arith, h, e))) ∙ above p q (a + 1) n (omega (arith, h))

empty_behind : (cs : List (Option Held)) (q : ℕ) → length cs ≤ q → slot_at cs q ≡ None
empty_behind [] q h = refl
empty_behind (c ∷ cs) zero h = absurd (omega (arith, h))
empty_behind (c ∷ cs) (suc q) h = empty_behind cs q (omega (arith, h))

pub slots_listed : (cs : List (Option Held)) (n : ℕ) (l : List ℕ) → slot_at cs 0 ≡ None → length cs ≤ 1 + n → l ≡ filter (full cs) (range_with_len 1 n) → ListsExactly (λ q. is_some (slot_at cs q)) l
slots_listed cs n l first long e = subst_list (sym e) (record {
  rising = rises (full cs) n;
  members = each;
})
  where
    subst_list : {xs ys : List ℕ} → xs ≡ ys → ListsExactly (λ q. is_some (slot_at cs q)) xs → ListsExactly (λ q. is_some (slot_at cs q)) ys
    subst_list p x = subst (ListsExactly (λ q. is_some (slot_at cs q))) p x

    each : (q : ℕ) → list_any (nat_eq q) (filter (full cs) (range_with_len 1 n)) ≡ full cs q
    each zero = below (full cs) 0 1 n (omega arith) ∙ ap is_some (sym first)
    each (suc q) =
        ⊎_elim
        (λ l. within (full cs) (suc q) 1 n (omega arith) (omega (arith, l)))
        (λ h. above (full cs) (suc q) 1 n (omega (arith, h)) ∙ ap is_some (sym (empty_behind cs (suc q) (omega (arith, h, long)))))
        (cases_lt q n)

-- ---- tests

pub copied_some : (o : Option (Bor Held)) → is_some (option_copied o) ≡ is_some o
copied_some None = refl
copied_some (Some h) = refl

pub mapped_test : (cs : List (Option Held)) (n : ℕ) → is_some (slot_at cs n) ≡ is_some (slot_at (map (option_map form) cs) n)
mapped_test [] n = refl
mapped_test (None ∷ cs) zero = refl
mapped_test (Some c ∷ cs) zero = refl
mapped_test (c ∷ cs) (suc n) = mapped_test cs n

entry_test : (b : Bool) (c : Held) (o : Option Held) (q : Option Form) → is_some o ≡ is_some q → is_some (cond b (Some c) o) ≡ is_some (cond b (Some (form c)) q)
entry_test true c o q h = refl
entry_test false c o q h = h

pub sparse_test : (es : List (ℕ × Held)) (n : ℕ) → is_some (content_at es n) ≡ is_some (content_in (entries_of (map (λ e. (e.0, form e.1)) es)) n)
sparse_test [] n = refl
sparse_test (e ∷ es) n = entry_test (nat_eq n e.0) e.1 (content_at es n) (content_in (entries_of (map (λ e. (e.0, form e.1)) es)) n) (sparse_test es n)

-- lists of numbers that pass one of two tests that agree
pub same_test : (p q : ℕ → Bool) (l : List ℕ) → ((n : ℕ) → p n ≡ q n) → ListsExactly p l → ListsExactly q l
same_test p q l h x = record { rising = x.rising; members = λ n. x.members n ∙ h n }
