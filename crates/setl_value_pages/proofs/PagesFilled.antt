-- How many items the pages have once an item is taken out, or others come in the place of some.
use Rattle.std.specs.Prelude.{◌≡◌, ℕ, zero, suc, ◌+◌, ◌-◌, ◌/◌, ◌<◌, ◌≤◌, min, sum, true, false, List, [], ◌∷◌, ◌++◌, length, take, drop, map, nat_lt, slice_index_or, slice_set, if◌then◌else◌, refl}
use Rattle.std.specs.List.{AllByRecursion, fold}
use Rattle.std.proofs.Common.{arith, ap, sym, ◌∙◌, subst, length-append}
use Rattle.std.proofs.Math.Nat.{div-one, div-eq_of_lt}
use Rattle.std.proofs.lemmas.Bool.Decides.{nat_tests}
use Rattle.std.proofs.lemmas.List.{append-nil, drop-map, length-map, length-take, length-drop, map-append, take-map}
use Rattle.setl_value_pages.specs.Pages.{items, joined, page_at}
use Rattle.setl_value_pages.specs.Exchange.{AreFilled, Ends, Refills, cut_size, even_size, new_size, page_sizes}
use Rattle.setl_value_pages.specs.ListLaws.{all_append, map-between}
use Rattle.setl_value_pages.specs.PageLaws.{Shared, page_was, page_written}

-- ---- an item is taken out

size_cut : {X : Type 0} (ps : List (List X)) (k : ℕ) (q : List X) → k < length ps → 1 < length (page_at ps k) → suc (length q) ≡ length (page_at ps k)
    → page_sizes (take k ps ++ q ∷ drop (suc k) ps) ≡ cut_size (page_sizes ps) k
size_cut [] k q h two e = absurd (omega arith)
size_cut (p ∷ ps) zero q h two e =
    let t : nat_lt 1 (length p) ≡ true = grind (arith, nat_tests) in
    ap (λ n. n ∷ page_sizes ps) {x = length q} {y = length p - 1} (omega (arith, e)) ∙ ap (λ b. if b then (length p - 1) ∷ page_sizes ps else page_sizes ps) (sym t)
size_cut (p ∷ ps) (suc k) q h two e = ap (λ l. length p ∷ l) (size_cut ps k q (omega arith) two e)

pub sizes_left : {X : Type 0} (ps : List (List X)) (k : ℕ) → k < length ps → length (page_at ps k) ≡ 1 → page_sizes (take k ps ++ drop (suc k) ps) ≡ cut_size (page_sizes ps) k
sizes_left [] k h one = absurd (omega arith)
sizes_left (p ∷ ps) zero h one =
    let t : nat_lt 1 (length p) ≡ false = grind (arith, nat_tests) in
    ap (λ b. if b then (length p - 1) ∷ page_sizes ps else page_sizes ps) (sym t)
sizes_left (p ∷ ps) (suc k) h one = ap (λ l. length p ∷ l) (sizes_left ps k (omega arith) one)

one_less : {X : Type 0} (i : ℕ) (ms ns : List X) → i < length ms → ns ≡ take i ms ++ drop (suc i) ms → suc (length ns) ≡ length ms
one_less i ms ns h e = omega (arith, ap length e, length-append (take i ms) (drop (suc i) ms), length-take i ms, length-drop (suc i) ms)

pub cut_sizes : {X : Type 0} (xs : List (Shared X)) (k i : ℕ) (p q : Shared X) → k < length xs → p ≡ slice_index_or xs k p → i < length (page_at (map items xs) k) → 1 < length (page_at (map items xs) k)
    → items q ≡ take i (items p) ++ drop (suc i) (items p) → page_sizes (map items (slice_set xs k q)) ≡ cut_size (page_sizes (map items xs)) k
cut_sizes xs k i p q h e l two w =
    let was = page_was xs k p h e in
    ap page_sizes (page_written xs k q h)
    ∙ size_cut (map items xs) k (items q) (omega (arith, length-map xs items)) two (one_less i (page_at (map items xs) k) (items q) l (w ∙ ap (λ m. take i m ++ drop (suc i) m) (sym was)))

-- ---- pages that are filled one after the other

pub full_ends : {X : Type 0} (most : ℕ) (old new : List (List X)) (page : List X) → AllByRecursion (λ n. n ≡ most) (page_sizes old) → length page ≡ most → Ends old page new → AllByRecursion (λ n. n ≡ most) (page_sizes new)
full_ends most old new [] a h e = subst (λ ps. AllByRecursion (λ n. n ≡ most) (page_sizes ps)) (sym e) a
full_ends most old new (x ∷ xs) a h e =
    subst (λ ps. AllByRecursion (λ n. n ≡ most) ps) (sym (ap page_sizes e ∙ map-append length old ((x ∷ xs) ∷ []))) (all_append (λ n. n ≡ most) (page_sizes old) (length (x ∷ xs) ∷ []) a (h, tt))

filled_full : (most : ℕ) (ns : List ℕ) → AllByRecursion (λ n. n ≡ most) ns → AreFilled most ns
filled_full most [] a = tt
filled_full most (n ∷ []) a = omega (arith, a.0)
filled_full most (n ∷ m ∷ ns) a = (a.0, filled_full most (m ∷ ns) a.1)

filled_last : (most last : ℕ) (ns : List ℕ) → AllByRecursion (λ n. n ≡ most) ns → last ≤ most → AreFilled most (ns ++ last ∷ [])
filled_last most last [] a h = h
filled_last most last (n ∷ []) a h = (a.0, h)
filled_last most last (n ∷ m ∷ ns) a h = (a.0, filled_last most last (m ∷ ns) a.1 h)

pub filled_ends : {X : Type 0} (most : ℕ) (old new : List (List X)) (page : List X) → AllByRecursion (λ n. n ≡ most) (page_sizes old) → length page ≤ most → Ends old page new → AreFilled most (page_sizes new)
filled_ends most old new [] a h e = subst (λ ps. AreFilled most (page_sizes ps)) (sym e) (filled_full most (page_sizes old) a)
filled_ends most old new (x ∷ xs) a h e =
    subst (λ ps. AreFilled most ps) (sym (ap page_sizes e ∙ map-append length old ((x ∷ xs) ∷ []))) (filled_last most (length (x ∷ xs)) (page_sizes old) a h)

-- ---- other pages stand in the place of some

sum_from : {X : Type 0} (ps : List (List X)) (n : ℕ) → fold ◌+◌ n (page_sizes ps) ≡ n + length (joined ps)
sum_from [] n = omega arith
sum_from (p ∷ ps) n = sum_from ps (n + length p) ∙ omega (arith, length-append p (joined ps))

sum_sizes : {X : Type 0} (ps : List (List X)) → sum (page_sizes ps) ≡ length (joined ps)
sum_sizes ps = sum_from ps 0 ∙ omega arith

sizes_between : {X : Type 0} (ps by : List (List X)) (k l : ℕ) → page_sizes (take k ps ++ (by ++ drop l ps)) ≡ take k (page_sizes ps) ++ (page_sizes by ++ drop l (page_sizes ps))
sizes_between ps by k l =
    map-append length (take k ps) (by ++ drop l ps) ∙ ap (λ m. map length (take k ps) ++ m) (map-append length by (drop l ps))
    ∙ (λ n. sym (take-map length k ps) n ++ (page_sizes by ++ sym (drop-map length l ps) n))

-- one page that is small enough is filled
one_filled : (ns : List ℕ) (n : ℕ) → 1 ≤ n → n ≤ 64 → n ≤ new_size ns (0 + n)
one_filled [] n some few = few
one_filled (m ∷ ns) n some few =
    let none : (n - 1) / 64 + 1 ≡ 1 = ap (λ d. d + 1) (div-eq_of_lt {n = n - 1} {m = 64} (omega arith)) in
    subst (λ c. n ≤ even_size c) {x = n} {y = 0 + n} (omega arith)
    (subst (λ d. n ≤ min (n / d + 1) 64) (sym none) (subst (λ c. n ≤ min (c + 1) 64) (sym (div-one n)) (omega arith)))

-- the size of the one page that is changed where it stands
pub one_refilled : {X : Type 0} (xs : List (Shared X)) (k i j : ℕ) (p q : Shared X) (ms : List X) → k < length xs → p ≡ slice_index_or xs k p → i ≤ j → j ≤ length (page_at (map items xs) k)
    → 1 ≤ i + length ms + (length (page_at (map items xs) k) - j) → i + length ms + (length (page_at (map items xs) k) - j) ≤ 64
    → items q ≡ take i (items p) ++ (ms ++ drop j (items p))
    → Refills (page_sizes (map items xs)) (page_sizes (map items (slice_set xs k q))) k k
one_refilled xs k i j p q ms h e u l some few w =
    let ps = map items xs in
    let was = page_was xs k p h e in
    let now : items q ≡ take i (page_at ps k) ++ (ms ++ drop j (page_at ps k)) = w ∙ ap (λ m. take i m ++ (ms ++ drop j m)) (sym was) in
    let size : length (items q) ≡ i + length ms + (length (page_at ps k) - j) =
    omega (arith, ap length now, length-append (take i (page_at ps k)) (ms ++ drop j (page_at ps k)), length-append ms (drop j (page_at ps k)), length-take i (page_at ps k), length-drop j (page_at ps k)) in
    (length (items q) ∷ [], one_filled (page_sizes ps) (length (items q)) (omega (arith, size)) (omega (arith, size)), ap page_sizes (page_written xs k q h) ∙ sizes_between ps (items q ∷ []) k (suc k))

new_even : (ns : List ℕ) (count : ℕ) → 0 < length ns → new_size ns count ≡ even_size count
new_even [] count h = absurd (omega arith)
new_even (n ∷ ns) count h = refl

pub refilled : {X : Type 0} (xs ys zs : List (Shared X)) (k l : ℕ) → l < length xs → AreFilled (even_size (length (joined (map items ys)))) (page_sizes (map items ys)) → zs ≡ take k xs ++ ys ++ drop (l + 1) xs
    → Refills (page_sizes (map items xs)) (page_sizes (map items zs)) k l
refilled xs ys zs k l h a e =
    let ns = page_sizes (map items xs) in
    let by = page_sizes (map items ys) in
    let some : 0 < length ns = omega (arith, length-map (map items xs) length, length-map xs items) in (
      by,
      subst (λ m. AreFilled m by) (sym (new_even ns (sum by) some ∙ ap even_size (sum_sizes (map items ys)))) a,
      ap (λ m. page_sizes (map items m)) e ∙ ap page_sizes (map-between items xs k (l + 1) ys) ∙ sizes_between (map items xs) (map items ys) k (l + 1)
          ∙ ap (λ n. take k ns ++ (by ++ drop n ns)) {x = l + 1} {y = suc l} (omega arith),
    )

pub filled_first : {X : Type 0} (xs ys : List (Shared X)) → AreFilled 64 (page_sizes (map items ys)) → xs ≡ ys ++ [] → Refills [] (page_sizes (map items xs)) 0 0
filled_first xs ys a e = (page_sizes (map items ys), a, ap (λ m. page_sizes (map items m)) (e ∙ append-nil ys) ∙ sym (append-nil (page_sizes (map items ys))))
