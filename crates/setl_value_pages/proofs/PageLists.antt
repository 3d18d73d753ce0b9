-- What one change makes of the pages.
use Rattle.std.specs.Prelude.{◌≡◌, ℕ, suc, ◌+◌, ◌-◌, ◌<◌, ◌≤◌, List, [], ◌∷◌, ◌++◌, length, take, drop, map, slice_index_or, slice_set}
use Rattle.std.specs.List.{AllByRecursion}
use Rattle.std.proofs.Common.{arith, ap, sym, ◌∙◌, length-append}
use Rattle.std.proofs.lemmas.List.{append-nil, length-take, length-drop}
use Rattle.setl_value_pages.specs.Pages.{IsPage, items, joined, page_at}
use Rattle.setl_value_pages.specs.Exchange.{Exchanges}
use Rattle.setl_value_pages.specs.ListLaws.{map-between, none_left}
use Rattle.setl_value_pages.specs.PageLaws.{Shared, joined_append, one_page, page_was, page_written}

-- no page in the place of a page with one member
pub no_page : {X : Type 0} {ps new : List (List X)} {k : ℕ} → length (page_at ps k) ≡ 1 → new ≡ take k ps ++ drop (suc k) ps → Exchanges ps new k 0 k 1 []
no_page {X} {ps} {new} {k} h n = record { by = []; pages = tt; whole = sym (none_left (page_at ps k) 1 (omega (arith, h))); changed = n }

-- one page that was changed where it stands
pub written : {X : Type 0} (xs : List (Shared X)) (k i j : ℕ) (p q : Shared X) (ms : List X) → k < length xs → p ≡ slice_index_or xs k p → i ≤ j → j ≤ length (page_at (map items xs) k)
    → 1 ≤ i + length ms + (length (page_at (map items xs) k) - j) → i + length ms + (length (page_at (map items xs) k) - j) ≤ 64
    → items q ≡ take i (items p) ++ (ms ++ drop j (items p))
    → Exchanges (map items xs) (map items (slice_set xs k q)) k i k j ms
written xs k i j p q ms h e u l some few w =
    let was = page_was xs k p h e in
    let now : items q ≡ take i (page_at (map items xs) k) ++ (ms ++ drop j (page_at (map items xs) k)) = w ∙ ap (λ m. take i m ++ (ms ++ drop j m)) (sym was) in
    let size : length (items q) ≡ i + length ms + (length (page_at (map items xs) k) - j) =
    omega (arith, ap length now, length-append (take i (page_at (map items xs) k)) (ms ++ drop j (page_at (map items xs) k)), length-append ms (drop j (page_at (map items xs) k)), length-take i (page_at (map items xs) k), length-drop j (page_at (map items xs) k)) in
    let small : IsPage (items q) = (omega (arith, size), omega (arith, size)) in
    one_page (items q) small now (page_written xs k q h)

-- new pages in the place of some
pub rebuilt : {X : Type 0} (xs ys zs : List (Shared X)) (k i l j : ℕ) (ms : List X) → AllByRecursion IsPage (map items ys) → joined (map items ys) ≡ take i (page_at (map items xs) k) ++ (ms ++ drop j (page_at (map items xs) l))
    → zs ≡ take k xs ++ ys ++ drop (l + 1) xs → Exchanges (map items xs) (map items zs) k i l j ms
rebuilt xs ys zs k i l j ms a w e = record {
  by = map items ys;
  pages = a;
  whole = w;
  changed = ap (map items) e ∙ map-between items xs k (l + 1) ys ∙ ap (λ n. take k (map items xs) ++ (map items ys ++ drop n (map items xs))) {x = l + 1} {y = suc l} (omega arith);
}

pub page_added : {X : Type 0} (ps new : List (List X)) (p : List X) → new ≡ ps ++ p ∷ [] → joined new ≡ joined ps ++ p
page_added ps new p e = ap joined e ∙ joined_append ps (p ∷ []) ∙ ap (λ l. joined ps ++ l) (append-nil p)
