-- How many items the pages have once an item is put on one.
use Rattle.std.specs.Prelude.{◌≡◌, ℕ, zero, suc, ◌+◌, ◌<◌, ◌≤◌, true, false, List, [], ◌∷◌, ◌++◌, length, take, drop, map, nat_lt, slice_index_or, slice_set, if◌then◌else◌}
use Rattle.std.proofs.Common.{arith, ap, sym, ◌∙◌, length-append}
use Rattle.std.proofs.lemmas.Bool.Decides.{nat_tests}
use Rattle.std.proofs.lemmas.List.{length-map, length-take, length-drop}
use Rattle.setl_value_pages.specs.Pages.{items, page_at}
use Rattle.setl_value_pages.specs.Exchange.{AreHalves, page_sizes, put_size}
use Rattle.setl_value_pages.specs.ListLaws.{map-between}
use Rattle.setl_value_pages.specs.PageLaws.{Shared, page_was, page_written}

size_written : {X : Type 0} (ps : List (List X)) (k : ℕ) (q : List X) → k < length ps → length (page_at ps k) < 64 → length q ≡ suc (length (page_at ps k))
    → page_sizes (take k ps ++ q ∷ drop (suc k) ps) ≡ put_size (page_sizes ps) k
size_written [] k q h room e = absurd (omega arith)
size_written (p ∷ ps) zero q h room e =
    let t : nat_lt (length p) 64 ≡ true = grind (arith, nat_tests) in
    ap (λ n. n ∷ page_sizes ps) e ∙ ap (λ b. if b then suc (length p) ∷ page_sizes ps else 32 ∷ 33 ∷ page_sizes ps) (sym t)
size_written (p ∷ ps) (suc k) q h room e = ap (λ l. length p ∷ l) (size_written ps k q (omega arith) room e)

sizes_halved : {X : Type 0} (ps : List (List X)) (k : ℕ) (l r : List X) → k < length ps → length (page_at ps k) ≡ 64 → length l ≡ 32 → length r ≡ 33
    → page_sizes (take k ps ++ l ∷ r ∷ drop (suc k) ps) ≡ put_size (page_sizes ps) k
sizes_halved [] k l r h full a b = absurd (omega arith)
sizes_halved (p ∷ ps) zero l r h full a b =
    let t : nat_lt (length p) 64 ≡ false = grind (arith, nat_tests) in
    ap (λ n. n ∷ length r ∷ page_sizes ps) a ∙ ap (λ n. 32 ∷ n ∷ page_sizes ps) b ∙ ap (λ b. if b then suc (length p) ∷ page_sizes ps else 32 ∷ 33 ∷ page_sizes ps) (sym t)
sizes_halved (p ∷ ps) (suc k) l r h full a b = ap (λ m. length p ∷ m) (sizes_halved ps k l r (omega arith) full a b)

one_more : {X : Type 0} (i : ℕ) (ms ns : List X) (d : X) → i ≤ length ms → ns ≡ take i ms ++ (d ∷ drop i ms) → length ns ≡ suc (length ms)
one_more i ms ns d h e = omega (arith, ap length e, length-append (take i ms) (d ∷ drop i ms), length-take i ms, length-drop i ms)

-- a page with room
pub written_sizes : {X : Type 0} (xs : List (Shared X)) (k i : ℕ) (p q : Shared X) (d : X) → k < length xs → p ≡ slice_index_or xs k p → i ≤ length (page_at (map items xs) k) → length (page_at (map items xs) k) < 64
    → items q ≡ take i (items p) ++ (d ∷ drop i (items p)) → page_sizes (map items (slice_set xs k q)) ≡ put_size (page_sizes (map items xs)) k
written_sizes xs k i p q d h e l room w =
    let was = page_was xs k p h e in
    ap page_sizes (page_written xs k q h)
    ∙ size_written (map items xs) k (items q) (omega (arith, length-map xs items)) room (one_more i (page_at (map items xs) k) (items q) d l (w ∙ ap (λ m. take i m ++ (d ∷ drop i m)) (sym was)))

-- a full page
pub halved_sizes : {X : Type 0} (xs ys zs : List (Shared X)) (k : ℕ) → k < length xs → length (page_at (map items xs) k) ≡ 64 → AreHalves (map items ys) → zs ≡ take k xs ++ ys ++ drop (k + 1) xs
    → page_sizes (map items zs) ≡ put_size (page_sizes (map items xs)) k
halved_sizes xs [] zs k h full two e = absurd two
halved_sizes xs (l ∷ []) zs k h full two e = absurd two
halved_sizes xs (l ∷ r ∷ y ∷ ys) zs k h full two e = absurd two
halved_sizes xs (l ∷ r ∷ []) zs k h full two e =
    ap (λ m. page_sizes (map items m)) e ∙ ap page_sizes (map-between items xs k (k + 1) (l ∷ r ∷ []))
    ∙ ap (λ n. page_sizes (take k (map items xs) ++ items l ∷ items r ∷ drop n (map items xs))) {x = k + 1} {y = suc k} (omega arith)
    ∙ sizes_halved (map items xs) k (items l) (items r) (omega (arith, length-map xs items)) full two.0 two.1
