-- Laws of pages: where a place of a page stands among all items, and what a change of some pages does.
use Rattle.std.specs.Prelude.{◌≡◌, ℕ, zero, suc, ◌+◌, ◌-◌, ◌<◌, ◌≤◌, List, [], ◌∷◌, ◌++◌, length, take, drop, map, refl, slice_get, slice_index_or, slice_set}
use Rattle.std.specs.List.{AllByRecursion}
use Rattle.std.proofs.Common.{arith, ap, sym, ◌∙◌, subst, length-append}
use Rattle.std.proofs.lemmas.List.{append-nil, append_assoc, drop-append-le, take-append-le, length-map}
use Rattle.std.proofs.Math.Seq.{drop-append-add, take-append-add}
use Rattle.std.specs.declared.rc.Rc.{Rc}
use Rattle.std.specs.declared.vec.Vec.{Vec}
use Rattle.std.specs.declared.alloc.Global.{Global}
use Rattle.setl_value_pages.specs.Pages.{IsPage, items, joined, page_at, rank_in}
use Rattle.setl_value_pages.specs.Exchange.{Exchanges}
use Rattle.setl_value_pages.specs.ListLaws.{all_append, all_drop, all_take, drop_none, get_left, get_right, replaced}

pub joined_append : {X : Type 0} (ps qs : List (List X)) → joined (ps ++ qs) ≡ joined ps ++ joined qs
joined_append [] qs = refl
joined_append (p ∷ ps) qs = ap (λ l. p ++ l) (joined_append ps qs) ∙ sym (append_assoc p (joined ps) (joined qs))

-- what stands before a place of a page, and from it on
pub taken : {X : Type 0} (ps : List (List X)) (k i : ℕ) → i ≤ length (page_at ps k) → take (rank_in ps k i) (joined ps) ≡ joined (take k ps) ++ take i (page_at ps k)
taken [] zero zero h = refl
taken [] (suc k) zero h = refl
taken [] zero (suc i) h = absurd (omega arith)
taken [] (suc k) (suc i) h = absurd (omega arith)
taken (p ∷ ps) zero i h = ap (λ n. take n (p ++ joined ps)) {x = 0 + i} {y = i} (omega arith) ∙ take-append-le i p (joined ps) h
taken (p ∷ ps) (suc k) i h =
    ap (λ n. take n (p ++ joined ps)) {x = rank_in (p ∷ ps) (suc k) i} {y = length p + rank_in ps k i} (omega (arith, length-append p (joined (take k ps))))
    ∙ take-append-add p (joined ps) (rank_in ps k i) ∙ ap (λ l. p ++ l) (taken ps k i h) ∙ sym (append_assoc p (joined (take k ps)) (take i (page_at ps k)))

pub dropped : {X : Type 0} (ps : List (List X)) (k i : ℕ) → i ≤ length (page_at ps k) → drop (rank_in ps k i) (joined ps) ≡ drop i (page_at ps k) ++ joined (drop (suc k) ps)
dropped [] zero zero h = refl
dropped [] (suc k) zero h = refl
dropped [] zero (suc i) h = absurd (omega arith)
dropped [] (suc k) (suc i) h = absurd (omega arith)
dropped (p ∷ ps) zero i h = ap (λ n. drop n (p ++ joined ps)) {x = 0 + i} {y = i} (omega arith) ∙ drop-append-le i p (joined ps) h
dropped (p ∷ ps) (suc k) i h =
    ap (λ n. drop n (p ++ joined ps)) {x = rank_in (p ∷ ps) (suc k) i} {y = length p + rank_in ps k i} (omega (arith, length-append p (joined (take k ps))))
    ∙ drop-append-add p (joined ps) (rank_in ps k i) ∙ dropped ps k i h

-- the pages before the k-th one, and those from it on
pub pages_before : {X : Type 0} (ps : List (List X)) (k : ℕ) → take (rank_in ps k 0) (joined ps) ≡ joined (take k ps)
pages_before ps k = taken ps k 0 (omega arith) ∙ append-nil (joined (take k ps))

pub pages_behind : {X : Type 0} (ps : List (List X)) (k : ℕ) → drop (rank_in ps k 0) (joined ps) ≡ joined (drop k ps)
pages_behind [] k = drop_none (rank_in [] k 0) ∙ sym (ap joined (drop_none k))
pages_behind (p ∷ ps) zero = refl
pages_behind (p ∷ ps) (suc k) =
    ap (λ n. drop n (p ++ joined ps)) {x = rank_in (p ∷ ps) (suc k) 0} {y = length p + rank_in ps k 0} (omega (arith, length-append p (joined (take k ps))))
    ∙ drop-append-add p (joined ps) (rank_in ps k 0) ∙ pages_behind ps k

-- one page more
pub rank_next : {X : Type 0} (ps : List (List X)) (k : ℕ) → rank_in ps (suc k) 0 ≡ rank_in ps k (length (page_at ps k))
rank_next [] zero = refl
rank_next [] (suc k) = refl
rank_next (p ∷ ps) zero = omega (arith, length-append p [])
rank_next (p ∷ ps) (suc k) = omega (arith, length-append p (joined (take (suc k) ps)), length-append p (joined (take k ps)), rank_next ps k)

-- no place is behind all items
pub rank_within : {X : Type 0} (ps : List (List X)) (k i : ℕ) → i ≤ length (page_at ps k) → rank_in ps k i ≤ length (joined ps)
rank_within [] zero i h = omega (arith, h)
rank_within [] (suc k) i h = omega (arith, h)
rank_within (p ∷ ps) zero i h = omega (arith, length-append p (joined ps))
rank_within (p ∷ ps) (suc k) i h = omega (arith, length-append p (joined ps), length-append p (joined (take k ps)), rank_within ps k i h)

-- an item of a page
pub item_of : {X : Type 0} (ps : List (List X)) (k i : ℕ) → i < length (page_at ps k) → slice_get (joined ps) (rank_in ps k i) ≡ slice_get (page_at ps k) i
item_of [] zero i h = absurd (omega arith)
item_of [] (suc k) i h = absurd (omega arith)
item_of (p ∷ ps) zero i h = ap (slice_get (p ++ joined ps)) {x = 0 + i} {y = i} (omega arith) ∙ get_left p (joined ps) i h
item_of (p ∷ ps) (suc k) i h =
    get_right p (joined ps) (rank_in ps k i) (rank_in (p ∷ ps) (suc k) i) (omega (arith, length-append p (joined (take k ps)))) ∙ item_of ps k i h

pub page_there : {X : Type 0} (ps : List (List X)) (k : ℕ) → AllByRecursion IsPage ps → k < length ps → IsPage (page_at ps k)
page_there [] k a h = absurd (omega arith)
page_there (p ∷ ps) zero a h = a.0
page_there (p ∷ ps) (suc k) a h = page_there ps k a.1 (omega arith)

-- a page with an item is there
pub size_there : {X : Type 0} (ps : List (List X)) (k : ℕ) → 0 < length (page_at ps k) → k < length ps
size_there [] zero h = absurd (omega arith)
size_there [] (suc k) h = absurd (omega arith)
size_there (p ∷ ps) zero h = omega arith
size_there (p ∷ ps) (suc k) h = omega (arith, size_there ps k h)

-- a later page begins later
pub rank_rises : {X : Type 0} (ps : List (List X)) (k l : ℕ) → AllByRecursion IsPage ps → k < l → l ≤ length ps → rank_in ps k 0 < rank_in ps l 0
rank_rises [] k l a h n = absurd (omega arith)
rank_rises (p ∷ ps) k zero a h n = absurd (omega arith)
rank_rises (p ∷ ps) zero (suc l) a h n = omega (arith, a.0.0, length-append p (joined (take l ps)))
rank_rises (p ∷ ps) (suc k) (suc l) a h n = omega (arith, length-append p (joined (take k ps)), length-append p (joined (take l ps)), rank_rises ps k l a.1 (omega arith) (omega arith))

pub rank_grows : {X : Type 0} (ps : List (List X)) (k l : ℕ) → k ≤ l → rank_in ps k 0 ≤ rank_in ps l 0
rank_grows ps zero l h = omega arith
rank_grows ps (suc k) zero h = absurd (omega arith)
rank_grows [] (suc k) (suc l) h = omega arith
rank_grows (p ∷ ps) (suc k) (suc l) h = omega (arith, length-append p (joined (take k ps)), length-append p (joined (take l ps)), rank_grows ps k l (omega arith))

-- a page that doesn't begin behind all items is there
pub page_before_end : {X : Type 0} (ps : List (List X)) (k : ℕ) → rank_in ps k 0 < length (joined ps) → k < length ps
page_before_end [] zero h = absurd (omega arith)
page_before_end [] (suc k) h = absurd (omega arith)
page_before_end (p ∷ ps) zero h = omega arith
page_before_end (p ∷ ps) (suc k) h = omega (arith, page_before_end ps k (omega (arith, h, length-append p (joined ps), length-append p (joined (take k ps)))))

-- a place behind a page is one of a later page
pub stepped : {X : Type 0} (ps : List (List X)) (k i : ℕ) → AllByRecursion IsPage ps → length (page_at ps k) < i → rank_in ps k i ≤ length (joined ps)
    → (suc k < length ps) × (rank_in ps (suc k) (i - length (page_at ps k)) ≡ rank_in ps k i)
stepped ps k i a h n = (page_before_end ps (suc k) (omega (arith, rank_next ps k)), omega (arith, rank_next ps k))

-- the place behind the last item of a page is the first one of the next page
pub stood : {X : Type 0} (ps : List (List X)) (k i : ℕ) → i ≡ length (page_at ps k) → rank_in ps k i < length (joined ps) → (suc k < length ps) × (rank_in ps (suc k) 0 ≡ rank_in ps k i)
stood ps k i e h = (page_before_end ps (suc k) (omega (arith, rank_next ps k, e)), omega (arith, rank_next ps k, e))

-- ---- exchanges

-- ms stands in the place of the items from the one place to before the other
pub exchanged : {X : Type 0} {ps new : List (List X)} {k i l j : ℕ} {ms : List X} → i ≤ length (page_at ps k) → j ≤ length (page_at ps l) → Exchanges ps new k i l j ms
    → joined new ≡ take (rank_in ps k i) (joined ps) ++ (ms ++ drop (rank_in ps l j) (joined ps))
exchanged {X} {ps} {new} {k} {i} {l} {j} {ms} hi hj e =
    ap joined e.changed ∙ joined_append (take k ps) (e.by ++ drop (suc l) ps) ∙ ap (λ m. joined (take k ps) ++ m) (joined_append e.by (drop (suc l) ps))
    ∙ ap (λ m. joined (take k ps) ++ (m ++ joined (drop (suc l) ps))) e.whole
    ∙ ap (λ m. joined (take k ps) ++ m) (append_assoc (take i (page_at ps k)) (ms ++ drop j (page_at ps l)) (joined (drop (suc l) ps)))
    ∙ ap (λ m. joined (take k ps) ++ (take i (page_at ps k) ++ m)) (append_assoc ms (drop j (page_at ps l)) (joined (drop (suc l) ps)))
    ∙ sym (append_assoc (joined (take k ps)) (take i (page_at ps k)) (ms ++ (drop j (page_at ps l) ++ joined (drop (suc l) ps))))
    ∙ ap (λ m. m ++ (ms ++ (drop j (page_at ps l) ++ joined (drop (suc l) ps)))) (sym (taken ps k i hi))
    ∙ ap (λ m. take (rank_in ps k i) (joined ps) ++ (ms ++ m)) (sym (dropped ps l j hj))

pub exchanged_between : {X : Type 0} {ps new : List (List X)} {k i l j : ℕ} {ms : List X} → i ≤ length (page_at ps k) → j ≤ length (page_at ps l) → Exchanges ps new k i l j ms
    → joined new ≡ replaced (joined ps) (rank_in ps k i) (rank_in ps l j) ms
exchanged_between {X} {ps} {new} {k} {i} {l} {j} {ms} hi hj e =
    exchanged hi hj e ∙ sym (append_assoc (take (rank_in ps k i) (joined ps)) ms (drop (rank_in ps l j) (joined ps)))

pub exchanged_pages : {X : Type 0} {ps new : List (List X)} {k i l j : ℕ} {ms : List X} → AllByRecursion IsPage ps → Exchanges ps new k i l j ms → AllByRecursion IsPage new
exchanged_pages {X} {ps} {new} {k} {i} {l} {j} {ms} a e =
    subst (AllByRecursion IsPage) (sym e.changed)
    (all_append IsPage (take k ps) (e.by ++ drop (suc l) ps) (all_take IsPage ps k a) (all_append IsPage e.by (drop (suc l) ps) e.pages (all_drop IsPage ps (suc l) a)))

-- one page in the place of one page
pub one_page : {X : Type 0} {ps new : List (List X)} {k i j : ℕ} {ms : List X} (q : List X) → IsPage q → q ≡ take i (page_at ps k) ++ (ms ++ drop j (page_at ps k)) → new ≡ take k ps ++ q ∷ drop (suc k) ps
    → Exchanges ps new k i k j ms
one_page q h e n = record { by = q ∷ []; pages = (h, tt); whole = append-nil q ∙ e; changed = n }

-- ---- pages that are shared

abbrev pub Shared : Type 0 → Type 0
Shared X = Rc (Vec X Global) Global

page_in_list : {X : Type 0} (xs : List (Shared X)) (k : ℕ) (p : Shared X) → k < length xs → page_at (map items xs) k ≡ items (slice_index_or xs k p)
page_in_list [] k p h = absurd (omega arith)
page_in_list (x ∷ xs) zero p h = refl
page_in_list (x ∷ xs) (suc k) p h = page_in_list xs k p (omega arith)

pub page_written : {X : Type 0} (xs : List (Shared X)) (k : ℕ) (p : Shared X) → k < length xs → map items (slice_set xs k p) ≡ take k (map items xs) ++ items p ∷ drop (suc k) (map items xs)
page_written [] k p h = absurd (omega arith)
page_written (x ∷ xs) zero p h = refl
page_written (x ∷ xs) (suc k) p h = ap (λ l. items x ∷ l) (page_written xs k p (omega arith))

-- the page that is lent to be changed
pub page_was : {X : Type 0} (xs : List (Shared X)) (k : ℕ) (p : Shared X) → k < length xs → p ≡ slice_index_or xs k p → page_at (map items xs) k ≡ items p
page_was xs k p h e = page_in_list xs k p h ∙ ap items (sym e)

put_back : {X : Type 0} (ps : List (List X)) (k : ℕ) → k < length ps → take k ps ++ page_at ps k ∷ drop (suc k) ps ≡ ps
put_back [] k h = absurd (omega arith)
put_back (p ∷ ps) zero h = refl
put_back (p ∷ ps) (suc k) h = ap (λ l. p ∷ l) (put_back ps k (omega arith))

pub unwritten : {X : Type 0} (xs : List (Shared X)) (k : ℕ) (p q : Shared X) → k < length xs → p ≡ slice_index_or xs k p → q.value.items ≡ p.value.items → map items (slice_set xs k q) ≡ map items xs
unwritten xs k p q h e w =
    page_written xs k q h ∙ ap (λ l. take k (map items xs) ++ l ∷ drop (suc k) (map items xs)) (w ∙ sym (page_was xs k p h e))
    ∙ put_back (map items xs) k (omega (arith, length-map xs items))
