-- What is kept beside the pages of a set, after a change.
use Rattle.std.specs.Prelude.{◌≡◌, ℕ, suc, ◌+◌, ◌-◌, ◌<◌, ◌≤◌, List, [], ◌∷◌, ◌++◌, Some, length, take, drop, max, slice_get, slice_range}
use Rattle.std.specs.List.{AllByRecursion, insert, remove}
use Rattle.std.proofs.Common.{arith, ap, sym, ◌∙◌, subst, length-append}
use Rattle.std.proofs.lemmas.List.{length-take, length-drop}
use Rattle.setl_value_pages.specs.Pages.{joined, page_at, rank_in}
use Rattle.setl_value.specs.code.Counted.{IsCounted}
use Rattle.setl_value.specs.Datum.{Datum, depth, set_of}
use Rattle.setl_value_pages.specs.Exchange.{Exchanges}
use Rattle.setl_value.specs.Order.{IsRising}
use Rattle.setl_value.specs.Pairs.{other_count}
use Rattle.setl_value.specs.WellFormed.{IsValue, IsSetList, IsWellFormed}
use Rattle.setl_value_pages.specs.ListLaws.{replaced}
use Rattle.setl_value.proofs.Bodies.{set_insert, set_remove, set_replaced, depth_insert, depth_drop, depth_exchanged}
use Rattle.setl_value.proofs.Others.{counted, counted_at_most_length, count_insert, count_remove, count_replaced}
use Rattle.setl_value_pages.specs.PageLaws.{exchanged, exchanged_between, exchanged_pages, rank_within, item_of}

-- one member more
pub put_joined : {ps new : List (List Datum)} {k i : ℕ} {d : Datum} → i ≤ length (page_at ps k) → Exchanges ps new k i k i (d ∷ []) → joined new ≡ insert (joined ps) (rank_in ps k i) d
put_joined h e = exchanged h h e

length_between : {X : Type 0} (xs : List X) (i j : ℕ) (ms : List X) → i ≤ j → j ≤ length xs → length (take i xs ++ (ms ++ drop j xs)) + (j - i) ≡ length xs + length ms
length_between xs i j ms h l =
    omega (arith, length-append (take i xs) (ms ++ drop j xs), length-append ms (drop j xs), length-take i xs, length-drop j xs)

pub put_counted : {ps new : List (List Datum)} {k i : ℕ} {d : Datum} {count deep others : ℕ} → IsCounted ps count deep others → i ≤ length (page_at ps k) → Exchanges ps new k i k i (d ∷ [])
    → IsValue d → IsRising (insert (joined ps) (rank_in ps k i) d) → depth (set_of (insert (joined ps) (rank_in ps k i) d)) ≤ 500
    → (m n o : ℕ) → m ≡ count + 1 → n ≡ max deep (depth d + 1) → o ≡ others + counted d → IsCounted new m n o
put_counted {ps} {new} {k} {i} {d} {count} {deep} {others} c h e v r s m n o em en eo =
    let w = put_joined h e in
    let t = rank_in ps k i in
    record {
      pages = exchanged_pages c.pages e;
      members = subst IsSetList (sym w) (set_insert (joined ps) t d c.members v r s);
      counted = omega (arith, em, c.counted, ap length w, length_between (joined ps) t t (d ∷ []) (omega arith) (rank_within ps k i h));
      deepest = omega (arith, en, c.deepest, ap (λ l. depth (set_of l)) w, depth_insert (joined ps) t d);
      no_pairs = omega (arith, eo, c.no_pairs, ap other_count w, count_insert (joined ps) t d);
    }

-- one member less
pub cut_joined : {ps new : List (List Datum)} {k i : ℕ} → i < length (page_at ps k) → Exchanges ps new k i k (i + 1) [] → joined new ≡ remove (joined ps) (rank_in ps k i)
cut_joined {ps} {new} {k} {i} h e =
    exchanged (omega arith) (omega arith) e
    ∙ ap (λ n. take (rank_in ps k i) (joined ps) ++ drop n (joined ps)) {x = rank_in ps k (i + 1)} {y = suc (rank_in ps k i)} (omega arith)

pub cut_counted : {ps new : List (List Datum)} {k i : ℕ} {d : Datum} {count deep others : ℕ} → IsCounted ps count deep others → i < length (page_at ps k) → Exchanges ps new k i k (i + 1) []
    → slice_get (page_at ps k) i ≡ Some d
    → (m n o : ℕ) → m ≡ count - 1 → n ≡ depth (set_of (joined new)) → o ≡ others - counted d → IsCounted new m n o
cut_counted {ps} {new} {k} {i} {d} {count} {deep} {others} c h e g m n o em en eo =
    let w = cut_joined h e in
    let t = rank_in ps k i in
    let there : slice_get (joined ps) t ≡ Some d = item_of ps k i h ∙ g in
    record {
      pages = exchanged_pages c.pages e;
      members = subst IsSetList (sym w) (set_remove (joined ps) t c.members);
      counted = omega (arith, em, c.counted, ap length w, length_between (joined ps) t (suc t) [] (omega arith) (omega (arith, rank_within ps k (i + 1) (omega arith))));
      deepest = en;
      no_pairs = omega (arith, eo, c.no_pairs, ap other_count w, count_remove (joined ps) t d there);
    }

-- some members in the place of others
pub replace_counted : {ps new : List (List Datum)} {k i l j : ℕ} {ms : List Datum} {count deep others : ℕ} → IsCounted ps count deep others → i ≤ length (page_at ps k) → j ≤ length (page_at ps l)
    → rank_in ps k i ≤ rank_in ps l j → Exchanges ps new k i l j ms → AllByRecursion IsWellFormed ms
    → IsRising (replaced (joined ps) (rank_in ps k i) (rank_in ps l j) ms) → depth (set_of (replaced (joined ps) (rank_in ps k i) (rank_in ps l j) ms)) ≤ 500
    → (m n o : ℕ) → m + (rank_in ps l j - rank_in ps k i) ≡ count + length ms → n ≡ depth (set_of (joined new))
    → o + other_count (slice_range (joined ps) (rank_in ps k i) (rank_in ps l j)) ≡ others + other_count ms → IsCounted new m n o
replace_counted {ps} {new} {k} {i} {l} {j} {ms} {count} {deep} {others} c hi hj u e a r s m n o em en eo =
    let w = exchanged_between hi hj e in
    let t = rank_in ps k i in
    let z = rank_in ps l j in
    record {
      pages = exchanged_pages c.pages e;
      members = subst IsSetList (sym w) (set_replaced (joined ps) t z ms c.members a r s);
      counted = omega (arith, em, c.counted, ap length (exchanged hi hj e), length_between (joined ps) t z ms u (rank_within ps l j hj));
      deepest = en;
      no_pairs = omega (arith, eo, c.no_pairs, ap other_count w, count_replaced (joined ps) t z ms u);
    }

-- the first n members from the r-th on
part_is : {X : Type 0} (xs : List X) (r n : ℕ) → take n (drop r xs) ≡ slice_range xs r (r + n)
part_is xs r n = ap (λ m. take m (drop r xs)) {x = n} {y = r + n - r} (omega arith)

pub gone_few : {ps : List (List Datum)} {count deep others : ℕ} (r n g : ℕ) → IsCounted ps count deep others → g ≡ other_count (take n (drop r (joined ps))) → g ≤ others
gone_few {ps} r n g c e = omega (arith, e, ap other_count (part_is (joined ps) r n), c.no_pairs, count_replaced (joined ps) r (r + n) [] (omega arith))

pub gone_shallow : (ds : List Datum) (r : ℕ) → depth (set_of ds) ≤ 500 → depth (set_of (drop r ds)) ≤ 500
gone_shallow ds r h = omega (arith, depth_drop ds r)

pub others_fit : {ps : List (List Datum)} {count deep others : ℕ} (r n g : ℕ) (ms : List Datum) → IsCounted ps count deep others → r + n ≤ length (joined ps) → g ≡ other_count (take n (drop r (joined ps)))
    → others - g + other_count ms ≤ count - n + length ms
others_fit {ps} r n g ms c h e =
    let ds = joined ps in
    omega (arith, e, ap other_count (part_is ds r n), c.no_pairs, c.counted, count_replaced ds r (r + n) ms (omega arith), count_replaced ds r (r + n) [] (omega arith), counted_at_most_length (replaced ds r (r + n) ms), length-append (take r ds ++ ms) (drop (r + n) ds), length-append (take r ds) ms, length-take r ds, length-drop (r + n) ds)

pub depth_left : {ps new : List (List Datum)} {k i l j : ℕ} {ms : List Datum} (n : ℕ) → i ≤ length (page_at ps k) → j ≤ length (page_at ps l) → rank_in ps l j ≡ rank_in ps k i + n → Exchanges ps new k i l j ms
    → max (depth (set_of (joined new))) (depth (set_of (take n (drop (rank_in ps k i) (joined ps))))) ≡ max (depth (set_of (joined ps))) (depth (set_of ms))
depth_left {ps} {new} {k} {i} {l} {j} {ms} n hi hj z e =
    let t = rank_in ps k i in
    omega (arith, ap (λ m. depth (set_of m)) (exchanged_between hi hj e ∙ ap (λ m. replaced (joined ps) t m ms) z), ap (λ m. depth (set_of m)) (part_is (joined ps) t n), depth_exchanged (joined ps) t (t + n) ms (omega arith))

pub part_counted : {ps new : List (List Datum)} {k i l j : ℕ} {ms : List Datum} {count deep others : ℕ} (n g : ℕ) → IsCounted ps count deep others → i ≤ length (page_at ps k) → j ≤ length (page_at ps l)
    → rank_in ps l j ≡ rank_in ps k i + n → Exchanges ps new k i l j ms → AllByRecursion IsWellFormed ms
    → IsRising (replaced (joined ps) (rank_in ps k i) (rank_in ps k i + n) ms) → depth (set_of (replaced (joined ps) (rank_in ps k i) (rank_in ps k i + n) ms)) ≤ 500
    → g ≡ other_count (take n (drop (rank_in ps k i) (joined ps)))
    → (m d o : ℕ) → m + n ≡ count + length ms → d ≡ depth (set_of (joined new)) → o + g ≡ others + other_count ms → IsCounted new m d o
part_counted {ps} {new} {k} {i} {l} {j} {ms} n g c hi hj z e a r s eg m d o em ed eo =
    let t = rank_in ps k i in
    replace_counted c hi hj (omega (arith, z)) e a (subst (λ x. IsRising (replaced (joined ps) t x ms)) (sym z) r) (subst (λ x. depth (set_of (replaced (joined ps) t x ms)) ≤ 500) (sym z) s) m d o
    (omega (arith, em, z)) ed (omega (arith, eo, eg, ap other_count (part_is (joined ps) t n), ap (λ x. other_count (slice_range (joined ps) t x)) z))
