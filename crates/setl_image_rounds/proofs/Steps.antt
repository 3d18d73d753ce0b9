-- Steps of the search.
use Rattle.std.proofs.Common.{◌≡◌, ℕ, zero, suc, ◌+◌, ◌-◌, ◌<◌, ◌≤◌, true, false, List, [], ◌∷◌, ◌++◌, length, Some, None, refl, sym, ap, ◌∙◌, subst, inl, inr, arith}
use Rattle.std.specs.Prelude.{slice_set, get_or}
use Rattle.std.specs.List.{sum_by}
use Rattle.std.proofs.lemmas.Bool.{cases_lt, cases_eq, ne_eqb}
use Rattle.std.proofs.lemmas.Option.{none-some, slice_get_past}
use Rattle.std.proofs.lemmas.List.{length-append, length-set, get_or-set_same, get_or-set_other, get_or_append_left}
use Rattle.std.proofs.lemmas.List.Sums.{sum_by-set}
use Rattle.std.proofs.Math.Seq.{get_or-append_seam}
use Rattle.setl_live_reads.specs.declared.node.Way.{Way}
use Rattle.setl_image_rounds.specs.declared.search.Search.{Search}
use Rattle.setl_image_rounds.specs.Falling.{Leads, Fall, one_if_zero, one_if_not, IsAbove, Searching, Entered, Done, Left, IsTop, Stepped, IsOpenWay}

-- what stands at a place is what is found there, whatever were found behind the end
pub same_or : {A : Type 0} (xs : List A) (k : ℕ) (d e : A) → k < length xs → get_or xs k d ≡ get_or xs k e
same_or [] k d e less = absurd (omega (arith, less))
same_or (x ∷ xs) zero d e less = refl
same_or (x ∷ xs) (suc k) d e less = same_or xs k d e (omega (arith, less))

-- ---- paths with one step more

inside_more : (path : List ℕ) (to n : ℕ) → ((k : ℕ) → k < length path → get_or path k 0 < n) → to < n → (k : ℕ) → k < length (path ++ to ∷ []) → get_or (path ++ to ∷ []) k 0 < n
inside_more path to n inside within k less = elim (cases_lt k (length path)) [
  | inl before ↦ rw (get_or_append_left path (to ∷ []) 0 k before) (inside k before)
  | inr behind ↦
      let last : k ≡ length path = omega (arith, behind, less, length-append path (to ∷ [])) in
      rw last (rw (get_or-append_seam path to [] 0) within)
]

chain_more : (all : List Way) (path : List ℕ) (to : ℕ) → ((k : ℕ) → k + 1 < length path → Leads all (get_or path k 0) (get_or path (k + 1) 0)) → ((k : ℕ) → k + 1 ≡ length path → Leads all (get_or path k 0) to) → (k : ℕ) → k + 1 < length (path ++ to ∷ []) → Leads all (get_or (path ++ to ∷ []) k 0) (get_or (path ++ to ∷ []) (k + 1) 0)
chain_more all path to chain link k less =
    let inside : k < length path = omega (arith, less, length-append path (to ∷ [])) in
    rw (get_or_append_left path (to ∷ []) 0 k inside)
    (elim (cases_lt (k + 1) (length path)) [
      | inl before ↦ rw (get_or_append_left path (to ∷ []) 0 (k + 1) before) (chain k before)
      | inr behind ↦
          let last : k + 1 ≡ length path = omega (arith, behind, inside) in
          rw last (rw (get_or-append_seam path to [] 0) (link k last))
    ])

inside_less : (path : List ℕ) (top n : ℕ) → ((k : ℕ) → k < length (path ++ top ∷ []) → get_or (path ++ top ∷ []) k 0 < n) → (k : ℕ) → k < length path → get_or path k 0 < n
inside_less path top n inside k less = subst (λ t. t < n) (get_or_append_left path (top ∷ []) 0 k less) (inside k (omega (arith, less, length-append path (top ∷ []))))

chain_less : (all : List Way) (path : List ℕ) (top : ℕ) → ((k : ℕ) → k + 1 < length (path ++ top ∷ []) → Leads all (get_or (path ++ top ∷ []) k 0) (get_or (path ++ top ∷ []) (k + 1) 0)) → (k : ℕ) → k + 1 < length path → Leads all (get_or path k 0) (get_or path (k + 1) 0)
chain_less all path top chain k less =
    subst (λ t. Leads all t (get_or path (k + 1) 0)) (get_or_append_left path (top ∷ []) 0 k (omega (arith, less)))
    (subst (Leads all (get_or (path ++ top ∷ []) k 0)) (get_or_append_left path (top ∷ []) 0 (k + 1) less) (chain k (omega (arith, less, length-append path (top ∷ [])))))

-- ---- a step is entered

pub entered_keeps : (all : List Way) (s t : Search) (to : ℕ) → Searching all s → to < length all → ((k : ℕ) → k + 1 ≡ length s.path.items → Leads all (get_or s.path.items k 0) to) → Entered s to t → Searching all t
entered_keeps all s t to is within link e = record {
  heights = rw e.heights is.heights;
  entered = rw e.entered (length-set s.entered.items to true ∙ is.entered);
  above = rw e.heights is.above;
  most = rw e.heights (rw e.done is.most);
  counted = rw e.heights (rw e.done is.counted);
  inside = rw e.path (inside_more s.path.items to (length all) is.inside within);
  chain = rw e.path (chain_more all s.path.items to is.chain link);
  there = rw e.heights (rw e.entered (rw e.path there));
}
  where
    there : (at : ℕ) → get_or (slice_set s.entered.items to true) at false ≡ true → get_or s.heights.items at 0 ≡ 0 → (k : ℕ) × (k < length (s.path.items ++ to ∷ [])) × (get_or (s.path.items ++ to ∷ []) k 0 ≡ at)
    there at so unmet = elim (cases_eq at to) [
      | inl same ↦ (length s.path.items, omega (arith, length-append s.path.items (to ∷ [])), get_or-append_seam s.path.items to [] 0 ∙ sym same)
      | inr other ↦
          let found = is.there at (sym (get_or-set_other s.entered.items to at true false other) ∙ so) unmet in
          (found.0, omega (arith, found.1, length-append s.path.items (to ∷ [])), get_or_append_left s.path.items (to ∷ []) 0 found.0 found.1 ∙ found.2)
    ]

-- ---- a step is done

above_more : (all : List Way) (hs : List ℕ) (at done : ℕ) → length hs ≡ length all → at < length all → get_or hs at 0 ≡ 0 → ((k : ℕ) → 0 < get_or hs k 0 → IsAbove all hs k) → ((k : ℕ) → get_or hs k 0 ≤ done) → ((to : ℕ) → Leads all at to → to < length all → 0 < get_or hs to 0) → (k : ℕ) → 0 < get_or (slice_set hs at (done + 1)) k 0 → IsAbove all (slice_set hs at (done + 1)) k
above_more all hs at done size within zeros above most closed k told to leads = elim (cases_eq to at) [
  | inl here ↦ absurd (elim (cases_eq k at) [
    | inl same ↦ omega (arith, zeros, subst (λ x. 0 < get_or hs x 0) here (closed to (subst (λ x. Leads all x to) same leads) (omega (arith, here, within))))
    | inr other ↦
        let old : 0 < get_or hs k 0 = subst (λ x. 0 < x) (get_or-set_other hs at k (done + 1) 0 other) told in
        omega (arith, zeros, subst (λ x. 0 < get_or hs x 0) here ((above k old to leads).1 (omega (arith, here, within))))
  ])
  | inr away ↦
      rw (get_or-set_other hs at to (done + 1) 0 away)
      (elim (cases_eq k at) [
        | inl same ↦
            let now : get_or (slice_set hs at (done + 1)) k 0 ≡ done + 1 = ap (λ x. get_or (slice_set hs at (done + 1)) x 0) same ∙ get_or-set_same hs at (done + 1) 0 (omega (arith, size, within)) in
            (omega (arith, now, most to), closed to (subst (λ x. Leads all x to) same leads))
        | inr other ↦
            let old : 0 < get_or hs k 0 = subst (λ x. 0 < x) (get_or-set_other hs at k (done + 1) 0 other) told in
            rw (get_or-set_other hs at k (done + 1) 0 other) (above k old to leads)
      ])
]

most_more : (hs : List ℕ) (at done : ℕ) → at < length hs → ((k : ℕ) → get_or hs k 0 ≤ done) → (k : ℕ) → get_or (slice_set hs at (done + 1)) k 0 ≤ done + 1
most_more hs at done within most k = elim (cases_eq k at) [
  | inl same ↦ rw same (rw (get_or-set_same hs at (done + 1) 0 within) (omega arith))
  | inr other ↦ rw (get_or-set_other hs at k (done + 1) 0 other) (omega (arith, most k))
]

zeros_less : (hs : List ℕ) (at n : ℕ) → at < length hs → get_or hs at 0 ≡ 0 → sum_by one_if_zero (slice_set hs at (n + 1)) + 1 ≡ sum_by one_if_zero hs
zeros_less hs at n within zeros =
    let sums = sum_by-set one_if_zero hs at (n + 1) 0 within in
    let one : one_if_zero (get_or hs at 0) ≡ 1 = rw zeros refl in
    let none : one_if_zero (n + 1) ≡ 0 = rw (ne_eqb (n + 1) 0 (λ e. omega (arith, e))) refl in
    omega (arith, sums, one, none)

done_keeps : (all : List Way) (s t : Search) (at : ℕ) → Searching all s → at < length all → get_or s.heights.items at 0 ≡ 0 → IsOpenWay all s.heights.items at None → Done s at t → Searching all t
done_keeps all s t at is within zeros closed e = record {
  heights = rw e.heights (length-set s.heights.items at (s.done + 1) ∙ is.heights);
  entered = rw e.entered is.entered;
  above = rw e.heights (above_more all s.heights.items at s.done is.heights within zeros is.above is.most closed);
  most = rw e.heights (rw e.done (most_more s.heights.items at s.done (omega (arith, is.heights, within)) is.most));
  counted = rw e.heights (rw e.done (omega (arith, is.counted, zeros_less s.heights.items at s.done (omega (arith, is.heights, within)) zeros)));
  inside = rw e.path is.inside;
  chain = rw e.path is.chain;
  there = rw e.heights (rw e.entered (rw e.path there));
}
  where
    there : (k : ℕ) → get_or s.entered.items k false ≡ true → get_or (slice_set s.heights.items at (s.done + 1)) k 0 ≡ 0 → (j : ℕ) × (j < length s.path.items) × (get_or s.path.items j 0 ≡ k)
    there k so unmet = elim (cases_eq k at) [
      | inl same ↦
          let now : get_or (slice_set s.heights.items at (s.done + 1)) k 0 ≡ s.done + 1 = ap (λ x. get_or (slice_set s.heights.items at (s.done + 1)) x 0) same ∙ get_or-set_same s.heights.items at (s.done + 1) 0 (omega (arith, is.heights, within)) in
          absurd (omega (arith, now, unmet))
      | inr other ↦ is.there k so (sym (get_or-set_other s.heights.items at k (s.done + 1) 0 other) ∙ unmet)
    ]

-- ---- the path loses a step that is done

left_keeps : (all : List Way) (s t : Search) (top : ℕ) → Searching all s → 0 < get_or s.heights.items top 0 → Left s top t → Searching all t
left_keeps all s t top is told e = record {
  heights = rw e.heights is.heights;
  entered = rw e.entered is.entered;
  above = rw e.heights is.above;
  most = rw e.heights (rw e.done is.most);
  counted = rw e.heights (rw e.done is.counted);
  inside = inside_less t.path.items top (length all) (rw e.path at is.inside);
  chain = chain_less all t.path.items top (rw e.path at is.chain);
  there = rw e.heights (rw e.entered there);
}
  where
    there : (at : ℕ) → get_or s.entered.items at false ≡ true → get_or s.heights.items at 0 ≡ 0 → (k : ℕ) × (k < length t.path.items) × (get_or t.path.items k 0 ≡ at)
    there at so unmet =
        let found = (rw e.path at is.there) at so unmet in
        elim (cases_lt found.0 (length t.path.items)) [
          | inl before ↦ (found.0, before, sym (get_or_append_left t.path.items (top ∷ []) 0 found.0 before) ∙ found.2)
          | inr behind ↦
              let last : found.0 ≡ length t.path.items = omega (arith, behind, found.1, length-append t.path.items (top ∷ [])) in
              let same : top ≡ at = sym (get_or-append_seam t.path.items top [] 0) ∙ ap (λ k. get_or (t.path.items ++ top ∷ []) k 0) (sym last) ∙ found.2 in
              absurd (omega (arith, told, unmet, ap (λ x. get_or s.heights.items x 0) same))
        ]

-- ---- the search goes on

top_is : (path front : List ℕ) (at : ℕ) → path ≡ front ++ at ∷ [] → (k : ℕ) → k + 1 ≡ length path → get_or path k 0 ≡ at
top_is path front at is k last =
    let place : k ≡ length front = omega (arith, last, ap length is, length-append front (at ∷ [])) in
    rw is (rw place (get_or-append_seam front at [] 0))

told_stays : (hs : List ℕ) (at n k : ℕ) → at < length hs → 0 < get_or hs k 0 → 0 < get_or (slice_set hs at (n + 1)) k 0
told_stays hs at n k within told = elim (cases_eq k at) [
  | inl same ↦ rw same (rw (get_or-set_same hs at (n + 1) 0 within) (omega arith))
  | inr other ↦ rw (get_or-set_other hs at k (n + 1) 0 other) told
]

entered_stays : (es : List _) (to k : ℕ) → to < length es → get_or es k false ≡ true → get_or (slice_set es to true) k false ≡ true
entered_stays es to k within so = elim (cases_eq k to) [
  | inl same ↦ rw same (get_or-set_same es to true false within)
  | inr other ↦ get_or-set_other es to k true false other ∙ so
]

-- the last step of the path is there
pub top_within : (all : List Way) (s : Search) (at : ℕ) → Searching all s → IsTop s at → at < length all
top_within all s at is top =
    let last : length top.0 + 1 ≡ length s.path.items = sym (ap length top.1 ∙ length-append top.0 (at ∷ [])) in
    subst (λ t. t < length all) (top_is s.path.items top.0 at top.1 (length top.0) last) (is.inside (length top.0) (omega (arith, last)))

-- fewer steps are done than there are
pub done_below : (all : List Way) (s : Search) (at : ℕ) → Searching all s → at < length all → get_or s.heights.items at 0 ≡ 0 → s.done < length all
done_below all s at is within zeros = omega (arith, is.counted, zeros_less s.heights.items at s.done (omega (arith, is.heights, within)) zeros)

pub entered_steps : (all : List Way) (s t : Search) (at to : ℕ) → Searching all s → IsTop s at → IsOpenWay all s.heights.items at (Some to) → get_or s.entered.items to false ≡ false → Entered s to t → Stepped all s t
entered_steps all s t at to is top way not e =
    let within : to < length s.entered.items = omega (arith, is.entered, way.1) in
    let sums = sum_by-set one_if_not s.entered.items to true false within in
    let one : one_if_not (get_or s.entered.items to false) ≡ 1 = rw not refl in
    record {
      searching = entered_keeps all s t to is way.1 (λ k last. subst (λ x. Leads all x to) (sym (top_is s.path.items top.0 at top.1 k last)) way.0) e;
      done = rw e.heights (λ k told. told);
      entered = rw e.entered (λ k so. entered_stays s.entered.items to k within so);
      less = rw e.heights (rw e.entered (rw e.path (omega (arith, sums, one, length-append s.path.items (to ∷ [])))));
    }

pub done_steps : (all : List Way) (s t : Search) (at : ℕ) → Searching all s → at < length all → get_or s.heights.items at 0 ≡ 0 → IsOpenWay all s.heights.items at None → Done s at t → Stepped all s t
done_steps all s t at is within zeros closed e =
    let inside : at < length s.heights.items = omega (arith, is.heights, within) in
    record {
      searching = done_keeps all s t at is within zeros closed e;
      done = rw e.heights (λ k told. told_stays s.heights.items at s.done k inside told);
      entered = rw e.entered (λ k so. so);
      less = rw e.heights (rw e.entered (rw e.path (omega (arith, zeros_less s.heights.items at s.done inside zeros))));
    }

pub left_steps : (all : List Way) (s t : Search) (at : ℕ) → Searching all s → 0 < get_or s.heights.items at 0 → Left s at t → Stepped all s t
left_steps all s t at is told e = record {
  searching = left_keeps all s t at is told e;
  done = rw e.heights (λ k so. so);
  entered = rw e.entered (λ k so. so);
  less = rw e.heights (rw e.entered (omega (arith, ap length e.path, length-append t.path.items (at ∷ []))));
}

-- ---- a way comes back

falls_along : (all : List Way) (s : Search) (hs : List ℕ) → Searching all s → Fall all hs → (d k : ℕ) → k + d < length s.path.items → get_or hs (get_or s.path.items (k + d) 0) 0 ≤ get_or hs (get_or s.path.items k 0) 0
falls_along all s hs is fall zero k less = let same : k + 0 ≡ k = omega arith in rw same (omega arith)
falls_along all s hs is fall (suc d) k less =
    let next : k + suc d ≡ (k + d) + 1 = omega arith in
    let lower = fall (get_or s.path.items (k + d) 0) (get_or s.path.items (k + d + 1) 0) (is.chain (k + d) (omega (arith, less))) in
    rw next (omega (arith, lower, falls_along all s hs is fall d k (omega (arith, less))))

pub comes_round : (all : List Way) (s : Search) (at to : ℕ) → Searching all s → IsTop s at → IsOpenWay all s.heights.items at (Some to) → get_or s.entered.items to false ≡ true → (hs : List ℕ) → Fall all hs → ⊥
comes_round all s at to is top way so hs fall =
    let found = is.there to so way.2 in
    let last : length s.path.items ≡ length top.0 + 1 = ap length top.1 ∙ length-append top.0 (at ∷ []) in
    let end : found.0 + (length top.0 - found.0) ≡ length top.0 = omega (arith, found.1, last) in
    let along = falls_along all s hs is fall (length top.0 - found.0) found.0 (omega (arith, end, last)) in
    let high : get_or s.path.items (length top.0) 0 ≡ at = top_is s.path.items top.0 at top.1 (length top.0) (sym last) in
    let lower = fall at to way.0 in
    omega (arith, lower, rw end at along, ap (λ x. get_or hs x 0) high, ap (λ x. get_or hs x 0) found.2)

-- ---- all steps

pub done_more : (old new : List ℕ) (at : ℕ) → ((k : ℕ) → k < at → 0 < get_or old k 0) → ((k : ℕ) → 0 < get_or old k 0 → 0 < get_or new k 0) → 0 < get_or new at 0 → (k : ℕ) → k < at + 1 → 0 < get_or new k 0
done_more old new at done stay now k less = elim (cases_lt k at) [
  | inl before ↦ stay k (done k before)
  | inr behind ↦ let same : at ≡ k = omega (arith, behind, less) in subst (λ x. 0 < get_or new x 0) same now
]

pub all_fall : (all : List Way) (s : Search) (n : ℕ) → Searching all s → length all ≤ n → ((k : ℕ) → k < n → 0 < get_or s.heights.items k 0) → Fall all s.heights.items
all_fall all s n is enough done at to leads = elim (cases_lt at (length all)) [
  | inl inside ↦ (is.above at (done at (omega (arith, inside, enough))) to leads).0
  | inr outside ↦ absurd (none-some leads.0 (sym (slice_get_past all at outside) ∙ leads.1))
]
