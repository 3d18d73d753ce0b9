-- Members by their places, and what the search for subsets keeps.
use Rattle.std.specs.Prelude.{◌≡◌, ℕ, zero, suc, ◌+◌, ◌<◌, ◌≤◌, nat_le, Bool, true, false, List, [], ◌∷◌, ◌++◌, Option, None, Some, length, take, drop, map, slice_get, slice_index_or, refl}
use Rattle.std.specs.List.{AllByRecursion, cons_option}
use Rattle.std.specs.List.Sorted.{IsStrictlySortedBy}
use Rattle.std.specs.declared.cmp.Ordering.TheVariants.{Less}
use Rattle.std.proofs.Common.{ap, sym, ◌∙◌, subst, arith, append_assoc}
use Rattle.std.proofs.lemmas.Bool.{leb-true, leb-false}
use Rattle.std.proofs.lemmas.List.{map-append, take_more, append-nil}
use Rattle.std.proofs.lemmas.List.Elements.{filter_map-append}
use Rattle.std.proofs.lemmas.Option.{none-some}
use Rattle.setl_value.specs.Datum.{Datum, depth, set_of, elements_depth, elements_of}
use Rattle.setl_value.specs.Order.{datum_cmp, IsRising}
use Rattle.setl_set.specs.code.Choice.{members_at, ArePlaces, IsFull}
use Rattle.setl_set.specs.code.Merge.{kept_if}
use Rattle.setl_set.proofs.Choices.{the_empty, longer, choices}
use Rattle.setl_set.proofs.Members.{IsBelow}
use Rattle.setl_set.proofs.Places.{all_at, some_same, depths_in, depths_out}
use Rattle.setl_set.proofs.Search.{found, to_come, found_large, found_small, chosen_next, given_back, full_beyond}

-- ---- members by their places

pub members_more : (ds : List Datum) (places : List ℕ) (k : ℕ) (e : Datum) → k < length places → slice_get ds (slice_index_or places k 0) ≡ Some e
    → members_at ds (take (k + 1) places) ≡ members_at ds (take k places) ++ e ∷ []
members_more ds places k e lt h =
    ap (members_at ds) (take_more places k 0 lt)
    ∙ filter_map-append (λ i. slice_get ds i) (take k places) (slice_index_or places k 0 ∷ [])
    ∙ ap (λ o. members_at ds (take k places) ++ cons_option o []) h

pub places_end : (low high : ℕ) (is : List ℕ) → ArePlaces low is high → low ≤ high
places_end low high [] p = p
places_end low high (i ∷ is) p = omega (arith, p.0, places_end (i + 1) high is p.1)

pub places_within : (low high : ℕ) (is : List ℕ) → ArePlaces low is high → AllByRecursion (λ i. i < high) is
places_within low high [] p = tt
places_within low high (i ∷ is) p = (omega (arith, places_end (i + 1) high is p.1), places_within (i + 1) high is p.1)

all_drop : (P : Datum → Type 0) (ds : List Datum) (low high : ℕ) → low ≤ high → AllByRecursion P (drop low ds) → AllByRecursion P (drop high ds)
all_drop P [] zero zero h a = a
all_drop P [] zero (suc high) h a = tt
all_drop P [] (suc low) zero h a = tt
all_drop P [] (suc low) (suc high) h a = tt
all_drop P (d ∷ ds) zero zero h a = a
all_drop P (d ∷ ds) zero (suc high) h a = all_drop P ds zero high (omega arith) a.1
all_drop P (d ∷ ds) (suc low) zero h a = absurd (omega arith)
all_drop P (d ∷ ds) (suc low) (suc high) h a = all_drop P ds low high (omega arith) a

at_drop : (P : Datum → Type 0) (ds : List Datum) (low i : ℕ) (e : Datum) → low ≤ i → AllByRecursion P (drop low ds) → slice_get ds i ≡ Some e → P e
at_drop P [] low i e h a p = absurd (none-some e p)
at_drop P (d ∷ ds) zero i e h a p = all_at P (d ∷ ds) i e a p
at_drop P (d ∷ ds) (suc low) zero e h a p = absurd (omega arith)
at_drop P (d ∷ ds) (suc low) (suc i) e h a p = at_drop P ds low i e (omega arith) a p

all_places_by : (P : Datum → Type 0) (o : Option Datum) (xs : List Datum) → ((e : Datum) → o ≡ Some e → P e) → AllByRecursion P xs → AllByRecursion P (cons_option o xs)
all_places_by P None xs h a = a
all_places_by P (Some e) xs h a = (h e refl, a)

all_places : (P : Datum → Type 0) (ds : List Datum) (low high : ℕ) (is : List ℕ) → ArePlaces low is high → AllByRecursion P (drop low ds) → AllByRecursion P (members_at ds is)
all_places P ds low high [] p a = tt
all_places P ds low high (i ∷ is) p a =
    all_places_by P (slice_get ds i) (members_at ds is) (λ e q. at_drop P ds low i e p.0 a q)
    (all_places P ds (i + 1) high is p.1 (all_drop P ds low (i + 1) (omega (arith, p.0)) a))

below_after : (ds : List Datum) (i : ℕ) (e : Datum) → IsRising ds → slice_get ds i ≡ Some e → IsBelow e (drop (suc i) ds)
unfolding IsStrictlySortedBy
below_after [] i e r p = tt
below_after (d ∷ ds) zero e r p = subst (λ x. IsBelow x ds) (some_same d e p) r.0
below_after (d ∷ ds) (suc i) e r p = below_after ds i e r.1 p

rising_by : (o : Option Datum) (xs : List Datum) → ((e : Datum) → o ≡ Some e → IsBelow e xs) → IsRising xs → IsRising (cons_option o xs)
unfolding IsStrictlySortedBy
rising_by None xs h r = r
rising_by (Some e) xs h r = (h e refl, r)

pub rising_at : (ds : List Datum) (low high : ℕ) (is : List ℕ) → IsRising ds → ArePlaces low is high → IsRising (members_at ds is)
unfolding IsStrictlySortedBy
rising_at ds low high [] r p = tt
rising_at ds low high (i ∷ is) r p =
    rising_by (slice_get ds i) (members_at ds is)
    (λ e q. all_places (λ x. datum_cmp e x ≡ Less) ds (i + 1) high is p.1 (subst (λ k. IsBelow e (drop k ds)) {x = suc i} (omega arith) (below_after ds i e r q)))
    (rising_at ds (i + 1) high is r p.1)

pub depth_at : (ds : List Datum) (high : ℕ) (is : List ℕ) (n : ℕ) → ArePlaces 0 is high → elements_depth (elements_of ds) ≤ n → elements_depth (elements_of (members_at ds is)) ≤ n
depth_at ds high is n p h = depths_out n (members_at ds is) (all_places (λ d. depth d ≤ n) ds 0 high is p (depths_in n ds h))

-- ---- the places of the search

pub places_chosen : (low next : ℕ) (is : List ℕ) → ArePlaces low is next → ArePlaces low (is ++ next ∷ []) (next + 1)
places_chosen low next [] p = (p, omega arith)
places_chosen low next (i ∷ is) p = (p.0, places_chosen (i + 1) next is p.1)

places_back : (low i next : ℕ) (is : List ℕ) → ArePlaces low (is ++ i ∷ []) next → ArePlaces low is (i + 1)
places_back low i next [] p = omega (arith, p.0)
places_back low i next (j ∷ is) p = (p.0, places_back (j + 1) i next is p.1)

pub last_below : (low i next : ℕ) (is : List ℕ) → ArePlaces low (is ++ i ∷ []) next → i < next
last_below low i next [] p = omega (arith, p.1)
last_below low i next (j ∷ is) p = last_below (j + 1) i next is p.1

pub places_wider : (low next high : ℕ) (is : List ℕ) → next ≤ high → ArePlaces low is next → ArePlaces low is high
places_wider low next high [] h p = omega (arith, p)
places_wider low next high (i ∷ is) h p = (p.0, places_wider (i + 1) next high is h p.1)

-- ---- what the search keeps

-- `made` and the sets to come are all of the wanted sets
pub record IsSearch (least most : ℕ) (ds made : List Datum) (chosen : List ℕ) (next : ℕ) : Type 0 where
  pub all : made ++ map set_of (to_come least most ds chosen next) ≡ map set_of (choices least most ds)
  pub places : ArePlaces 0 chosen next
  pub within : next ≤ length ds

-- the sets that the chosen places give
abbrev pub given : ℕ → List Datum → List ℕ → List Datum
given least ds is = kept_if (nat_le least (length is)) (set_of (members_at ds is) ∷ [])

found_is : (b : Bool) (l : ℕ) (ds : List Datum) (is : List ℕ) → nat_le l (length is) ≡ b → map set_of (found l ds is) ≡ kept_if b (set_of (members_at ds is) ∷ [])
found_is true l ds is h = ap (map set_of) (found_large l ds is (leb-true l (length is) h))
found_is false l ds is h = ap (map set_of) (found_small l ds is (leb-false l (length is) h))

pub search_starts : (l m : ℕ) (ds made : List Datum) → made ≡ given l ds [] → IsSearch l m ds made [] 0
search_starts l m ds made h = record {
  all = ap (λ a. a ++ map set_of (longer l m ds)) (h ∙ sym (found_is (nat_le l 0) l ds [] refl)) ∙ sym (map-append set_of (the_empty l) (longer l m ds));
  places = omega arith;
  within = omega arith;
}

more_found : (l m : ℕ) (ds made : List Datum) (is : List ℕ) (next : ℕ) (o : Option Datum) → slice_get ds next ≡ o → length is < m → next < length ds
    → made ++ map set_of (to_come l m ds is next) ≡ (made ++ given l ds (is ++ next ∷ [])) ++ map set_of (to_come l m ds (is ++ next ∷ []) (suc next))
more_found l m ds made is next None p lt h = absurd (there ds next h p)
  where
    there : (ds : List Datum) (i : ℕ) → i < length ds → slice_get ds i ≡ None → ⊥
    there [] i h p = omega arith
    there (d ∷ ds) zero h p = none-some d (sym p)
    there (d ∷ ds) (suc i) h p = there ds i (omega arith) p
more_found l m ds made is next (Some d) p lt h =
    let js = is ++ next ∷ [] in
    let later = to_come l m ds js (suc next) in
    ap (λ a. made ++ map set_of a) (chosen_next l m ds is next d lt p)
    ∙ ap (λ a. made ++ a) (map-append set_of (found l ds js) later ∙ ap (λ a. a ++ map set_of later) (found_is (nat_le l (length js)) l ds js refl))
    ∙ sym (append_assoc made (given l ds js) (map set_of later))

pub search_chooses : (l m : ℕ) (ds made more : List Datum) (is : List ℕ) (next : ℕ) → IsSearch l m ds made is next → length is < m → next < length ds
    → more ≡ made ++ given l ds (is ++ next ∷ []) → IsSearch l m ds more (is ++ next ∷ []) (next + 1)
search_chooses l m ds made more is next s lt h e =
    let js = is ++ next ∷ [] in
    let whole : more ++ map set_of (to_come l m ds js (suc next)) ≡ map set_of (choices l m ds) =
    ap (λ a. a ++ map set_of (to_come l m ds js (suc next))) e ∙ sym (more_found l m ds made is next (slice_get ds next) refl lt h) ∙ s.all in
    record {
      all = subst (λ k. more ++ map set_of (to_come l m ds js k) ≡ map set_of (choices l m ds)) {x = suc next} (omega arith) whole;
      places = places_chosen 0 next is s.places;
      within = omega arith;
    }

pub search_goes_back : (l m : ℕ) (ds made : List Datum) (is : List ℕ) (i next : ℕ) → IsSearch l m ds made (is ++ i ∷ []) next → IsFull l m (length ds) (length (is ++ i ∷ [])) next
    → IsSearch l m ds made is (i + 1)
search_goes_back l m ds made is i next s full =
    let whole : made ++ map set_of (to_come l m ds is (suc i)) ≡ map set_of (choices l m ds) =
    ap (λ a. made ++ map set_of a) (sym (given_back l m ds is i next (full_beyond l m ds (is ++ i ∷ []) next full))) ∙ s.all in
    record {
      all = subst (λ k. made ++ map set_of (to_come l m ds is k) ≡ map set_of (choices l m ds)) {x = suc i} (omega arith) whole;
      places = places_back 0 i next is s.places;
      within = omega (arith, last_below 0 i next is s.places, s.within);
    }

pub search_ends : (l m : ℕ) (ds made : List Datum) (next : ℕ) → IsSearch l m ds made [] next → IsFull l m (length ds) 0 next → made ≡ map set_of (choices l m ds)
search_ends l m ds made next s full =
    sym (append-nil made) ∙ ap (λ a. made ++ map set_of a) (sym (full_beyond l m ds [] next full)) ∙ s.all

pub full_at : (l m size count n k next : ℕ) → size ≡ n → count ≡ k → IsFull l m size count next → IsFull l m n k next
full_at l m size count n k next p q h = subst (λ x. IsFull l m x k next) p (subst (λ x. IsFull l m size x next) q h)

pub nothing_chosen : (xs : List ℕ) → length xs ≡ 0 → xs ≡ []
nothing_chosen [] h = refl
nothing_chosen (x ∷ xs) h = absurd (omega arith)
