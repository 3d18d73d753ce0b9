-- A component that gets another value where it stands, at least as deep.
use Rattle.std.specs.Prelude.{◌≡◌, ℕ, zero, suc, ◌+◌, ◌≤◌, ◌<◌, List, [], ◌∷◌, ◌++◌, take, drop, map, refl, length, slice_get, slice_index_or, slice_set, is_some, true, Option, Some, None, max}
use Rattle.std.specs.List.{AllByRecursion, AllZip}
use Rattle.std.specs.Option.{IfNone, option_map, unwrap_or}
use Rattle.std.proofs.Common.{arith, ap, sym, ◌∙◌, subst, ◌⊎◌, inl, inr}
use Rattle.std.proofs.lemmas.Bool.{true≢false}
use Rattle.std.proofs.lemmas.List.{drop-set-add, get_or-set_same, map-set, length-set, set-get_or, set_split}
use Rattle.std.proofs.lemmas.Option.{none-some, slice_get-map, slice_get_within}
use Rattle.setl_value.specs.declared.Value.{Value}
use Rattle.setl_value.specs.Datum.{Datum, depth, part_depth, parts_depth, parts_of, part_list-parts_of, set_of, tuple_of}
use Rattle.setl_value.specs.code.DatumOf.{datum, page, part}
use Rattle.setl_value_pages.specs.Pages.{IsPage, joined, page_at, rank_in}
use Rattle.setl_value.specs.code.Counted.{IsCounted}
use Rattle.setl_value_pages.specs.Exchange.{Exchanges}
use Rattle.setl_value.specs.code.Changing.{with_member}
use Rattle.setl_value.specs.Order.{IsRising}
use Rattle.setl_value.specs.Pairs.{other_count, pair, pair_parts}
use Rattle.setl_value.specs.WellFormed.{EndsIn, IsSetList, IsTrimmed, IsTupleList, IsWellFormed, PartsAreWellFormed}
use Rattle.setl_value.proofs.Depths.{parts_cons}
use Rattle.setl_value.proofs.Fronts.{deep_of, ends_later}
use Rattle.setl_value.proofs.Bodies.{IsMember, set_facts, set_made}
use Rattle.setl_value.proofs.Others.{counted}
use Rattle.setl_value_pages.specs.PageLaws.{Shared, exchanged, exchanged_pages, item_of, one_page, page_there, size_there}
use Rattle.setl_value.proofs.PagesOfData.{lent_page}

-- ---- lists

pub get_behind : {X : Type 0} (s i : ℕ) (xs : List X) → slice_get (drop s xs) i ≡ slice_get xs (s + i)
get_behind {X} s i xs = go s (s + i) xs refl
  where
    nothing : (n : ℕ) → ◌≡◌ {A = Option X} (slice_get [] n) None
    nothing zero = refl
    nothing (suc n) = refl

    go : (s m : ℕ) (xs : List X) → m ≡ s + i → slice_get (drop s xs) i ≡ slice_get xs m
    go zero m xs e = ap (slice_get xs) {x = i} {y = m} (omega (arith, e))
    go (suc s) zero xs e = absurd (omega (arith, e))
    go (suc s) (suc m) [] e = nothing i ∙ sym (nothing (suc m))
    go (suc s) (suc m) (x ∷ xs) e = go s m xs (omega (arith, e))

get_set : {X : Type 0} (xs : List X) (i : ℕ) (x y : X) → slice_get xs i ≡ Some x → slice_get (slice_set xs i y) i ≡ Some y
get_set [] i x y h = absurd (none-some x h)
get_set (z ∷ xs) zero x y h = refl
get_set (z ∷ xs) (suc i) x y h = get_set xs i x y h

-- a list of exact copies
pub copies : {X : Type 0} (xs ys : List X) → AllZip (λ x copy. copy ≡ x) xs ys → ys ≡ xs
copies [] [] h = refl
copies [] (y ∷ ys) h = absurd h
copies (x ∷ xs) [] h = absurd h
copies (x ∷ xs) (y ∷ ys) h = λ k. h.0 k ∷ copies xs ys h.1 k

-- ---- components

ends_sooner : (p q : Option Datum) (ps : List (Option Datum)) → EndsIn p (q ∷ ps) → EndsIn q ps
ends_sooner None q ps h = h
ends_sooner (Some d) q ps h = h

ends_in_some : (q : Option Datum) (e : Datum) (ps : List (Option Datum)) → EndsIn q ps → EndsIn (Some e) ps
ends_in_some q e [] h = tt
ends_in_some q e (p ∷ ps) h = ends_later (Some e) p ps (ends_sooner q p ps h)

ends_set : (p : Option Datum) (ps : List (Option Datum)) (i : ℕ) (e : Datum) → EndsIn p ps → EndsIn p (slice_set ps i (Some e))
ends_set p [] i e h = h
ends_set p (q ∷ ps) zero e h = ends_later p (Some e) ps (ends_in_some q e ps (ends_sooner p q ps h))
ends_set p (q ∷ ps) (suc i) e h = ends_later p q (slice_set ps i (Some e)) (ends_set q ps i e (ends_sooner p q ps h))

trimmed_set : (ps : List (Option Datum)) (i : ℕ) (e : Datum) → IsTrimmed ps → IsTrimmed (slice_set ps i (Some e))
trimmed_set [] i e h = h
trimmed_set (p ∷ ps) zero e h = ends_in_some p e ps h
trimmed_set (p ∷ ps) (suc i) e h = ends_set p ps i e h

formed_set : (ps : List (Option Datum)) (i : ℕ) (e : Datum) → PartsAreWellFormed (parts_of ps) → IsWellFormed e → PartsAreWellFormed (parts_of (slice_set ps i (Some e)))
formed_set [] i e h w = h
formed_set (None ∷ ps) zero e h w = (w, h)
formed_set (Some d ∷ ps) zero e h w = (w, h.1)
formed_set (None ∷ ps) (suc i) e h w = formed_set ps i e h w
formed_set (Some d ∷ ps) (suc i) e h w = (h.0, formed_set ps i e h.1 w)

-- the depth of the components, where the i-th becomes q
parts_set : (ps : List (Option Datum)) (i : ℕ) (p q : Option Datum) → slice_get ps i ≡ Some p → max (parts_depth (parts_of (slice_set ps i q))) (part_depth p) ≡ max (parts_depth (parts_of ps)) (part_depth q)
parts_set [] i p q h = absurd (none-some p h)
parts_set (r ∷ ps) zero p q h = omega (arith, parts_cons q ps, parts_cons r ps, ap (λ o. part_depth (unwrap_or o r)) h)
parts_set (r ∷ ps) (suc i) p q h = omega (arith, parts_cons r (slice_set ps i q), parts_cons r ps, parts_set ps i p q h)

part_is_there : (ps : List (Option Datum)) (i : ℕ) (p : Option Datum) → slice_get ps i ≡ Some p → part_depth p ≤ parts_depth (parts_of ps)
part_is_there [] i p h = absurd (none-some p h)
part_is_there (r ∷ ps) zero p h = omega (arith, parts_cons r ps, ap (λ o. part_depth (unwrap_or o r)) h)
part_is_there (r ∷ ps) (suc i) p h = omega (arith, parts_cons r ps, part_is_there ps i p h)

-- where it is at least as deep as before
deeper_set : (ps : List (Option Datum)) (i : ℕ) (p q : Option Datum) → slice_get ps i ≡ Some p → part_depth p ≤ part_depth q → depth (tuple_of (slice_set ps i q)) ≡ max (depth (tuple_of ps)) (part_depth q + 1)
deeper_set ps i p q h g = omega (arith, parts_set ps i p q h, part_is_there (slice_set ps i q) i q (get_set ps i p q h), g)

-- ---- a component behind the front

module _ (xs ys : List (Option Value)) (s i : ℕ) (v w : Value) (there : slice_get xs (s + i) ≡ Some (Some v)) (written : ys ≡ slice_set xs (s + i) (Some w)) where
  pub was : slice_get (map part (drop s xs)) i ≡ Some (Some (datum v))
  was = slice_get-map part (drop s xs) i ∙ ap (option_map part) (get_behind s i xs ∙ there)

  pub now : map part (drop s ys) ≡ slice_set (map part (drop s xs)) i (Some (datum w))
  now = ap (λ l. map part (drop s l)) written ∙ ap (map part) (drop-set-add s xs i (Some w)) ∙ map-set part (drop s xs) i (Some w)

  pub is : slice_get (map part (drop s ys)) i ≡ Some (Some (datum w))
  is = ap (λ l. slice_get l i) now ∙ get_set (map part (drop s xs)) i (Some (datum v)) (Some (datum w)) was

  -- the rules of tuples hold again
  pub holds : (deep after : ℕ) → IsTupleList (map part (drop s xs)) → deep ≡ deep_of (drop s xs) → deep_of xs ≤ deep → s ≤ length xs
      → IsWellFormed (datum w) → depth (datum v) ≤ depth (datum w) → depth (datum w) < 500 → after ≡ max deep (depth (datum w) + 1)
      → IsTupleList (map part (drop s ys)) × (after ≡ deep_of (drop s ys)) × (deep_of ys ≤ after) × (s ≤ length ys)
  holds deep after h d b l f g t a =
      let ps = map part (drop s xs) in
      let e = datum w in
      let deeper : depth (tuple_of (slice_set ps i (Some e))) ≡ max (depth (tuple_of ps)) (depth e + 1) = deeper_set ps i (Some (datum v)) (Some e) was g in
      let whole = deeper_set (map part xs) (s + i) (Some (datum v)) (Some e) (slice_get-map part xs (s + i) ∙ ap (option_map part) there) g in (
        subst IsTupleList (sym now) (
          (formed_set ps i e h.0.0 f, subst IsTrimmed (sym (part_list-parts_of (slice_set ps i (Some e)))) (trimmed_set ps i e (subst IsTrimmed (part_list-parts_of ps) h.0.1))),
          omega (arith, deeper, h.1, t),
        ),
        omega (arith, a, d, deeper, ap (λ m. depth (tuple_of m)) now),
        omega (arith, a, b, whole, ap (λ m. depth (tuple_of m)) (ap (map part) written ∙ map-set part xs (s + i) (Some w))),
        omega (arith, l, ap length written, length-set xs (s + i) (Some w)),
      )

-- what follows from what a clause says of a closure that wasn't called
pub none_then : {R : Type 0} {P Q : Type 0} (o : Option R) → (P → Q) → IfNone o P → IfNone o Q
none_then None f h = f h
none_then (Some r) f h = h

-- ---- the second part of a pair

pair_made : (ps : List (Option Datum)) → is_some (pair_parts (tuple_of ps)) ≡ true → (x : Datum) × (y : Datum) × (ps ≡ Some x ∷ Some y ∷ [])
pair_made [] h = absurd (true≢false (sym h))
pair_made (None ∷ ps) h = absurd (true≢false (sym h))
pair_made (Some x ∷ []) h = absurd (true≢false (sym h))
pair_made (Some x ∷ None ∷ ps) h = absurd (true≢false (sym h))
pair_made (Some x ∷ Some y ∷ []) h = (x, y, refl)
pair_made (Some x ∷ Some y ∷ None ∷ ps) h = absurd (true≢false (sym h))
pair_made (Some x ∷ Some y ∷ Some z ∷ ps) h = absurd (true≢false (sym h))

module _ (ps : List (Option Datum)) (h : is_some (pair_parts (tuple_of ps)) ≡ true) where
  -- the pair before and after its second part is changed
  pub second_set : (d e : Datum) → slice_get ps 1 ≡ Some (Some d) → (x : Datum) × (tuple_of ps ≡ pair x d) × (tuple_of (slice_set ps 1 (Some e)) ≡ pair x e)
  second_set d e g =
      let m = pair_made ps h in
      let is = m.2 in
      let y : m.1 ≡ d = ap (λ o. unwrap_or (unwrap_or o None) m.1) (sym (ap (λ l. slice_get l 1) is) ∙ g) in (m.0, ap tuple_of is ∙ ap (pair m.0) y, ap (λ l. tuple_of (slice_set l 1 (Some e))) is)

  pub second_there : (slice_get ps 1 ≡ Some None) ⊎ (slice_get ps 1 ≡ None) → ⊥
  second_there g =
      let m = pair_made ps h in
      let there : slice_get ps 1 ≡ Some (Some m.1) = ap (λ l. slice_get l 1) m.2 in
      elim g [ inl e ↦ none-some m.1 (ap (λ o. unwrap_or o None) (sym e ∙ there)) | inr e ↦ none-some (Some m.1) (sym e ∙ there) ]

-- ---- a member of a page

module _ (xs : List (Shared Value)) (k i : ℕ) (p : Shared Value) (within : k < length xs) (lent : p ≡ slice_index_or xs k p) where
  pub member_was : (v : Value) → slice_get p.value.items i ≡ Some v → slice_get (page_at (map page xs) k) i ≡ Some (datum v)
  member_was v h = ap (λ l. slice_get l i) (lent_page xs k p within lent) ∙ slice_get-map datum p.value.items i ∙ ap (option_map datum) h

  pub member_written : (q : Shared Value) (w : Value) → q.value.items ≡ slice_set p.value.items i w → map page (slice_set xs k q) ≡ with_member (map page xs) k i (datum w)
  member_written q w h =
      map-set page xs k q
      ∙ ap (slice_set (map page xs) k) (ap (map datum) h ∙ map-set datum p.value.items i w ∙ ap (λ l. slice_set l i (datum w)) (sym (lent_page xs k p within lent)))

-- ---- a member of a set

set_same : {X : Type 0} (xs : List X) (i : ℕ) (x : X) → slice_get xs i ≡ Some x → slice_set xs i x ≡ xs
set_same [] i x h = absurd (none-some x h)
set_same (y ∷ xs) zero x h = ap (λ o. unwrap_or o y ∷ xs) (sym h)
set_same (y ∷ xs) (suc i) x h = ap (λ l. y ∷ l) (set_same xs i x h)

all_set : {X : Type 0} (P : X → Type 0) (xs : List X) (i : ℕ) (y : X) → AllByRecursion P xs → P y → AllByRecursion P (slice_set xs i y)
all_set P [] i y a h = a
all_set P (x ∷ xs) zero y a h = (h, a.1)
all_set P (x ∷ xs) (suc i) y a h = (a.0, all_set P xs i y a.1 h)

-- the depth of a set whose i-th member m becomes n
members_set : (ds : List Datum) (i : ℕ) (m n : Datum) → slice_get ds i ≡ Some m → max (depth (set_of (slice_set ds i n))) (depth m + 1) ≡ max (depth (set_of ds)) (depth n + 1)
members_set [] i m n h = absurd (none-some m h)
members_set (d ∷ ds) zero m n h = omega (arith, ap (λ o. depth (unwrap_or o d)) h)
members_set (d ∷ ds) (suc i) m n h = omega (arith, members_set ds i m n h)

member_is_there : (ds : List Datum) (i : ℕ) (m : Datum) → slice_get ds i ≡ Some m → depth m + 1 ≤ depth (set_of ds)
member_is_there [] i m h = absurd (none-some m h)
member_is_there (d ∷ ds) zero m h = omega (arith, ap (λ o. depth (unwrap_or o d)) h)
member_is_there (d ∷ ds) (suc i) m h = omega (arith, member_is_there ds i m h)

others_set : (ds : List Datum) (i : ℕ) (m n : Datum) → slice_get ds i ≡ Some m → other_count (slice_set ds i n) + counted m ≡ other_count ds + counted n
others_set [] i m n h = absurd (none-some m h)
others_set (d ∷ ds) zero m n h = omega (arith, ap (λ o. counted (unwrap_or o d)) h)
others_set (d ∷ ds) (suc i) m n h = omega (arith, others_set ds i m n h)

module _ (ps : List (List Datum)) (k i : ℕ) (m : Datum) (there : slice_get (page_at ps k) i ≡ Some m) where
  pub inside : i < length (page_at ps k)
  inside = slice_get_within (page_at ps k) i m there

  pub in_set : slice_get (joined ps) (rank_in ps k i) ≡ Some m
  in_set = item_of ps k i inside ∙ there

  -- a member isn't too deep for one
  pub shallow : IsSetList (joined ps) → depth m < 500
  shallow h = omega (arith, h.1, member_is_there (joined ps) (rank_in ps k i) m in_set)

  page_inside : k < length ps
  page_inside = size_there ps k (omega (arith, inside))

  pub member_kept : with_member ps k i m ≡ ps
  member_kept = ap (slice_set ps k) (set_same (page_at ps k) i m there) ∙ set-get_or ps k []

  pub member_now : (n : Datum) → slice_get (page_at (with_member ps k i n) k) i ≡ Some n
  member_now n = ap (λ p. slice_get p i) (get_or-set_same ps k (slice_set (page_at ps k) i n) [] page_inside) ∙ get_set (page_at ps k) i m n there

  member_exchanged : (n : Datum) → AllByRecursion IsPage ps → Exchanges ps (with_member ps k i n) k i k (i + 1) (n ∷ [])
  member_exchanged n a =
      let p = page_at ps k in
      let whole = page_there ps k a page_inside in
      one_page (slice_set p i n) (omega (arith, whole.0, length-set p i n), omega (arith, whole.1, length-set p i n))
      (set_split p i n inside ∙ ap (λ j. take i p ++ n ∷ drop j p) {x = suc i} {y = i + 1} (omega arith)) (set_split ps k (slice_set p i n) page_inside)

  pub member_joined : (n : Datum) → AllByRecursion IsPage ps → joined (with_member ps k i n) ≡ slice_set (joined ps) (rank_in ps k i) n
  member_joined n a =
      let r = rank_in ps k i in
      exchanged (omega (arith, inside)) (omega (arith, inside)) (member_exchanged n a)
      ∙ ap (λ j. take r (joined ps) ++ n ∷ drop j (joined ps)) {x = rank_in ps k (i + 1)} {y = suc r} (omega arith)
      ∙ sym (set_split (joined ps) r n (slice_get_within (joined ps) r m in_set))

  -- what is kept beside the pages holds again
  pub member_counted : {count deep others : ℕ} (n : Datum) (after : ℕ) → IsCounted ps count deep others → IsWellFormed n → counted n ≡ counted m → depth m ≤ depth n → depth n < 500
      → IsRising (slice_set (joined ps) (rank_in ps k i) n) → after ≡ max deep (depth n + 1) → IsCounted (with_member ps k i n) count after others
  member_counted n after c f o g t r a =
      let ds = joined ps in
      let x = rank_in ps k i in
      let w = member_joined n c.pages in
      record {
        pages = exchanged_pages c.pages (member_exchanged n c.pages);
        members = subst IsSetList (sym w) (set_made (slice_set ds x n) (all_set IsMember ds x n (set_facts ds c.members).0 (f, omega (arith, t))) r);
        counted = omega (arith, c.counted, ap length w, length-set ds x n);
        deepest = omega (arith, a, c.deepest, ap (λ l. depth (set_of l)) w, members_set ds x m n in_set, member_is_there (slice_set ds x n) x n (get_set ds x m n in_set), g);
        no_pairs = omega (arith, c.no_pairs, ap other_count w, others_set ds x m n in_set, o);
      }
