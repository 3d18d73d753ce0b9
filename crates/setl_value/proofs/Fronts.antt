-- Lists of components of which some at the front were taken off.
use Rattle.std.specs.Prelude.{◌≡◌, ℕ, zero, suc, ◌+◌, ◌-◌, ◌≤◌, ◌<◌, List, [], ◌∷◌, ◌++◌, take, drop, map, refl, length, slice_get, slice_set, Option, Some, None, max}
use Rattle.std.specs.List.{remove}
use Rattle.std.specs.Option.{unwrap_or}
use Rattle.std.proofs.Common.{arith, ap, sym, ◌∙◌, subst}
use Rattle.std.proofs.Common.{◌⊎◌, inl, inr}
use Rattle.std.proofs.lemmas.List.{append-nil, drop-append-le, drop-map, length-drop, length-map, length-set, map-append, length-append}
use Rattle.setl_value.specs.declared.Value.{Value}
use Rattle.setl_value.specs.Datum.{Datum, depth, part_depth, parts_depth, parts_of, part_list, part_list-parts_of, tuple_of}
use Rattle.setl_value.specs.code.DatumOf.{part}
use Rattle.setl_value.specs.WellFormed.{put, trim, EndsIn, IsTrimmed, IsTupleList, PartsAreWellFormed}
use Rattle.setl_value.proofs.Depths.{parts_cons, parts_put}
use Rattle.setl_value.proofs.Trim.{last_taken, last_cut}

-- ---- depths

-- the depth of a tuple of these components
abbrev pub deep_of : List (Option Value) → ℕ
deep_of xs = depth (tuple_of (map part xs))

deep_cons : (x : Option Value) (xs : List (Option Value)) → deep_of (x ∷ xs) ≡ max (part_depth (part x) + 1) (deep_of xs)
deep_cons x xs = omega (arith, parts_cons (part x) (map part xs))

pub drop_less : (n : ℕ) (xs : List (Option Value)) → deep_of (drop n xs) ≤ deep_of xs
drop_less zero xs = omega arith
drop_less (suc n) [] = omega arith
drop_less (suc n) (x ∷ xs) = omega (arith, deep_cons x xs, drop_less n xs)

pub take_less : (n : ℕ) (xs : List (Option Value)) → deep_of (take n xs) ≤ deep_of xs
take_less zero xs = omega arith
take_less (suc n) [] = omega arith
take_less (suc n) (x ∷ xs) = omega (arith, deep_cons x xs, deep_cons x (take n xs), take_less n xs)

pub remove_less : (i : ℕ) (xs : List (Option Value)) → deep_of (remove xs i) ≤ deep_of xs
remove_less zero [] = omega arith
remove_less (suc i) [] = omega arith
remove_less zero (x ∷ xs) = omega (arith, deep_cons x xs)
remove_less (suc i) (x ∷ xs) = omega (arith, deep_cons x xs, deep_cons x (remove xs i), remove_less i xs)

pub om_less : (xs : List (Option Value)) (i : ℕ) → deep_of (slice_set xs i None) ≤ deep_of xs
om_less [] i = omega arith
om_less (x ∷ xs) zero = omega (arith, deep_cons x xs)
om_less (x ∷ xs) (suc i) = omega (arith, deep_cons x xs, deep_cons x (slice_set xs i None), om_less xs i)

pub put_less : (ps : List (Option Datum)) (i : ℕ) (p : Option Datum) → depth (tuple_of (put ps i p)) ≤ max (depth (tuple_of ps)) (part_depth p + 1)
put_less ps i p = omega (arith, parts_put ps i p)

-- ---- changes behind the front

pub drop_take : {X : Type 0} (s n : ℕ) (xs : List X) → drop s (take (s + n) xs) ≡ take n (drop s xs)
drop_take {X} s n xs = go s (s + n) xs refl
  where
    none : (n : ℕ) → ◌≡◌ {A = List X} [] (take n [])
    none zero = refl
    none (suc n) = refl

    go : (s m : ℕ) (xs : List X) → m ≡ s + n → drop s (take m xs) ≡ take n (drop s xs)
    go zero m xs e = ap (λ k. take k xs) (omega (arith, e))
    go (suc s) zero xs e = absurd (omega (arith, e))
    go (suc s) (suc m) [] e = none n
    go (suc s) (suc m) (x ∷ xs) e = go s m xs (omega (arith, e))

pub put_more : (ps : List (Option Datum)) (i : ℕ) (p : Option Datum) → length ps ≤ length (put ps i p)
put_more [] i p = omega arith
put_more (q ∷ ps) zero p = omega arith
put_more (q ∷ ps) (suc i) p = omega (arith, put_more ps i p)

pub drop_put : (s i : ℕ) (ps : List (Option Datum)) (p : Option Datum) → s + i ≤ length ps → drop s (put ps (s + i) p) ≡ put (drop s ps) i p
drop_put s i ps p h = go s (s + i) ps refl h
  where
    go : (s m : ℕ) (ps : List (Option Datum)) → m ≡ s + i → m ≤ length ps → drop s (put ps m p) ≡ put (drop s ps) i p
    go zero m ps e h = ap (λ k. put ps k p) (omega (arith, e))
    go (suc s) zero ps e h = absurd (omega (arith, e))
    go (suc s) (suc m) [] e h = absurd (omega (arith, h))
    go (suc s) (suc m) (q ∷ ps) e h = go s m ps (omega (arith, e)) (omega (arith, h))

pub drop_remove : {X : Type 0} (s i : ℕ) (xs : List X) → s ≤ length xs → drop s (remove xs (s + i)) ≡ remove (drop s xs) i
drop_remove {X} s i xs h = go s (s + i) xs refl h
  where
    go : (s m : ℕ) (xs : List X) → m ≡ s + i → s ≤ length xs → drop s (remove xs m) ≡ remove (drop s xs) i
    go zero m xs e h = ap (remove xs) (omega (arith, e))
    go (suc s) zero xs e h = absurd (omega (arith, e))
    go (suc s) (suc m) [] e h = absurd (omega (arith, h))
    go (suc s) (suc m) (x ∷ xs) e h = go s m xs (omega (arith, e)) (omega (arith, h))

pub drop_one : {X : Type 0} (s : ℕ) (xs : List X) → drop (s + 1) xs ≡ drop 1 (drop s xs)
drop_one {X} s xs = subst (λ k. drop k xs ≡ drop 1 (drop s xs)) {x = suc s} (omega arith) (go s xs)
  where
    go : (s : ℕ) (xs : List X) → drop (suc s) xs ≡ drop 1 (drop s xs)
    go zero xs = refl
    go (suc s) [] = refl
    go (suc s) (x ∷ xs) = go s xs

pub behind_front : (s : ℕ) (xs : List (Option Value)) → map part (drop (s + 1) xs) ≡ drop 1 (map part (drop s xs))
behind_front s xs = ap (map part) (drop_one s xs) ∙ sym (drop-map part 1 (drop s xs))

-- the depth of a tuple that lost its first component
pub front_depth : (ps : List (Option Datum)) → 0 < length ps → max (depth (tuple_of (drop 1 ps))) (part_depth (unwrap_or (slice_get ps 0) None) + 1) ≡ depth (tuple_of ps)
front_depth [] h = absurd (omega (arith, h))
front_depth (p ∷ ps) h = omega (arith, parts_cons p ps)

trimmed_tail : (p : Option Datum) (ps : List (Option Datum)) → EndsIn p ps → IsTrimmed ps
trimmed_tail p [] h = tt
trimmed_tail None (q ∷ ps) h = h
trimmed_tail (Some d) (q ∷ ps) h = h

pub tuple_tail : (ps : List (Option Datum)) → IsTupleList ps → IsTupleList (drop 1 ps)
tuple_tail [] h = h
tuple_tail (None ∷ ps) h = ((h.0.0, trimmed_tail None (part_list (parts_of ps)) h.0.1), h.1)
tuple_tail (Some d ∷ ps) h = ((h.0.0.1, trimmed_tail (Some d) (part_list (parts_of ps)) h.0.1), omega (arith, h.1))

-- ---- a list from which a component was moved out, or that stayed as it was

module _ (xs ys : List (Option Value)) (s : ℕ) (left : (ys ≡ xs) ⊎ (ys ≡ slice_set xs s None)) where
  pub left_less : deep_of ys ≤ deep_of xs
  left_less = elim left [ inl e ↦ omega (arith, ap deep_of e) | inr e ↦ omega (arith, ap deep_of e, om_less xs s) ]

  pub left_long : length ys ≡ length xs
  left_long = elim left [ inl e ↦ ap length e | inr e ↦ ap length e ∙ length-set xs s None ]

-- ---- the depth after a change

-- what was taken off isn't deeper than a tuple that came from one of depth `before`, where it was given up or the
-- depth didn't fall
pub settles : (s : ℕ) (xs : List (Option Value)) (deep before gone came : ℕ) → (s ≡ 0) ⊎ ((gone ≤ came) ⊎ (gone + 1 < before)) → deep ≡ deep_of (drop s xs)
    → max deep (gone + 1) ≡ max before (came + 1) → came + 1 ≤ deep → deep_of xs ≤ max before (came + 1) → deep_of xs ≤ deep
settles s xs deep before gone came (inl e) d c t h = omega (arith, ap (λ k. deep_of (drop k xs)) e, d)
settles s xs deep before gone came (inr (inl e)) d c t h = omega (arith, e, c, t, h)
settles s xs deep before gone came (inr (inr e)) d c t h = omega (arith, e, c, t, h)

-- ---- the last component

pub last_behind : {X : Type 0} (s : ℕ) (xs : List X) → s < length xs → slice_get (drop s xs) (length (drop s xs) - 1) ≡ slice_get xs (length xs - 1)
last_behind zero xs h = refl
last_behind (suc s) [] h = absurd (omega (arith, h))
last_behind (suc s) (x ∷ []) h = absurd (omega (arith, h))
last_behind (suc s) (x ∷ y ∷ xs) h = last_behind s (y ∷ xs) (omega (arith, h)) ∙ subst (λ k. slice_get (y ∷ xs) (length (y ∷ xs) - 1) ≡ slice_get (x ∷ y ∷ xs) k) {x = suc (length (y ∷ xs) - 1)} (omega arith) refl

pub remove_behind : {X : Type 0} (s : ℕ) (xs : List X) → s < length xs → drop s (remove xs (length xs - 1)) ≡ remove (drop s xs) (length (drop s xs) - 1)
remove_behind s xs h =
    let k = length xs - 1 - s in
    ap (λ j. drop s (remove xs j)) {x = length xs - 1} {y = s + k} (omega (arith, h)) ∙ drop_remove s k xs (omega (arith, h))
    ∙ ap (remove (drop s xs)) {x = k} {y = length (drop s xs) - 1} (omega (arith, length-drop s xs, h))

module _ (s : ℕ) (xs : List (Option Value)) (ps : List (Option Datum)) (w : map part (drop s xs) ≡ ps) (there : 0 < length ps) where
  inside : s < length xs
  inside = omega (arith, ap length w, length-map (drop s xs) part, length-drop s xs, there)

  -- the last component, as data
  pub end_taken : (v : Option Value) → slice_get xs (length xs - 1) ≡ Some v → slice_get ps (length ps - 1) ≡ Some (part v)
  end_taken v h = last_taken (drop s xs) ps w v (last_behind s xs inside ∙ h)

  -- the components before the last, as data
  pub end_cut : (ys : List (Option Datum)) → ys ≡ trim (map part (drop s (remove xs (length xs - 1)))) → ys ≡ trim (remove ps (length ps - 1))
  end_cut ys h = last_cut (drop s xs) ps w ys (h ∙ ap (λ l. trim (map part l)) (remove_behind s xs inside))

-- ---- one tuple after another

deep_none : (xs : List (Option Value)) → deep_of xs ≡ max 1 (deep_of xs)
deep_none xs = omega arith

deep_append : (xs ys : List (Option Value)) → deep_of (xs ++ ys) ≡ max (deep_of xs) (deep_of ys)
deep_append [] ys = deep_none ys
deep_append (x ∷ xs) ys = omega (arith, deep_cons x (xs ++ ys), deep_cons x xs, deep_append xs ys)

pub ends_later : (p q : Option Datum) (ps : List (Option Datum)) → EndsIn q ps → EndsIn p (q ∷ ps)
ends_later None q ps h = h
ends_later (Some d) q ps h = h

ends_append : (p q : Option Datum) (ps qs : List (Option Datum)) → EndsIn q qs → EndsIn p (ps ++ q ∷ qs)
ends_append p q [] qs h = ends_later p q qs h
ends_append p q (r ∷ ps) qs h = ends_later p r (ps ++ q ∷ qs) (ends_append r q ps qs h)

trimmed_append : (ps qs : List (Option Datum)) → IsTrimmed ps → IsTrimmed qs → IsTrimmed (ps ++ qs)
trimmed_append ps [] h k = subst IsTrimmed (sym (append-nil ps)) h
trimmed_append [] (q ∷ qs) h k = k
trimmed_append (p ∷ ps) (q ∷ qs) h k = ends_append p q ps qs k

formed_append : (ps qs : List (Option Datum)) → PartsAreWellFormed (parts_of ps) → PartsAreWellFormed (parts_of qs) → PartsAreWellFormed (parts_of (ps ++ qs))
formed_append [] qs h k = k
formed_append (None ∷ ps) qs h k = formed_append ps qs h k
formed_append (Some d ∷ ps) qs h k = (h.0, formed_append ps qs h.1 k)

parts_append : (ps qs : List (Option Datum)) → parts_depth (parts_of (ps ++ qs)) ≡ max (parts_depth (parts_of ps)) (parts_depth (parts_of qs))
parts_append [] qs = omega arith
parts_append (p ∷ ps) qs = omega (arith, parts_cons p (ps ++ qs), parts_cons p ps, parts_append ps qs)

pub tuple_append : (ps qs : List (Option Datum)) → IsTupleList ps → IsTupleList qs → IsTupleList (ps ++ qs)
tuple_append ps qs h k = (
  (
    formed_append ps qs h.0.0 k.0.0,
    subst IsTrimmed (sym (part_list-parts_of (ps ++ qs))) (trimmed_append ps qs (subst IsTrimmed (part_list-parts_of ps) h.0.1) (subst IsTrimmed (part_list-parts_of qs) k.0.1)),
  ),
  omega (arith, parts_append ps qs, h.1, k.1),
)

-- what stands in a list, with more behind it
module _ (s : ℕ) (xs more ys : List (Option Value)) (within : s ≤ length xs) (appended : ys ≡ xs ++ more) where
  pub behind_appended : map part (drop s ys) ≡ map part (drop s xs) ++ map part more
  behind_appended = ap (λ l. map part (drop s l)) appended ∙ ap (map part) (drop-append-le s xs more within) ∙ map-append part (drop s xs) more

  pub deep_behind : deep_of (drop s ys) ≡ max (deep_of (drop s xs)) (deep_of more)
  deep_behind = ap (λ l. deep_of (drop s l)) appended ∙ ap deep_of (drop-append-le s xs more within) ∙ deep_append (drop s xs) more

  pub deep_appended : deep_of ys ≡ max (deep_of xs) (deep_of more)
  deep_appended = ap deep_of appended ∙ deep_append xs more

  pub long_appended : s ≤ length ys
  long_appended = omega (arith, ap length appended, length-append xs more, within)
