-- Lists of components, without the `om` at their end.
use Rattle.std.specs.Prelude.{◌≡◌, ℕ, zero, suc, ◌+◌, ◌≤◌, ◌<◌, List, [], ◌∷◌, ◌++◌, take, map, refl, length, Option, Some, None, is_none, true, false, max}
use Rattle.std.proofs.Common.{arith, ap, sym, ◌∙◌, subst, slice_index_or}
use Rattle.std.proofs.lemmas.Bool.{true≢false}
use Rattle.std.proofs.lemmas.List.{map-append, length-map}
use Rattle.std.proofs.lemmas.Option.{slice_get-map}
use Rattle.std.specs.Option.{option_map}
use Rattle.std.specs.List.{remove}
use Rattle.std.specs.Prelude.{slice_get, ◌-◌}
use Rattle.setl_value_pages.specs.ListLaws.{all_remove, map-remove}
use Rattle.std.specs.List.{AllByRecursion}
use Rattle.std.specs.Prelude.{slice_set}
use Rattle.setl_value.specs.Datum.{Datum, tuple, depth, parts_depth, parts_of, part_list-parts_of}
use Rattle.setl_value.specs.declared.Value.{Value}
use Rattle.setl_value.specs.code.DatumOf.{part}
use Rattle.setl_value.specs.WellFormed.{trim, trim_onto, PartIsWellFormed, PartsAreWellFormed, IsTrimmed, IsTupleList, put}

take_next : {X : Type 0} (xs : List X) (i : ℕ) (x : X) → i < length xs → x ≡ slice_index_or xs i x → take (i + 1) xs ≡ take i xs ++ x ∷ []
take_next xs i x p e = subst (λ j. take j xs ≡ take i xs ++ x ∷ []) {x = suc i} (omega arith) (next xs i x p e)
  where
    next : {X : Type 0} (xs : List X) (i : ℕ) (x : X) → i < length xs → x ≡ slice_index_or xs i x → take (suc i) xs ≡ take i xs ++ x ∷ []
    next [] i x p e = absurd (omega arith)
    next (y ∷ xs) zero x p e = ap (λ z. z ∷ []) (sym e)
    next (y ∷ xs) (suc i) x p e = ap (λ l. y ∷ l) (next xs i x (omega arith) e)

pub trim_om : (ps : List (Option Datum)) → trim (ps ++ None ∷ []) ≡ trim ps
trim_om [] = refl
trim_om (p ∷ ps) = ap (trim_onto p) (trim_om ps)

onto_more : (p : Option Datum) (ps : List (Option Datum)) (d : Datum) → trim_onto p (ps ++ Some d ∷ []) ≡ p ∷ (ps ++ Some d ∷ [])
onto_more (Some c) ps d = refl
onto_more None [] d = refl
onto_more None (q ∷ ps) d = refl

pub trim_some : (ps : List (Option Datum)) (d : Datum) → trim (ps ++ Some d ∷ []) ≡ ps ++ Some d ∷ []
trim_some [] d = refl
trim_some (p ∷ ps) d = ap (trim_onto p) (trim_some ps d) ∙ onto_more p ps d

next_there : (ps : List (Option Datum)) (p : Option Datum) → is_none p ≡ false → trim (ps ++ p ∷ []) ≡ ps ++ p ∷ []
next_there ps None e = absurd (true≢false e)
next_there ps (Some d) e = trim_some ps d

next_om : (ps : List (Option Datum)) (p : Option Datum) → is_none p ≡ true → trim (ps ++ p ∷ []) ≡ trim ps
next_om ps None e = trim_om ps
next_om ps (Some d) e = absurd (true≢false (sym e))

-- ---- what `trim` keeps

onto_stands : (p : Option Datum) (ps : List (Option Datum)) → PartIsWellFormed p → AllByRecursion PartIsWellFormed ps → AllByRecursion PartIsWellFormed (trim_onto p ps)
onto_stands None [] s a = tt
onto_stands None (q ∷ ps) s a = (s, a)
onto_stands (Some d) ps s a = (s, a)

trim_stands : (ps : List (Option Datum)) → AllByRecursion PartIsWellFormed ps → AllByRecursion PartIsWellFormed (trim ps)
trim_stands [] a = tt
trim_stands (p ∷ ps) a = onto_stands p (trim ps) a.0 (trim_stands ps a.1)

onto_trimmed : (p : Option Datum) (ps : List (Option Datum)) → IsTrimmed ps → IsTrimmed (trim_onto p ps)
onto_trimmed None [] s = tt
onto_trimmed None (q ∷ ps) s = s
onto_trimmed (Some d) [] s = tt
onto_trimmed (Some d) (q ∷ ps) s = s

trim_trimmed : (ps : List (Option Datum)) → IsTrimmed (trim ps)
trim_trimmed [] = tt
trim_trimmed (p ∷ ps) = onto_trimmed p (trim ps) (trim_trimmed ps)

onto_depth : (p : Option Datum) (ps : List (Option Datum)) → parts_depth (parts_of (trim_onto p ps)) ≡ parts_depth (parts_of (p ∷ ps))
onto_depth None [] = refl
onto_depth None (q ∷ ps) = refl
onto_depth (Some d) ps = refl

pub trim_depth : (ps : List (Option Datum)) → parts_depth (parts_of (trim ps)) ≡ parts_depth (parts_of ps)
trim_depth [] = refl
trim_depth (None ∷ ps) = onto_depth None (trim ps) ∙ trim_depth ps
trim_depth (Some d ∷ ps) = ap (max (depth d)) (trim_depth ps)

parts_out : (ps : List (Option Datum)) → AllByRecursion PartIsWellFormed ps → PartsAreWellFormed (parts_of ps)
parts_out [] a = tt
parts_out (None ∷ ps) a = parts_out ps a.1
parts_out (Some d ∷ ps) a = (a.0, parts_out ps a.1)

pub tuple_made : (ps : List (Option Datum)) → AllByRecursion PartIsWellFormed ps → depth (tuple (parts_of ps)) ≤ 500 → IsTupleList (trim ps)
tuple_made ps a p = (
  (parts_out (trim ps) (trim_stands ps a), subst IsTrimmed (sym (part_list-parts_of (trim ps))) (trim_trimmed ps)),
  omega (arith, trim_depth ps, p),
)

-- ---- the loop of `kept`

one_more : (xs : List (Option Value)) (n : ℕ) (x : Option Value) → 0 < n → n ≤ length xs → x ≡ slice_index_or xs (n - 1) x → map part (take n xs) ≡ map part (take (n - 1) xs) ++ part x ∷ []
one_more xs n x o p e =
    let k : n ≡ n - 1 + 1 = omega arith in
    ap (λ m. map part (take m xs)) k ∙ ap (map part) (take_next xs (n - 1) x (omega arith) e) ∙ map-append part (take (n - 1) xs) (x ∷ [])

-- an `om` at the end is dropped
pub kept_om : (xs : List (Option Value)) (n : ℕ) (x : Option Value) → 0 < n → n ≤ length xs → x ≡ slice_index_or xs (n - 1) x → is_none (part x) ≡ true
    → trim (map part (take (n - 1) xs)) ≡ trim (map part (take n xs))
kept_om xs n x o p e t = sym (next_om (map part (take (n - 1) xs)) (part x) t) ∙ sym (ap trim (one_more xs n x o p e))

-- a value at the end ends the tuple
pub kept_there : (xs : List (Option Value)) (n : ℕ) (x : Option Value) → 0 < n → n ≤ length xs → x ≡ slice_index_or xs (n - 1) x → is_none (part x) ≡ false
    → map part (take n xs) ≡ trim (map part (take n xs))
kept_there xs n x o p e t =
    let more = one_more xs n x o p e in more ∙ sym (next_there (map part (take (n - 1) xs)) (part x) t) ∙ sym (ap trim more)

-- ---- `put`

pub put_set : (xs : List (Option Value)) (i : ℕ) (v : Option Value) → i < length xs → map part (slice_set xs i v) ≡ put (map part xs) i (part v)
put_set [] i v p = absurd (omega arith)
put_set (x ∷ xs) zero v p = refl
put_set (x ∷ xs) (suc i) v p = ap (λ l. part x ∷ l) (put_set xs i v (omega arith))

pub put_push : (xs : List (Option Value)) (i : ℕ) (v : Option Value) → i ≤ length xs → length xs ≤ i → map part (xs ++ v ∷ []) ≡ put (map part xs) i (part v)
put_push [] i v p q = refl
put_push (x ∷ xs) zero v p q = absurd (omega arith)
put_push (x ∷ xs) (suc i) v p q = ap (λ l. part x ∷ l) (put_push xs i v (omega arith) (omega arith))

put_stands : (ps : List (Option Datum)) (i : ℕ) (p : Option Datum) → AllByRecursion PartIsWellFormed ps → PartIsWellFormed p → AllByRecursion PartIsWellFormed (put ps i p)
put_stands [] i p a s = (s, tt)
put_stands (q ∷ ps) zero p a s = (s, a.1)
put_stands (q ∷ ps) (suc i) p a s = (a.0, put_stands ps i p a.1 s)

parts_in : (ps : List (Option Datum)) → PartsAreWellFormed (parts_of ps) → AllByRecursion PartIsWellFormed ps
parts_in [] s = tt
parts_in (None ∷ ps) s = (tt, parts_in ps s)
parts_in (Some d ∷ ps) s = (s.0, parts_in ps s.1)

pub tuple_put : (ps : List (Option Datum)) (i : ℕ) (p : Option Datum) → IsTupleList ps → PartIsWellFormed p → depth (tuple (parts_of (put ps i p))) ≤ 500 → IsTupleList (trim (put ps i p))
tuple_put ps i p h s d = tuple_made (put ps i p) (put_stands ps i p (parts_in ps h.0.0) s) d

less_deep : (ps : List (Option Datum)) (i n : ℕ) → parts_depth (parts_of ps) ≤ n → parts_depth (parts_of (remove ps i)) ≤ n
less_deep [] zero n h = h
less_deep [] (suc i) n h = h
less_deep (None ∷ ps) zero n h = h
less_deep (Some d ∷ ps) zero n h = omega (arith, h)
less_deep (None ∷ ps) (suc i) n h = less_deep ps i n h
less_deep (Some d ∷ ps) (suc i) n h = omega (arith, h, less_deep ps i n (omega (arith, h)))

pub tuple_remove : (ps : List (Option Datum)) (i : ℕ) → IsTupleList ps → IsTupleList (trim (remove ps i))
tuple_remove ps i h = tuple_made (remove ps i) (all_remove PartIsWellFormed ps i (parts_in ps h.0.0)) (omega (arith, less_deep ps i 499 (omega (arith, h.1))))

module _ (xs : List (Option Value)) (ps : List (Option Datum)) (w : map part xs ≡ ps) where
  same_length : length ps ≡ length xs
  same_length = ap length (sym w) ∙ length-map xs part

  -- the last component, as data
  pub last_taken : (v : Option Value) → slice_get xs (length xs - 1) ≡ Some v → slice_get ps (length ps - 1) ≡ Some (part v)
  last_taken v h = ap (λ l. slice_get l (length ps - 1)) (sym w) ∙ ap (λ k. slice_get (map part xs) (k - 1)) same_length ∙ slice_get-map part xs (length xs - 1) ∙ ap (option_map part) h

  -- the components before the last, as data
  pub last_cut : (ys : List (Option Datum)) → ys ≡ trim (map part (remove xs (length xs - 1))) → ys ≡ trim (remove ps (length ps - 1))
  last_cut ys h = h ∙ ap trim (map-remove part xs (length xs - 1) ∙ ap (λ l. remove l (length xs - 1)) w ∙ ap (λ k. remove ps (k - 1)) (sym same_length))
