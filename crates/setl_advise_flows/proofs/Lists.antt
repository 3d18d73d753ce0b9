-- What holds for each member of lists also holds for each of what is made of them.
use Rattle.std.proofs.Common.{◌≡◌, refl, sym, subst, ℕ, zero, suc, Bool, true, false, List, [], ◌∷◌, Option, Some, None}
use Rattle.std.specs.Prelude.{cond, ◌++◌, ◌-◌, map, take, drop, replicate, slice_range}
use mathlib.Core.List.{reverse_aux}
use Rattle.std.specs.List.{AllByRecursion, filter, filter_map, cons_option}
use Rattle.std.specs.declared.cmp.Ordering.{Ordering}
use Rattle.std.specs.declared.cmp.Ordering.TheVariants.{Less, Equal, Greater}
use Rattle.setl_value.specs.Datum.{Datum, set_of, tuple_of, element_list-elements_of, part_list-parts_of}
use Rattle.setl_value.specs.Order.{datum_cmp}
use Rattle.setl_value.specs.Copies.{copies}
use Rattle.setl_value.specs.WellFormed.{trim, trim_onto}
use Rattle.setl_set.specs.Sets.{insert_by, insert_datum, set_from, union_of}
use Rattle.setl_advise_flows.specs.Has.{HasPart, Members, Components}

module _ {X : Type 0} (P : X → Type 0) where
  pub each_append : (xs ys : List X) → AllByRecursion P xs → AllByRecursion P ys → AllByRecursion P (xs ++ ys)
  each_append [] ys h k = k
  each_append (x ∷ xs) ys h k = (h.0, each_append xs ys h.1 k)

  pub each_filter : (test : X → Bool) (xs : List X) → AllByRecursion P xs → AllByRecursion P (filter test xs)
  each_filter test [] h = h
  each_filter test (x ∷ xs) h = go (test x) (each_filter test xs h.1)
    where
      go : (b : Bool) → AllByRecursion P (filter test xs) → AllByRecursion P (cond b (x ∷ filter test xs) (filter test xs))
      go true k = (h.0, k)
      go false k = k

  pub each_onto : (xs ys : List X) → AllByRecursion P xs → AllByRecursion P ys → AllByRecursion P (reverse_aux xs ys)
  each_onto [] ys h k = k
  each_onto (x ∷ xs) ys h k = each_onto xs (x ∷ ys) h.1 (h.0, k)

  pub each_take : (n : ℕ) (xs : List X) → AllByRecursion P xs → AllByRecursion P (take n xs)
  each_take zero xs h = tt
  each_take (suc n) [] h = tt
  each_take (suc n) (x ∷ xs) h = (h.0, each_take n xs h.1)

  pub each_drop : (n : ℕ) (xs : List X) → AllByRecursion P xs → AllByRecursion P (drop n xs)
  each_drop zero xs h = h
  each_drop (suc n) [] h = tt
  each_drop (suc n) (x ∷ xs) h = each_drop n xs h.1

  pub each_replicate : (n : ℕ) (x : X) → P x → AllByRecursion P (replicate n x)
  each_replicate zero x h = tt
  each_replicate (suc n) x h = (h, each_replicate n x h)

  pub each_slice : (a b : ℕ) (xs : List X) → AllByRecursion P xs → AllByRecursion P (slice_range xs a b)
  each_slice a b xs h = each_take (b - a) (drop a xs) (each_drop a xs h)

  pub each_copies : (n : ℕ) (xs : List X) → AllByRecursion P xs → AllByRecursion P (copies n xs)
  each_copies zero xs h = tt
  each_copies (suc n) xs h = each_append xs (copies n xs) h (each_copies n xs h)

pub each_filter_map : {X Y : Type 0} (P : X → Type 0) (Q : Y → Type 0) (f : X → Option Y) → ((x : X) → P x → (y : Y) → f x ≡ Some y → Q y) → (xs : List X) → AllByRecursion P xs → AllByRecursion Q (filter_map f xs)
each_filter_map P Q f k [] h = tt
each_filter_map P Q f k (x ∷ xs) h = go (f x) (k x h.0) (each_filter_map P Q f k xs h.1)
  where
    go : (o : Option _) → ((y : _) → o ≡ Some y → Q y) → AllByRecursion Q (filter_map f xs) → AllByRecursion Q (cons_option o (filter_map f xs))
    go None k t = t
    go (Some y) k t = (k y refl, t)

pub each_map : {X Y : Type 0} (P : X → Type 0) (Q : Y → Type 0) (f : X → Y) → ((x : X) → P x → Q (f x)) → (xs : List X) → AllByRecursion P xs → AllByRecursion Q (map f xs)
each_map P Q f k [] h = tt
each_map P Q f k (x ∷ xs) h = (k x h.0, each_map P Q f k xs h.1)

module _ (P : Datum → Type 0) where
  pub each_insert : (d : Datum) (ds : List Datum) → P d → AllByRecursion P ds → AllByRecursion P (insert_datum d ds)
  each_insert d [] h k = (h, tt)
  each_insert d (e ∷ es) h k = go (datum_cmp d e) (each_insert d es h k.1)
    where
      go : (o : Ordering) → AllByRecursion P (insert_datum d es) → AllByRecursion P (insert_by o d e es (insert_datum d es))
      go Less t = (h, k)
      go Equal t = k
      go Greater t = (k.0, t)

  pub each_set_from : (ds : List Datum) → AllByRecursion P ds → AllByRecursion P (set_from ds)
  each_set_from [] h = tt
  each_set_from (d ∷ ds) h = each_insert d (set_from ds) h.0 (each_set_from ds h.1)

  pub each_union : (xs ys : List Datum) → AllByRecursion P xs → AllByRecursion P ys → AllByRecursion P (union_of xs ys)
  each_union xs ys h k = each_set_from (xs ++ ys) (each_append P xs ys h k)

  pub each_trim : (ps : List (Option Datum)) → AllByRecursion (HasPart P) ps → AllByRecursion (HasPart P) (trim ps)
  each_trim [] h = tt
  each_trim (p ∷ ps) h = go p h.0 (trim ps) (each_trim ps h.1)
    where
      go : (p : Option Datum) → HasPart P p → (qs : List (Option Datum)) → AllByRecursion (HasPart P) qs → AllByRecursion (HasPart P) (trim_onto p qs)
      go None h [] t = tt
      go (Some d) h qs t = (h, t)
      go None h (q ∷ qs) t = (tt, t)

  pub set_has : (ds : List Datum) → AllByRecursion P ds → Members P (set_of ds)
  set_has ds h = subst (λ l. AllByRecursion P l) (sym (element_list-elements_of ds)) h

  pub tuple_has : (ps : List (Option Datum)) → AllByRecursion (HasPart P) ps → Components P (tuple_of ps)
  tuple_has ps h = subst (λ l. AllByRecursion (HasPart P) l) (sym (part_list-parts_of ps)) h
