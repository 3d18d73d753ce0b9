-- Texts with one blank between two, one more at a time, and doubled apostrophes.
use Rattle.std.proofs.Common.{◌≡◌, ◌∙◌, ℕ, zero, suc, ◌+◌, ◌<◌, List, [], ◌∷◌, ◌++◌, length, take, map, get_or, slice_get, Some, None, Option, refl, sym, ap, append_assoc, arith, add-one, eqb, Bool, true, false, cond}
use Rattle.std.specs.List.{AllByRecursion}
use Rattle.std.proofs.lemmas.List.{map-append, append-nil}
use Rattle.std.proofs.lemmas.Option.{slice_get-get_or}
use Rattle.setl_value.specs.Datum.{Datum, depth, elements_depth, elements_of, parts_of, set_of, tuple_of}
use Rattle.setl_text.specs.Texts.{spaced, doubled, inner_text, element_texts, part_texts, enclosed}
use Rattle.setl_text.specs.code.TextParts.{blank_before, component_text}

spaced-push : (t : List ℕ) (ts : List (List ℕ)) (u : List ℕ) → spaced ((t ∷ ts) ++ u ∷ []) ≡ spaced (t ∷ ts) ++ (32 ∷ u)
spaced-push t [] u = refl
spaced-push t (s ∷ ts) u = ap (λ x. t ++ 32 ∷ x) (spaced-push s ts u) ∙ sym (append_assoc t (32 ∷ spaced (s ∷ ts)) (32 ∷ u))

take-next : {A : Type 0} (xs : List A) (i : ℕ) (x : A) → slice_get xs i ≡ Some x → take (suc i) xs ≡ take i xs ++ x ∷ []
take-next [] zero x h = absurd (cc)
take-next [] (suc i) x h = absurd (cc)
take-next (y ∷ xs) zero x h = let same : y ≡ x = cc in ap (λ z. z ∷ []) same
take-next (y ∷ xs) (suc i) x h = ap (λ zs. y ∷ zs) (take-next xs i x h)

module _ {A : Type 0} (f : A → List ℕ) where
  spaced_next : (xs : List A) (i : ℕ) (x : A) → slice_get xs i ≡ Some x → spaced (map f (take i xs)) ++ (blank_before i ++ f x) ≡ spaced (map f (take i xs) ++ f x ∷ [])
  spaced_next [] i x h = absurd (none i h)
    where
      none : (i : ℕ) → slice_get {X = A} [] i ≡ Some x → ⊥
      none zero h = cc
      none (suc i) h = cc
  spaced_next (y ∷ xs) zero x h = refl
  spaced_next (y ∷ xs) (suc i) x h = sym (spaced-push (f y) (map f (take i xs)) (f x))

  -- one more text, behind its blank
  pub spaced_more : (xs : List A) (old line blank new : List ℕ) (i : ℕ) (x : A) → slice_get xs i ≡ Some x → line ≡ old ++ spaced (map f (take i xs)) → blank ≡ line ++ blank_before i → new ≡ blank ++ f x → new ≡ old ++ spaced (map f (take (i + 1) xs))
  spaced_more xs old line blank new i x h so_far gap more =
      more ∙ ap (λ l. l ++ f x) (gap ∙ ap (λ l. l ++ blank_before i) so_far)
      ∙ append_assoc (old ++ spaced (map f (take i xs))) (blank_before i) (f x)
      ∙ append_assoc old (spaced (map f (take i xs))) (blank_before i ++ f x)
      ∙ ap (λ t. old ++ t) (spaced_next xs i x h ∙ ap spaced (sym (map-append f (take i xs) (x ∷ [])) ∙ ap (map f) (sym (take-next xs i x h) ∙ ap (λ k. take k xs) (sym (add-one i)))))

-- a text between brackets
pub enclosed_is : (old open_ inside close_ t u : List ℕ) (first last : ℕ) → open_ ≡ old ++ first ∷ [] → inside ≡ open_ ++ t → close_ ≡ inside ++ last ∷ [] → t ≡ u → close_ ≡ old ++ enclosed first u last
enclosed_is old open_ inside close_ t u first last p q r e =
    r ∙ ap (λ l. l ++ last ∷ []) (q ∙ ap (λ l. l ++ t) p ∙ append_assoc old (first ∷ []) t)
    ∙ append_assoc old (first ∷ t) (last ∷ [])
    ∙ ap (λ v. old ++ first ∷ (v ++ last ∷ [])) e

pub members_text : (ds : List Datum) → spaced (map inner_text ds) ≡ spaced (element_texts (elements_of ds))
members_text ds = ap spaced (by ds)
  where
    by : (ds : List Datum) → map inner_text ds ≡ element_texts (elements_of ds)
    by [] = refl
    by (d ∷ ds) = ap (λ ts. inner_text d ∷ ts) (by ds)

pub components_text : (ps : List (Option Datum)) → spaced (map component_text ps) ≡ spaced (part_texts (parts_of ps))
components_text ps = ap spaced (by ps)
  where
    by : (ps : List (Option Datum)) → map component_text ps ≡ part_texts (parts_of ps)
    by [] = refl
    by (None ∷ ps) = ap (λ ts. (42 ∷ []) ∷ ts) (by ps)
    by (Some d ∷ ps) = ap (λ ts. inner_text d ∷ ts) (by ps)

-- the texts of some members, each behind a blank
abbrev pub behind : List Datum → List ℕ
behind [] = []
behind (d ∷ ds) = 32 ∷ (inner_text d ++ behind ds)

pub spaced_first : (d : Datum) (ds : List Datum) → spaced (map inner_text (d ∷ ds)) ≡ inner_text d ++ behind ds
spaced_first d [] = sym (append-nil (inner_text d))
spaced_first d (e ∷ es) = ap (λ t. inner_text d ++ 32 ∷ t) (spaced_first e es)

-- all these are less deep than n
abbrev pub AllLess : ℕ → List Datum → Type 0
AllLess n ds = AllByRecursion (λ d. depth d < n) ds

less_deep : (n : ℕ) (ds : List Datum) → elements_depth (elements_of ds) < n → AllLess n ds
less_deep n [] h = tt
less_deep n (d ∷ ds) h = (omega arith, less_deep n ds (omega arith))

-- members and components are less deep than what holds them
pub members_fall : (ds : List Datum) → AllLess (depth (set_of ds)) ds
members_fall ds = less_deep (depth (set_of ds)) ds (omega arith)

pub component_falls : (ps : List (Option Datum)) (i : ℕ) (d : Datum) → slice_get ps i ≡ Some (Some d) → depth d < depth (tuple_of ps)
component_falls [] zero d h = absurd (cc)
component_falls [] (suc i) d h = absurd (cc)
component_falls (None ∷ ps) zero d h = absurd (cc)
component_falls (Some e ∷ ps) zero d h = let same : e ≡ d = cc in omega (arith, ap depth same)
component_falls (None ∷ ps) (suc i) d h = omega (arith, component_falls ps i d h)
component_falls (Some e ∷ ps) (suc i) d h = omega (arith, component_falls ps i d h)

doubled_by : (t : Bool) (x : ℕ) (both first second : List ℕ) → both ≡ first ++ second → cond t (39 ∷ 39 ∷ both) (x ∷ both) ≡ cond t (39 ∷ 39 ∷ first) (x ∷ first) ++ second
doubled_by true x both first second e = ap (λ l. 39 ∷ 39 ∷ l) e
doubled_by false x both first second e = ap (λ l. x ∷ l) e

-- doubled apostrophes of two lists, one behind the other
pub doubled-append : (xs ys : List ℕ) → doubled (xs ++ ys) ≡ doubled xs ++ doubled ys
doubled-append [] ys = refl
doubled-append (x ∷ xs) ys = doubled_by (eqb x 39) x _ _ _ (doubled-append xs ys)

get-next : (bs : List ℕ) (i : ℕ) → i < length bs → slice_get bs i ≡ Some (get_or bs i 0)
get-next bs i h = slice_get-get_or bs i 0 h

-- one more byte, doubled if it is an apostrophe
pub doubled_next : (bs old line new : List ℕ) (i : ℕ) → i < length bs → line ≡ old ++ doubled (take i bs) → new ≡ line ++ doubled (get_or bs i 0 ∷ []) → new ≡ old ++ doubled (take (i + 1) bs)
doubled_next bs old line new i h so_far more =
    let b = get_or bs i 0 in
    more ∙ ap (λ l. l ++ doubled (b ∷ [])) so_far
    ∙ append_assoc old (doubled (take i bs)) (doubled (b ∷ []))
    ∙ ap (λ l. old ++ l) (sym (doubled-append (take i bs) (b ∷ [])) ∙ ap doubled (sym (take-next bs i b (get-next bs i h)) ∙ ap (λ k. take k bs) (sym (add-one i))))
