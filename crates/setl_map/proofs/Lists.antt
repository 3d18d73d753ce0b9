-- Lists, one element further.
use Rattle.std.specs.Prelude.{◌≡◌, ℕ, zero, suc, ◌+◌, ◌-◌, ◌<◌, ◌≤◌, List, [], ◌∷◌, ◌++◌, Option, Some, None, slice_get, slice_range, take, drop, refl}
use Rattle.std.specs.List.{filter_map, cons_option}
use Rattle.std.specs.Option.{unwrap_or, option_to_list}
use Rattle.std.proofs.Common.{ap, ◌∙◌, arith, append_assoc}
use Rattle.std.proofs.lemmas.Option.{none-some}
use Rattle.std.proofs.lemmas.List.Elements.{filter_map-append}
use Rattle.setl_value.specs.Datum.{Datum, depth, elements_depth, elements_of, set_of}

some_same : {X : Type 0} (x y : X) → Some x ≡ Some y → x ≡ y
some_same x y p = ap (λ o. unwrap_or o x) p

take_suc : {X : Type 0} (xs : List X) (i : ℕ) (x : X) → slice_get xs i ≡ Some x → take (suc i) xs ≡ take i xs ++ x ∷ []
take_suc [] i x h = absurd (none-some x h)
take_suc (y ∷ xs) zero x h = ap (λ z. z ∷ []) (some_same y x h)
take_suc (y ∷ xs) (suc i) x h = ap (λ l. y ∷ l) (take_suc xs i x h)

pub take_get : {X : Type 0} (xs : List X) (i : ℕ) (x : X) → slice_get xs i ≡ Some x → take (i + 1) xs ≡ take i xs ++ x ∷ []
take_get xs i x h = ap (λ n. take n xs) {x = i + 1} {y = suc i} (omega arith) ∙ take_suc xs i x h

get_drop : {X : Type 0} (xs : List X) (a k : ℕ) → slice_get (drop a xs) k ≡ slice_get xs (a + k)
get_drop xs zero k = ap (slice_get xs) {x = k} {y = 0 + k} (omega arith)
get_drop [] (suc a) k = refl
get_drop (y ∷ xs) (suc a) k = get_drop xs a k ∙ ap (slice_get (y ∷ xs)) {x = suc (a + k)} {y = suc a + k} (omega arith)

pub range_get : {X : Type 0} (xs : List X) (a i : ℕ) (x : X) → a ≤ i → slice_get xs i ≡ Some x → slice_range xs a (i + 1) ≡ slice_range xs a i ++ x ∷ []
range_get xs a i x p h =
    ap (λ n. take n (drop a xs)) {x = i + 1 - a} {y = i - a + 1} (omega arith) ∙ take_get (drop a xs) (i - a) x (get_drop xs a (i - a) ∙ ap (slice_get xs) {x = a + (i - a)} {y = i} (omega arith) ∙ h)

one_option : {X : Type 0} (o : Option X) → cons_option o [] ≡ option_to_list o
one_option None = refl
one_option (Some x) = refl

pub filter_map_snoc : {X Y : Type 0} (h : X → Option Y) (xs : List X) (x : X) → filter_map h (xs ++ x ∷ []) ≡ filter_map h xs ++ option_to_list (h x)
filter_map_snoc h xs x = filter_map-append h xs (x ∷ []) ∙ ap (λ l. filter_map h xs ++ l) (one_option (h x))

option_front : {X : Type 0} (o : Option X) (xs : List X) → option_to_list o ++ xs ≡ cons_option o xs
option_front None xs = refl
option_front (Some x) xs = refl

-- what h makes of the first of some elements, and then of n more
pub one_more_part : {X Y : Type 0} (h : X → Option Y) (n : ℕ) (made new : List Y) (x : X) (rest : List X) → new ≡ made ++ option_to_list (h x)
    → new ++ filter_map h (take n rest) ≡ made ++ filter_map h (take (suc n) (x ∷ rest))
one_more_part h n made new x rest e =
    ap (λ l. l ++ filter_map h (take n rest)) e ∙ append_assoc made (option_to_list (h x)) (filter_map h (take n rest)) ∙ ap (λ l. made ++ l) (option_front (h x) (filter_map h (take n rest)))

elements_get : (ds : List Datum) (i : ℕ) (d : Datum) → slice_get ds i ≡ Some d → depth d ≤ elements_depth (elements_of ds)
elements_get [] i d h = absurd (none-some d h)
elements_get (e ∷ ds) zero d h = omega (arith, ap depth (some_same e d h))
elements_get (e ∷ ds) (suc i) d h = omega (arith, elements_get ds i d h)

-- a member is less deep than its set
pub member_depth : (ds : List Datum) (i : ℕ) (d : Datum) → slice_get ds i ≡ Some d → depth d < depth (set_of ds)
member_depth ds i d h = omega (arith, elements_get ds i d h)
