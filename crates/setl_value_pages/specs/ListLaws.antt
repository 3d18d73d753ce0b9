-- Laws of lists: what holds of all items, what stands at a place, and some items in the place of others.
use Rattle.std.specs.Prelude.{◌≡◌, ◌⊎◌, ℕ, zero, suc, ◌+◌, ◌-◌, ◌<◌, ◌≤◌, List, [], ◌∷◌, ◌++◌, Some, None, min, length, take, drop, map, refl, slice_get, slice_index_or, slice_range, slice_set}
use Rattle.std.specs.List.{AllByRecursion, insert, remove}
use Rattle.std.specs.Option.{unwrap_or}
use Rattle.std.proofs.Common.{arith, ap, sym, ◌∙◌, subst, inl, inr}
use Rattle.std.proofs.lemmas.List.{append_assoc, drop-map, drop-set-lt, map-append, take-append-drop, take-map}
use Rattle.std.proofs.lemmas.Option.{none-some}

pub drop_none : {X : Type 0} (n : ℕ) → ◌≡◌ {A = List X} (drop n []) []
drop_none zero = refl
drop_none (suc n) = refl

pub none_left : {X : Type 0} (xs : List X) (n : ℕ) → length xs ≤ n → ◌≡◌ {A = List X} (drop n xs) []
none_left [] n h = drop_none n
none_left (x ∷ xs) zero h = absurd (omega arith)
none_left (x ∷ xs) (suc n) h = none_left xs n (omega arith)

pub get_left : {X : Type 0} (xs ys : List X) (i : ℕ) → i < length xs → slice_get (xs ++ ys) i ≡ slice_get xs i
get_left [] ys i h = absurd (omega arith)
get_left (x ∷ xs) ys zero h = refl
get_left (x ∷ xs) ys (suc i) h = get_left xs ys i (omega arith)

pub get_right : {X : Type 0} (xs ys : List X) (n i : ℕ) → i ≡ length xs + n → slice_get (xs ++ ys) i ≡ slice_get ys n
get_right [] ys n i h = ap (slice_get ys) (omega (arith, h))
get_right (x ∷ xs) ys n zero h = absurd (omega (arith, h))
get_right (x ∷ xs) ys n (suc i) h = get_right xs ys n i (omega (arith, h))

pub get_dropped : {X : Type 0} (xs : List X) (n : ℕ) → slice_get (drop n xs) 0 ≡ slice_get xs n
get_dropped [] zero = refl
get_dropped [] (suc n) = refl
get_dropped (x ∷ xs) zero = refl
get_dropped (x ∷ xs) (suc n) = get_dropped xs n

-- what stands from a place on
pub front_of : {X : Type 0} (xs : List X) (n : ℕ) (x : X) (ys : List X) → drop n xs ≡ x ∷ ys → slice_get xs n ≡ Some x
front_of xs n x ys e = sym (get_dropped xs n) ∙ ap (λ l. slice_get l 0) e

pub nothing_of : {X : Type 0} (xs : List X) (n : ℕ) → ◌≡◌ {A = List X} (drop n xs) [] → slice_get xs n ≡ None
nothing_of xs n e = sym (get_dropped xs n) ∙ ap (λ l. slice_get l 0) e

pub drop_capped : {X : Type 0} (xs : List X) (k n : ℕ) → n ≡ min k (length xs) → drop n xs ≡ drop k xs
drop_capped [] k n e = drop_none n ∙ sym (drop_none k)
drop_capped (x ∷ xs) zero n e = ap (λ m. drop m (x ∷ xs)) {x = n} {y = 0} (omega (arith, e))
drop_capped (x ∷ xs) (suc k) zero e = absurd (omega (arith, e))
drop_capped (x ∷ xs) (suc k) (suc n) e = drop_capped xs k n (omega (arith, e))

pub all_at : {X : Type 0} (P : X → Type 0) (xs : List X) (i : ℕ) (x : X) → AllByRecursion P xs → slice_get xs i ≡ Some x → P x
all_at P [] i x a e = absurd (none-some x e)
all_at P (y ∷ xs) zero x a e = subst P (ap (λ o. unwrap_or o y) e) a.0
all_at P (y ∷ xs) (suc i) x a e = all_at P xs i x a.1 e

pub all_remove : {X : Type 0} (P : X → Type 0) (xs : List X) (i : ℕ) → AllByRecursion P xs → AllByRecursion P (remove xs i)
all_remove P [] zero a = tt
all_remove P [] (suc i) a = tt
all_remove P (x ∷ xs) zero a = a.1
all_remove P (x ∷ xs) (suc i) a = (a.0, all_remove P xs i a.1)

pub all_insert : {X : Type 0} (P : X → Type 0) (xs : List X) (i : ℕ) (x : X) → AllByRecursion P xs → P x → AllByRecursion P (insert xs i x)
all_insert P [] zero x a p = (p, tt)
all_insert P [] (suc i) x a p = (p, tt)
all_insert P (y ∷ xs) zero x a p = (p, a)
all_insert P (y ∷ xs) (suc i) x a p = (a.0, all_insert P xs i x a.1 p)

pub all_take : {X : Type 0} (P : X → Type 0) (xs : List X) (i : ℕ) → AllByRecursion P xs → AllByRecursion P (take i xs)
all_take P xs zero a = tt
all_take P [] (suc i) a = tt
all_take P (x ∷ xs) (suc i) a = (a.0, all_take P xs i a.1)

pub all_drop : {X : Type 0} (P : X → Type 0) (xs : List X) (i : ℕ) → AllByRecursion P xs → AllByRecursion P (drop i xs)
all_drop P xs zero a = a
all_drop P [] (suc i) a = tt
all_drop P (x ∷ xs) (suc i) a = all_drop P xs i a.1

pub all_append : {X : Type 0} (P : X → Type 0) (xs ys : List X) → AllByRecursion P xs → AllByRecursion P ys → AllByRecursion P (xs ++ ys)
all_append P [] ys a b = b
all_append P (x ∷ xs) ys a b = (a.0, all_append P xs ys a.1 b)

pub map-remove : {X Y : Type 0} (f : X → Y) (xs : List X) (i : ℕ) → map f (remove xs i) ≡ remove (map f xs) i
map-remove f xs i = map-append f (take i xs) (drop (suc i) xs) ∙ (λ k. sym (take-map f i xs) k ++ sym (drop-map f (suc i) xs) k)

-- an item that is there
pub item_there : {X : Type 0} (xs : List X) (i : ℕ) (x : X) → i < length xs → x ≡ slice_index_or xs i x → slice_get xs i ≡ Some x
item_there [] i x p e = absurd (omega arith)
item_there (y ∷ xs) zero x p e = ap Some (sym e)
item_there (y ∷ xs) (suc i) x p e = item_there xs i x (omega arith) e

-- ys in the place of the items from the i-th up to before the j-th
abbrev pub replaced : {X : Type 0} → List X → ℕ → ℕ → List X → List X
replaced xs i j ys = take i xs ++ ys ++ drop j xs

pub map-replaced : {X Y : Type 0} (f : X → Y) (xs : List X) (i j : ℕ) (ys : List X) → map f (replaced xs i j ys) ≡ replaced (map f xs) i j (map f ys)
map-replaced f xs i j ys =
    map-append f (take i xs ++ ys) (drop j xs) ∙ ap (λ l. l ++ map f (drop j xs)) (map-append f (take i xs) ys) ∙ (λ k. sym (take-map f i xs) k ++ map f ys ++ sym (drop-map f j xs) k)

-- a list is what stands before i, what stands from i up to j, and what stands from j on
pub three_parts : {X : Type 0} (xs : List X) (i j : ℕ) → i ≤ j → replaced xs i j (slice_range xs i j) ≡ xs
three_parts xs zero j h = ap (λ n. take n xs ++ drop j xs) {x = j - 0} {y = j} (omega arith) ∙ take-append-drop j xs
three_parts [] (suc i) j h = none_left (j - suc i) j
  where
    none_left : {X : Type 0} (n m : ℕ) → ◌≡◌ {A = List X} (take n [] ++ drop m []) []
    none_left zero zero = refl
    none_left zero (suc m) = refl
    none_left (suc n) zero = refl
    none_left (suc n) (suc m) = refl
three_parts (x ∷ xs) (suc i) zero h = absurd (omega arith)
three_parts (x ∷ xs) (suc i) (suc j) h = ap (λ n. x ∷ replaced xs i j (take n (drop i xs))) {x = suc j - suc i} {y = j - i} (omega arith) ∙ ap (λ l. x ∷ l) (three_parts xs i j (omega arith))

pub map-between : {X Y : Type 0} (f : X → Y) (xs : List X) (i j : ℕ) (ys : List X) → map f (replaced xs i j ys) ≡ take i (map f xs) ++ (map f ys ++ drop j (map f xs))
map-between f xs i j ys = map-replaced f xs i j ys ∙ append_assoc (take i (map f xs)) (map f ys) (drop j (map f xs))

-- the front, and what is behind it
pub front_there : {X : Type 0} (s : ℕ) (xs : List X) (x : X) → slice_get xs s ≡ Some x → drop s xs ≡ x ∷ drop (s + 1) xs
front_there {X} s xs x h = subst (λ k. drop s xs ≡ x ∷ drop k xs) {x = suc s} (omega arith) (go s xs h)
  where
    go : (s : ℕ) (xs : List X) → slice_get xs s ≡ Some x → drop s xs ≡ x ∷ drop (suc s) xs
    go zero [] h = absurd (none-some x h)
    go (suc s) [] h = absurd (none-some x h)
    go zero (y ∷ xs) h = ap (λ o. unwrap_or o y ∷ xs) h
    go (suc s) (y ∷ xs) h = go s xs h

-- what stands behind an item that was written
pub left_behind : {X : Type 0} (xs ys : List X) (s : ℕ) (x : X) → (ys ≡ xs) ⊎ (ys ≡ slice_set xs s x) → drop (s + 1) ys ≡ drop (s + 1) xs
left_behind xs ys s x left = elim left [ inl e ↦ ap (drop (s + 1)) e | inr e ↦ ap (drop (s + 1)) e ∙ drop-set-lt (s + 1) xs s x (omega arith) ]
