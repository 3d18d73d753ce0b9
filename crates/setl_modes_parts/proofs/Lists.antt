-- Lists of data: which data are among them, and rising lists.
use Rattle.std.specs.Prelude.{◌≡◌, ◌⊎◌, suc, Bool, true, false, ◌==◌, cond, List, [], ◌∷◌, ◌++◌, map, length, refl}
use Rattle.std.specs.List.{AllByRecursion, list_all, filter}
use Rattle.std.specs.List.Sorted.{IsStrictlySortedBy}
use Rattle.std.specs.declared.cmp.Ordering.{Ordering}
use Rattle.std.specs.declared.cmp.Ordering.TheVariants.{Less, Equal, Greater}
use Rattle.std.proofs.Common.{ap, sym, ◌∙◌, inl, inr, arith}
use Rattle.std.proofs.lemmas.Bool.{false≢true, and_parts, and_from, ne_eqb}
use Rattle.setl_value.specs.Datum.{Datum}
use Rattle.setl_value.specs.Order.{datum_cmp, IsRising}
use Rattle.setl_value.specs.OrderLaws.{equal_iff_same}
use Rattle.setl_value.specs.Pairs.{pair}
use Rattle.setl_set.specs.Sets.{insert_by, insert_datum, set_from}

abbrev pub Among : {X : Type 0} → X → List X → Type 0
Among x [] = ⊥
Among x (y ∷ ys) = (x ≡ y) ⊎ Among x ys

abbrev pub Within : List Datum → List Datum → Type 0
Within xs ys = (z : Datum) → Among z xs → Among z ys

-- ---- tests of all

pub all_of : {X : Type 0} (p : X → Bool) (xs : List X) → list_all p xs ≡ true → (x : X) → Among x xs → p x ≡ true
all_of p [] h x m = absurd m
all_of p (y ∷ ys) h x (inl e) = ap p e ∙ (and_parts (p y) (list_all p ys) h).0
all_of p (y ∷ ys) h x (inr m) = all_of p ys (and_parts (p y) (list_all p ys) h).1 x m

pub all_from : {X : Type 0} (p : X → Bool) (xs : List X) → ((x : X) → Among x xs → p x ≡ true) → list_all p xs ≡ true
all_from p [] h = refl
all_from p (y ∷ ys) h = and_from (p y) (list_all p ys) (h y (inl refl)) (all_from p ys (λ x m. h x (inr m)))

-- ---- what lists are made of

pub among_parts : {X : Type 0} (xs ys : List X) (x : X) → Among x (xs ++ ys) → Among x xs ⊎ Among x ys
among_parts [] ys x m = inr m
among_parts (z ∷ zs) ys x (inl e) = inl (inl e)
among_parts (z ∷ zs) ys x (inr m) = go (among_parts zs ys x m)
  where
    go : Among x zs ⊎ Among x ys → Among x (z ∷ zs) ⊎ Among x ys
    go (inl n) = inl (inr n)
    go (inr n) = inr n

pub among_pairs : (x : Datum) (ys : List Datum) (d : Datum) → Among d (map (pair x) ys) → (y : Datum) × Among y ys × (d ≡ pair x y)
among_pairs x [] d m = absurd m
among_pairs x (y ∷ ys) d (inl e) = (y, inl refl, e)
among_pairs x (y ∷ ys) d (inr m) = let r = among_pairs x ys d m in (r.0, inr r.1, r.2)

pub among_filter : {X : Type 0} (p : X → Bool) (xs : List X) (x : X) → Among x (filter p xs) → Among x xs × (p x ≡ true)
among_filter p [] x m = absurd m
among_filter p (y ∷ ys) x m = go (p y) refl (among_filter p ys x) m
  where
    go : (b : Bool) → p y ≡ b → (Among x (filter p ys) → Among x ys × (p x ≡ true)) → Among x (cond b (y ∷ filter p ys) (filter p ys)) → Among x (y ∷ ys) × (p x ≡ true)
    go true e rest (inl n) = (inl n, ap p n ∙ e)
    go true e rest (inr n) = let r = rest n in (inr r.0, r.1)
    go false e rest n = let r = rest n in (inr r.0, r.1)

among_insert_by : (o : Ordering) (d e : Datum) (es more : List Datum) (x : Datum) → (Among x more → (x ≡ d) ⊎ Among x es) → Among x (insert_by o d e es more) → (x ≡ d) ⊎ Among x (e ∷ es)
among_insert_by Less d e es more x h (inl m) = inl m
among_insert_by Less d e es more x h (inr m) = inr m
among_insert_by Equal d e es more x h m = inr m
among_insert_by Greater d e es more x h (inl m) = inr (inl m)
among_insert_by Greater d e es more x h (inr m) = go (h m)
  where
    go : (x ≡ d) ⊎ Among x es → (x ≡ d) ⊎ Among x (e ∷ es)
    go (inl n) = inl n
    go (inr n) = inr (inr n)

pub among_insert : (d : Datum) (ds : List Datum) (x : Datum) → Among x (insert_datum d ds) → (x ≡ d) ⊎ Among x ds
among_insert d [] x m = m
among_insert d (e ∷ es) x m = among_insert_by (datum_cmp d e) d e es (insert_datum d es) x (among_insert d es x) m

pub among_set_from : (ds : List Datum) (x : Datum) → Among x (set_from ds) → Among x ds
among_set_from [] x m = m
among_set_from (d ∷ ds) x m = go (among_set_from ds x) (among_insert d (set_from ds) x m)
  where
    go : (Among x (set_from ds) → Among x ds) → (x ≡ d) ⊎ Among x (set_from ds) → Among x (d ∷ ds)
    go rest (inl e) = inl e
    go rest (inr n) = inr (rest n)

-- ---- rising lists

abbrev pub Above : Datum → List Datum → Type 0
Above c ds = AllByRecursion (λ d. datum_cmp c d ≡ Less) ds

above_filter : (c : Datum) (p : Datum → Bool) (ds : List Datum) → Above c ds → Above c (filter p ds)
above_filter c p [] h = tt
above_filter c p (d ∷ ds) h = go (p d) (above_filter c p ds h.1)
  where
    go : (b : Bool) → Above c (filter p ds) → Above c (cond b (d ∷ filter p ds) (filter p ds))
    go true r = (h.0, r)
    go false r = r

pub rising_filter : (p : Datum → Bool) (ds : List Datum) → IsRising ds → IsRising (filter p ds)
unfolding IsStrictlySortedBy
rising_filter p [] h = tt
rising_filter p (d ∷ ds) h = go (p d) (above_filter d p ds h.0) (rising_filter p ds h.1)
  where
    go : (b : Bool) → Above d (filter p ds) → IsRising (filter p ds) → IsRising (cond b (d ∷ filter p ds) (filter p ds))
    go true a r = (a, r)
    go false a r = r

pub rising_rest : (d : Datum) (ds : List Datum) → IsRising (d ∷ ds) → IsRising ds
unfolding IsStrictlySortedBy
rising_rest d ds h = h.1

not_above : (a b c : Datum) → a ≡ c → b ≡ c → datum_cmp a b ≡ Less → ⊥
not_above a b c p q h =
    let e : datum_cmp a b ≡ Equal = (equal_iff_same a b).1 (p ∙ sym q) in
    let f : Less ≡ Equal = sym h ∙ e in
    cc

several : (y z : Datum) (zs : List Datum) → (length (y ∷ z ∷ zs) == 1) ≡ false
several y z zs = ne_eqb (suc (suc (length zs))) 1 (omega arith)

alone : (z w : Datum) → Among z (w ∷ []) → z ≡ w
alone z w (inl e) = e
alone z w (inr m) = absurd m

-- a part of a list of one that isn't empty is a list of one
pub one_left : (xs ys : List Datum) (y : Datum) → IsRising xs → Among y xs → Within xs ys → (length ys == 1) ≡ true → (length xs == 1) ≡ true
unfolding IsStrictlySortedBy
one_left [] ys y r m w h = absurd m
one_left (a ∷ []) ys y r m w h = refl
one_left (a ∷ b ∷ xs) [] y r m w h = absurd (w a (inl refl))
one_left (a ∷ b ∷ xs) (c ∷ []) y r m w h =
    absurd (not_above a b c (alone a c (w a (inl refl))) (alone b c (w b (inr (inl refl)))) r.0.0)
one_left (a ∷ b ∷ xs) (c ∷ d ∷ ys) y r m w h = absurd (false≢true (sym (several c d ys) ∙ h))
