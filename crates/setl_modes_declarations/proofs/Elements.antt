-- What `elmt` means with one more base.
use Rattle.std.proofs.Common.{◌≡◌, ℕ, suc, ◌+◌, ◌<◌, Bool, true, false, cond, List, [], ◌∷◌, ◌++◌, length, get_or, Option, Some, None, is_some, unwrap_or, refl, ap, sym, ◌∙◌, bytes_eq, arith, true≢false}
use Rattle.std.specs.Global.{Vec}
use Rattle.std.specs.Cmp.Lexicographic.{bytes_decides}
use Rattle.indexmap.specs.IndexMap.{IndexMap, insert_entry}
use Rattle.setl_modes.specs.declared.mode.NamedMode.{NamedMode}
use Rattle.setl_modes.specs.Modes.{Mode, Elements, General, mode_of}
use Rattle.setl_modes.specs.Declarations.{Name, Bases, element_of}
use Rattle.setl_modes_declarations.specs.Declares.{named_modes}
use Rattle.setl_names.specs.ByName.{put_at, none_at, same_key, turned, value_at}
use Rattle.setl_modes_declarations.specs.code.Elements.{number_from, Finds}

-- ---- one more base

-- the first of two, if there is one
abbrev or_else : {T : Type 0} → Option T → Option T → Option T
or_else None y = y
or_else (Some x) y = Some x

-- the number of the next base
abbrev next_number : ℕ → Bases → ℕ
next_number n [] = n
next_number n (b ∷ bs) = next_number (suc n) bs

counted : (n : ℕ) (bs : Bases) → next_number n bs ≡ length bs + n
counted n [] = omega arith
counted n (b ∷ bs) = let later : next_number (suc n) bs ≡ length bs + suc n = counted (suc n) bs in omega arith

numbered : (bs : Bases) (n : ℕ) → length bs ≡ n → next_number 0 bs ≡ n
numbered bs n h = let c : next_number 0 bs ≡ length bs + 0 = counted 0 bs in omega arith

one_more : (n : ℕ) (bs : Bases) (y : Name) (m : Mode) (x : Name) →
    number_from n (bs ++ (y, m) ∷ []) x ≡ or_else (number_from n bs x) (cond (bytes_eq y x) (Some (next_number n bs)) None)
one_more n [] y m x = refl
one_more n (b ∷ bs) y m x = by (bytes_eq b.0 x) (one_more (suc n) bs y m x)
  where
    by : (t : Bool) → number_from (suc n) (bs ++ (y, m) ∷ []) x ≡ or_else (number_from (suc n) bs x) (cond (bytes_eq y x) (Some (next_number (suc n) bs)) None) →
        cond t (Some n) (number_from (suc n) (bs ++ (y, m) ∷ []) x) ≡ or_else (cond t (Some n) (number_from (suc n) bs x)) (cond (bytes_eq y x) (Some (next_number (suc n) bs)) None)
    by true later = refl
    by false later = later

or_none : {T : Type 0} (o : Option T) → or_else o None ≡ o
or_none None = refl
or_none (Some x) = refl

-- ---- what the table finds

pub finds_none : {S : Type 0} (table : IndexMap (Vec ℕ) ℕ S) → table.entries ≡ [] → Finds table []
finds_none table e x = none_at table e x

-- a name that a base has stays with it
pub finds_present : {S : Type 0} (table : IndexMap (Vec ℕ) ℕ S) (y : Name) (m : Mode) → is_some (value_at table y) ≡ true → (bs : Bases) → Finds table bs → Finds table (bs ++ (y, m) ∷ [])
finds_present table y m there bs finds x = finds x ∙ sym (one_more 0 bs y m x ∙ by (bytes_eq y x) refl)
  where
    kept : (v e z : Option ℕ) → is_some v ≡ true → v ≡ e → or_else e z ≡ e
    kept None e z h q = absurd (true≢false (sym h))
    kept (Some v) e z h q = ap (λ o. or_else o z) (sym q) ∙ q

    by : (t : Bool) → bytes_eq y x ≡ t → or_else (number_from 0 bs x) (cond t (Some (next_number 0 bs)) None) ≡ number_from 0 bs x
    by true same =
        let e : y ≡ x = (bytes_decides y x).0 same in
        kept (value_at table x) (number_from 0 bs x) (Some (next_number 0 bs)) (ap (λ z. is_some (value_at table z)) (sym e) ∙ there) (finds x)
    by false other = or_none (number_from 0 bs x)

-- a new name is found at the end
pub finds_absent : {S : Type 0} (old new : IndexMap (Vec ℕ) ℕ S) (key : Vec ℕ) (y : Name) (number : ℕ) (m : Mode) → is_some (value_at old y) ≡ false →
    key.items ≡ y → new.entries ≡ insert_entry same_key old.entries key number →
    (bs : Bases) → length bs ≡ number → Finds old bs → Finds new (bs ++ (y, m) ∷ [])
finds_absent old new key y number m out ek en bs count finds x =
    put_at old new key number en x
    ∙ ap (λ k. cond (bytes_eq x k) (Some number) (value_at old x)) ek
    ∙ ap (λ o. cond (bytes_eq x y) (Some number) o) (finds x)
    ∙ by (bytes_eq x y) refl
    ∙ sym (one_more 0 bs y m x ∙ ap (λ n. or_else (number_from 0 bs x) (cond (bytes_eq y x) (Some n) None)) (numbered bs number count))
  where
    fresh : (v e : Option ℕ) → is_some v ≡ false → v ≡ e → e ≡ None
    fresh None e h q = sym q
    fresh (Some v) e h q = absurd (true≢false h)

    by : (t : Bool) → bytes_eq x y ≡ t → cond t (Some number) (number_from 0 bs x) ≡ or_else (number_from 0 bs x) (cond (bytes_eq y x) (Some number) None)
    by true same =
        let e : x ≡ y = (bytes_decides x y).0 same in
        let none : number_from 0 bs x ≡ None = fresh (value_at old x) (number_from 0 bs x) (ap (λ z. is_some (value_at old z)) e ∙ out) (finds x) in
        sym (ap (λ o. or_else o (cond (bytes_eq y x) (Some number) None)) none ∙ ap (λ t. cond t (Some number) None) (sym (turned x y) ∙ same))
    by false other =
        sym (ap (λ t. or_else (number_from 0 bs x) (cond t (Some number) None)) (sym (turned x y) ∙ other) ∙ or_none (number_from 0 bs x))

-- ---- what a name means

pub unknown_means : (n : ℕ) (bs : Bases) (x : Name) → number_from n bs x ≡ None → element_of n bs x ≡ General
unknown_means n [] x h = refl
unknown_means n (b ∷ bs) x h = by (bytes_eq b.0 x) h (unknown_means (suc n) bs x)
  where
    by : (t : Bool) → cond t (Some n) (number_from (suc n) bs x) ≡ None → (number_from (suc n) bs x ≡ None → element_of (suc n) bs x ≡ General) → cond t (Elements n b.1) (element_of (suc n) bs x) ≡ General
    by true h later = absurd (true≢false (ap is_some h))
    by false h later = later h

-- the base of a number stands as many places behind the first
located : (n : ℕ) (ms : List NamedMode) (x : Name) (i : ℕ) → number_from n (named_modes ms) x ≡ Some i →
    (k : ℕ) × ((n + k ≡ i) × ((k < length ms) × ((d : NamedMode) → element_of n (named_modes ms) x ≡ Elements i (mode_of (get_or ms k d).mode))))
located n [] x i h = absurd (true≢false (sym (ap is_some h)))
located n (m ∷ ms) x i h = by (bytes_eq m.name x) h (located (suc n) ms x i)
  where
    by : (t : Bool) → cond t (Some n) (number_from (suc n) (named_modes ms) x) ≡ Some i →
        (number_from (suc n) (named_modes ms) x ≡ Some i → (k : ℕ) × ((suc n + k ≡ i) × ((k < length ms) × ((d : NamedMode) → element_of (suc n) (named_modes ms) x ≡ Elements i (mode_of (get_or ms k d).mode))))) →
        (k : ℕ) × ((n + k ≡ i) × ((k < length (m ∷ ms)) × ((d : NamedMode) → cond t (Elements n (mode_of m.mode)) (element_of (suc n) (named_modes ms) x) ≡ Elements i (mode_of (get_or (m ∷ ms) k d).mode))))
    by true h later =
        let e : n ≡ i = ap (λ (o : Option ℕ). unwrap_or o 0) h in
        let place : n + 0 ≡ i = omega arith in
        let below : 0 < length (m ∷ ms) = omega arith in
        (0, (place, (below, λ d. ap (λ z. Elements z (mode_of m.mode)) e)))
    by false h later =
        let r = later h in
        let k : ℕ = r.0 in
        let e : suc n + k ≡ i = r.1.0 in
        let b : k < length ms = r.1.1.0 in
        let place : n + suc k ≡ i = omega arith in
        let below : suc k < length (m ∷ ms) = omega arith in
        (suc k, (place, (below, r.1.1.1)))

pub number_below : (ms : List NamedMode) (x : Name) (i : ℕ) → number_from 0 (named_modes ms) x ≡ Some i → i < length ms
number_below ms x i h =
    let r = located 0 ms x i h in
    let k : ℕ = r.0 in
    let e : 0 + k ≡ i = r.1.0 in
    let b : k < length ms = r.1.1.0 in
    omega arith

pub known_means : (ms : List NamedMode) (x : Name) (i : ℕ) (base : NamedMode) → number_from 0 (named_modes ms) x ≡ Some i → base ≡ get_or ms i base → element_of 0 (named_modes ms) x ≡ Elements i (mode_of base.mode)
known_means ms x i base h eb =
    let r = located 0 ms x i h in
    let k : ℕ = r.0 in
    let e : 0 + k ≡ i = r.1.0 in
    let same : k ≡ i = omega arith in
    r.1.1.1 base ∙ ap (λ j. Elements i (mode_of (get_or ms j base).mode)) same ∙ ap (λ (z : NamedMode). Elements i (mode_of z.mode)) (sym eb)
