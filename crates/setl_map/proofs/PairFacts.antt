-- Pairs: which data they are, and which tuples.
use Rattle.std.specs.Prelude.{◌≡◌, ◌⊎◌, true, List, [], ◌∷◌, Option, Some, None, is_some, length, slice_get, refl}
use Rattle.std.specs.List.{AllByRecursion}
use Rattle.std.specs.Option.{unwrap_or}
use Rattle.std.proofs.Common.{ap, sym, ◌∙◌, inl, inr, arith}
use Rattle.std.proofs.lemmas.Bool.{false≢true, and_parts}
use Rattle.setl_value.specs.Datum.{Datum, tuple, part_then, no_part, tuple_of}
use Rattle.setl_value.specs.Pairs.{pair, pair_parts, is_map}

-- a datum with two parts is the pair of them
pub pair_of : (d : Datum) → is_some (pair_parts d) ≡ true → (a : Datum) × (b : Datum) × (d ≡ pair a b)
pair_of (tuple (part_then x (part_then y no_part))) h = (x, y, refl)
pair_of d h = absurd (false≢true h)

abbrev pub IsPair : Datum → Type 0
IsPair d = is_some (pair_parts d) ≡ true

-- all members of a map are pairs
pub all_pairs : (ds : List Datum) → is_map ds ≡ true → AllByRecursion IsPair ds
all_pairs [] h = tt
all_pairs (d ∷ ds) h = let p = and_parts (is_some (pair_parts d)) (is_map ds) h in (p.0, all_pairs ds p.1)

-- ---- tuples

pub not_two : (ps : List (Option Datum)) → (length ps ≡ 2 → ⊥) → pair_parts (tuple_of ps) ≡ None
not_two [] h = refl
not_two (None ∷ ps) h = refl
not_two (Some x ∷ []) h = refl
not_two (Some x ∷ None ∷ ps) h = refl
not_two (Some x ∷ Some y ∷ []) h = absurd (h refl)
not_two (Some x ∷ Some y ∷ None ∷ ps) h = refl
not_two (Some x ∷ Some y ∷ Some z ∷ ps) h = refl

some_same : {X : Type 0} (x y : X) → Some x ≡ Some y → x ≡ y
some_same x y p = ap (λ o. unwrap_or o x) p

pub no_first : (ps : List (Option Datum)) → length ps ≡ 2 → (slice_get ps 0 ≡ Some None) ⊎ (slice_get ps 0 ≡ None) → pair_parts (tuple_of ps) ≡ None
no_first [] n h = refl
no_first (None ∷ ps) n h = refl
no_first (Some x ∷ ps) n (inl h) = cc
no_first (Some x ∷ ps) n (inr h) = cc

pub no_second : (ps : List (Option Datum)) → length ps ≡ 2 → (slice_get ps 1 ≡ Some None) ⊎ (slice_get ps 1 ≡ None) → pair_parts (tuple_of ps) ≡ None
no_second [] n h = refl
no_second (None ∷ ps) n h = refl
no_second (Some x ∷ []) n h = refl
no_second (Some x ∷ None ∷ ps) n h = refl
no_second (Some x ∷ Some y ∷ ps) n (inl h) = cc
no_second (Some x ∷ Some y ∷ ps) n (inr h) = cc

pub two : (ps : List (Option Datum)) (x y : Datum) → length ps ≡ 2 → slice_get ps 0 ≡ Some (Some x) → slice_get ps 1 ≡ Some (Some y) → Some (x, y) ≡ pair_parts (tuple_of ps)
two [] x y n p q = absurd (omega arith)
two (o ∷ []) x y n p q = absurd (omega arith)
two (o ∷ p ∷ r ∷ ps) x y n h k = absurd (omega arith)
two (o ∷ p ∷ []) x y n h k =
    ap (λ l. pair_parts (tuple_of l)) (ap (λ a. a ∷ Some y ∷ []) (sym (some_same o (Some x) h)) ∙ ap (λ b. o ∷ b ∷ []) (sym (some_same p (Some y) k)))
