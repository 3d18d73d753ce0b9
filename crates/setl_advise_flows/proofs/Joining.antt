-- The join of two flows has the values of both.
use Rattle.std.proofs.Common.{◌≡◌, refl, subst, ℕ, zero, suc, Bool, true, false, List, [], ◌∷◌, Option, Some, None}
use Rattle.std.specs.Prelude.{cond}
use Rattle.std.specs.List.{AllByRecursion}
use Rattle.setl_value.specs.Datum.{Datum, bool, int, text, atom, tuple, set, element_list, part_list, no_part, om_then, part_then}
use Rattle.setl_value.specs.Pairs.{pair_parts}
use Rattle.setl_advise_flows.specs.Flow.{Kind, Whole, Letters, Truth, Token, Flow, Nothing, Scalar, Set, Tuple, Map, Any, is_kind, capped, flat, joined_by, set_with_map, joined, Below}
use Rattle.setl_advise_flows.specs.Has.{HasPart, HasPair, Members, Components, Has, Covers}

pub each_by : {X : Type 0} (P Q : X → Type 0) → ((x : X) → P x → Q x) → (xs : List X) → AllByRecursion P xs → AllByRecursion Q xs
each_by P Q f [] h = h
each_by P Q f (x ∷ xs) h = (f x h.0, each_by P Q f xs h.1)

pub part_by : (P Q : Datum → Type 0) → ((d : Datum) → P d → Q d) → (v : Option Datum) → HasPart P v → HasPart Q v
part_by P Q f None h = h
part_by P Q f (Some d) h = f d h

pub pair_by : (P Q R S : Datum → Type 0) → ((d : Datum) → P d → R d) → ((d : Datum) → Q d → S d) → (v : Option (Datum × Datum)) → HasPair P Q v → HasPair R S v
pair_by P Q R S f g None h = h
pair_by P Q R S f g (Some p) h = (f p.0 h.0, g p.1 h.1)

pub members_by : (P Q : Datum → Type 0) → ((d : Datum) → P d → Q d) → (d : Datum) → Members P d → Members Q d
members_by P Q f (set ms) h = each_by P Q f (element_list ms) h
members_by P Q f (bool b) h = h
members_by P Q f (int b) h = h
members_by P Q f (text b) h = h
members_by P Q f (atom b) h = h
members_by P Q f (tuple b) h = h

pub components_by : (P Q : Datum → Type 0) → ((d : Datum) → P d → Q d) → (d : Datum) → Components P d → Components Q d
components_by P Q f (tuple ps) h = each_by (HasPart P) (HasPart Q) (part_by P Q f) (part_list ps) h
components_by P Q f (bool b) h = h
components_by P Q f (int b) h = h
components_by P Q f (text b) h = h
components_by P Q f (atom b) h = h
components_by P Q f (set b) h = h

pub set_by : (f g : Flow) → Covers f g → Covers (Set f) (Set g)
set_by f g c d h = members_by (Has f) (Has g) c d h

pub tuple_by : (f g : Flow) → Covers f g → Covers (Tuple f) (Tuple g)
tuple_by f g c d h = components_by (Has f) (Has g) c d h

pub map_by : (f g h k : Flow) → Covers f h → Covers g k → Covers (Map f g) (Map h k)
map_by f g h k c e d m =
    members_by (λ m. HasPair (Has f) (Has g) (pair_parts m)) (λ m. HasPair (Has h) (Has k) (pair_parts m))
    (λ m. pair_by (Has f) (Has g) (Has h) (Has k) c e (pair_parts m)) d m

-- a pair is a tuple of its parts
pub pair_is_tuple : (f g h : Flow) → Covers f h → Covers g h → (d : Datum) → HasPair (Has f) (Has g) (pair_parts d) → Has (Tuple h) d
pair_is_tuple f g h c e (tuple (part_then x (part_then y no_part))) m = (c x m.0, (e y m.1, tt))
pair_is_tuple f g h c e (tuple no_part) m = absurd m
pair_is_tuple f g h c e (tuple (om_then ps)) m = absurd m
pair_is_tuple f g h c e (tuple (part_then x no_part)) m = absurd m
pair_is_tuple f g h c e (tuple (part_then x (om_then ps))) m = absurd m
pair_is_tuple f g h c e (tuple (part_then x (part_then y (om_then ps)))) m = absurd m
pair_is_tuple f g h c e (tuple (part_then x (part_then y (part_then z ps)))) m = absurd m
pair_is_tuple f g h c e (bool b) m = absurd m
pair_is_tuple f g h c e (int b) m = absurd m
pair_is_tuple f g h c e (text b) m = absurd m
pair_is_tuple f g h c e (atom b) m = absurd m
pair_is_tuple f g h c e (set b) m = absurd m

pub map_is_set : (f g h : Flow) → Covers f h → Covers g h → Covers (Map f g) (Set (Tuple h))
map_is_set f g h c e d m =
    members_by (λ m. HasPair (Has f) (Has g) (pair_parts m)) (Has (Tuple h)) (pair_is_tuple f g h c e) d m

pub cap_covers : (n : ℕ) (f : Flow) → Covers f (capped n f)
cap_covers n Nothing d h = h
cap_covers n (Scalar k) d h = h
cap_covers zero (Set f) d h = tt
cap_covers zero (Tuple f) d h = tt
cap_covers zero (Map f g) d h = tt
cap_covers (suc n) (Set f) d h = set_by f (capped n f) (cap_covers n f) d h
cap_covers (suc n) (Tuple f) d h = tuple_by f (capped n f) (cap_covers n f) d h
cap_covers (suc n) (Map f g) d h = map_by f g (capped n f) (capped n g) (cap_covers n f) (cap_covers n g) d h
cap_covers n Any d h = h

any_covers : (f : Flow) → Covers f Any
any_covers f d h = tt

then_covers : (f g h : Flow) → Covers f g → Covers g h → Covers f h
then_covers f g h c e d m = e d (c d m)

same_kind : (k l : Kind) (t : Bool) → is_kind k l ≡ t → Covers (Scalar k) (cond t (Scalar k) Any) × Covers (Scalar l) (cond t (Scalar k) Any)
same_kind Whole Whole true e = ((λ d h. h), (λ d h. h))
same_kind Letters Letters true e = ((λ d h. h), (λ d h. h))
same_kind Truth Truth true e = ((λ d h. h), (λ d h. h))
same_kind Token Token true e = ((λ d h. h), (λ d h. h))
same_kind k l false e = ((λ d h. tt), (λ d h. tt))
same_kind k l true e = cc

nothing_in : (f : Flow) → Covers Nothing f
nothing_in f d h = absurd h

-- the empty set alone is a map of any flows
empty_is_map : (g h : Flow) (d : Datum) → Has (Set Nothing) d → Has (Map g h) d
empty_is_map g h (set ms) m = go (element_list ms) m
  where
    go : (xs : List Datum) → AllByRecursion (Has Nothing) xs → AllByRecursion (λ m. HasPair (Has g) (Has h) (pair_parts m)) xs
    go [] m = tt
    go (x ∷ xs) m = absurd m.0
empty_is_map g h (bool b) m = absurd m
empty_is_map g h (int b) m = absurd m
empty_is_map g h (text b) m = absurd m
empty_is_map g h (atom b) m = absurd m
empty_is_map g h (tuple b) m = absurd m

abbrev pub Both : Flow → Flow → Flow → Type 0
Both f g h = Covers f h × Covers g h

-- Set(f) and Map(g, h) in a set of the join
pick : (n : ℕ) (j : Flow → Flow → Flow) → ((a b : Flow) → Both a b (j a b)) → (f g h : Flow) → Both (Set f) (Map g h) (Set (j (capped n (Tuple (j g h))) f))
pick n j js f g h =
    let pairs = Tuple (j g h) in
    let all = j (capped n pairs) f in
    let c = js g h in
    let e = js (capped n pairs) f in (
      set_by f all e.1,
      then_covers (Map g h) (Set pairs) (Set all) (map_is_set g h (j g h) c.0 c.1) (set_by pairs all (then_covers pairs (capped n pairs) all (cap_covers n pairs) e.0)),
    )

set_and_map : (n : ℕ) (j : Flow → Flow → Flow) → ((a b : Flow) → Both a b (j a b)) → (f g h : Flow) → Both (Set f) (Map g h) (set_with_map n j f g h)
set_and_map n j js Nothing g h =
    ((λ d m. empty_is_map (capped n g) (capped n h) d m), map_by g h (capped n g) (capped n h) (cap_covers n g) (cap_covers n h))
set_and_map n j js (Scalar k) g h = pick n j js (Scalar k) g h
set_and_map n j js (Set k) g h = pick n j js (Set k) g h
set_and_map n j js (Tuple k) g h = pick n j js (Tuple k) g h
set_and_map n j js (Map k l) g h = pick n j js (Map k l) g h
set_and_map n j js Any g h = pick n j js Any g h

all_in_any : (a b : Flow) → Both a b Any
all_in_any a b = (any_covers a, any_covers b)

flat_joins : (a b : Flow) → Both a b (flat a b)
flat_joins Nothing b = (nothing_in (capped zero b), cap_covers zero b)
flat_joins (Scalar k) Nothing = (cap_covers zero (Scalar k), nothing_in (capped zero (Scalar k)))
flat_joins (Scalar k) (Scalar l) = same_kind k l (is_kind k l) refl
flat_joins (Scalar k) (Set g) = all_in_any (Scalar k) (Set g)
flat_joins (Scalar k) (Tuple g) = all_in_any (Scalar k) (Tuple g)
flat_joins (Scalar k) (Map h m) = all_in_any (Scalar k) (Map h m)
flat_joins (Scalar k) Any = all_in_any (Scalar k) Any
flat_joins (Set f) Nothing = (cap_covers zero (Set f), nothing_in (capped zero (Set f)))
flat_joins (Set f) (Scalar l) = all_in_any (Set f) (Scalar l)
flat_joins (Set f) (Set g) = all_in_any (Set f) (Set g)
flat_joins (Set f) (Tuple g) = all_in_any (Set f) (Tuple g)
flat_joins (Set f) (Map h k) = all_in_any (Set f) (Map h k)
flat_joins (Set f) Any = all_in_any (Set f) Any
flat_joins (Tuple f) Nothing = (cap_covers zero (Tuple f), nothing_in (capped zero (Tuple f)))
flat_joins (Tuple f) (Scalar l) = all_in_any (Tuple f) (Scalar l)
flat_joins (Tuple f) (Set g) = all_in_any (Tuple f) (Set g)
flat_joins (Tuple f) (Tuple g) = all_in_any (Tuple f) (Tuple g)
flat_joins (Tuple f) (Map h k) = all_in_any (Tuple f) (Map h k)
flat_joins (Tuple f) Any = all_in_any (Tuple f) Any
flat_joins (Map f g) Nothing = (cap_covers zero (Map f g), nothing_in (capped zero (Map f g)))
flat_joins (Map f g) (Scalar l) = all_in_any (Map f g) (Scalar l)
flat_joins (Map f g) (Set h) = all_in_any (Map f g) (Set h)
flat_joins (Map f g) (Tuple h) = all_in_any (Map f g) (Tuple h)
flat_joins (Map f g) (Map h k) = all_in_any (Map f g) (Map h k)
flat_joins (Map f g) Any = all_in_any (Map f g) Any
flat_joins Any Nothing = (cap_covers zero Any, nothing_in (capped zero Any))
flat_joins Any (Scalar l) = all_in_any Any (Scalar l)
flat_joins Any (Set g) = all_in_any Any (Set g)
flat_joins Any (Tuple g) = all_in_any Any (Tuple g)
flat_joins Any (Map h k) = all_in_any Any (Map h k)
flat_joins Any Any = all_in_any Any Any

joins_by : (n : ℕ) (j : Flow → Flow → Flow) → ((a b : Flow) → Both a b (j a b)) → (a b : Flow) → Both a b (joined_by n j a b)
joins_by n j js Nothing b = (nothing_in (capped (suc n) b), cap_covers (suc n) b)
joins_by n j js (Scalar k) Nothing = (cap_covers (suc n) (Scalar k), nothing_in (capped (suc n) (Scalar k)))
joins_by n j js (Scalar k) (Scalar l) = same_kind k l (is_kind k l) refl
joins_by n j js (Scalar k) (Set g) = all_in_any (Scalar k) (Set g)
joins_by n j js (Scalar k) (Tuple g) = all_in_any (Scalar k) (Tuple g)
joins_by n j js (Scalar k) (Map h m) = all_in_any (Scalar k) (Map h m)
joins_by n j js (Scalar k) Any = all_in_any (Scalar k) Any
joins_by n j js (Set f) Nothing = (cap_covers (suc n) (Set f), nothing_in (capped (suc n) (Set f)))
joins_by n j js (Set f) (Scalar l) = all_in_any (Set f) (Scalar l)
joins_by n j js (Set f) (Set g) = (set_by f (j f g) (js f g).0, set_by g (j f g) (js f g).1)
joins_by n j js (Set f) (Tuple g) = all_in_any (Set f) (Tuple g)
joins_by n j js (Set f) (Map h k) = set_and_map n j js f h k
joins_by n j js (Set f) Any = all_in_any (Set f) Any
joins_by n j js (Tuple f) Nothing = (cap_covers (suc n) (Tuple f), nothing_in (capped (suc n) (Tuple f)))
joins_by n j js (Tuple f) (Scalar l) = all_in_any (Tuple f) (Scalar l)
joins_by n j js (Tuple f) (Set g) = all_in_any (Tuple f) (Set g)
joins_by n j js (Tuple f) (Tuple g) = (tuple_by f (j f g) (js f g).0, tuple_by g (j f g) (js f g).1)
joins_by n j js (Tuple f) (Map h k) = all_in_any (Tuple f) (Map h k)
joins_by n j js (Tuple f) Any = all_in_any (Tuple f) Any
joins_by n j js (Map f g) Nothing = (cap_covers (suc n) (Map f g), nothing_in (capped (suc n) (Map f g)))
joins_by n j js (Map f g) (Scalar l) = all_in_any (Map f g) (Scalar l)
joins_by n j js (Map f g) (Set h) = let c = set_and_map n j js h f g in (c.1, c.0)
joins_by n j js (Map f g) (Tuple h) = all_in_any (Map f g) (Tuple h)
joins_by n j js (Map f g) (Map h k) = (map_by f g (j f h) (j g k) (js f h).0 (js g k).0, map_by h k (j f h) (j g k) (js f h).1 (js g k).1)
joins_by n j js (Map f g) Any = all_in_any (Map f g) Any
joins_by n j js Any Nothing = (cap_covers (suc n) Any, nothing_in (capped (suc n) Any))
joins_by n j js Any (Scalar l) = all_in_any Any (Scalar l)
joins_by n j js Any (Set g) = all_in_any Any (Set g)
joins_by n j js Any (Tuple g) = all_in_any Any (Tuple g)
joins_by n j js Any (Map h k) = all_in_any Any (Map h k)
joins_by n j js Any Any = all_in_any Any Any

pub joins : (n : ℕ) (a b : Flow) → Both a b (joined n a b)
joins zero a b = flat_joins a b
joins (suc n) a b = joins_by n (joined n) (joins n) a b

-- what is below has no other values
pub below_covers : (a b : Flow) → Below a b → Covers a b
below_covers a b e = subst (λ f. Covers a f) e (joins 3 a b).0
