-- A join that changes a flow raises its rank.
use Rattle.std.specs.Prelude.{◌≡◌, ℕ, zero, suc, ◌+◌, ◌≤◌, ◌<◌, ◌⊎◌, cond}
use Rattle.std.proofs.Common.{refl, ap, subst, sym, inl, inr, arith}
use Rattle.setl_advise_flows.specs.Flow.{Kind, Whole, Letters, Truth, Token, Flow, Nothing, Scalar, Set, Tuple, Map, Any, is_kind, capped, flat, set_with_map, joined}
use Rattle.setl_advise_conditions.specs.Rank.{height, set_rank, rank}

set_bounded : (h : ℕ) (f : Flow) (r : ℕ) → r ≤ h → set_rank h f r < 4 + (h + h + h)
set_bounded h Nothing r k = omega (arith, k)
set_bounded h (Scalar x) r k = omega (arith, k)
set_bounded h (Set x) r k = omega (arith, k)
set_bounded h (Tuple x) r k = omega (arith, k)
set_bounded h (Map x y) r k = omega (arith, k)
set_bounded h Any r k = omega (arith, k)

pub bounded : (n : ℕ) (f : Flow) → rank n f ≤ height n
bounded zero Nothing = omega arith
bounded (suc n) Nothing = omega arith
bounded zero (Scalar k) = omega arith
bounded (suc n) (Scalar k) = omega arith
bounded zero (Set f) = omega arith
bounded zero (Tuple f) = omega arith
bounded zero (Map f g) = omega arith
bounded (suc n) (Set f) = let k = set_bounded (height n) f (rank n f) (bounded n f) in omega (arith, k)
bounded (suc n) (Tuple f) = let k = bounded n f in omega (arith, k)
bounded (suc n) (Map f g) = let k = bounded n f in let l = bounded n g in omega (arith, k, l)
bounded zero Any = omega arith
bounded (suc n) Any = omega arith

-- what has a rank has values
abbrev pub HasValues : Flow → Type 0
HasValues Nothing = ⊥
HasValues f = Unit {0}

ranked : (n : ℕ) (r : ℕ) (f : Flow) → r < rank n f → HasValues f
ranked zero r Nothing h = omega (arith, h)
ranked (suc n) r Nothing h = omega (arith, h)
ranked n r (Scalar k) h = tt
ranked n r (Set f) h = tt
ranked n r (Tuple f) h = tt
ranked n r (Map f g) h = tt
ranked n r Any h = tt

set_above : (h : ℕ) (f : Flow) (r : ℕ) → HasValues f → set_rank h f r ≡ 3 + (h + h) + r
set_above h Nothing r k = absurd k
set_above h (Scalar x) r k = refl
set_above h (Set x) r k = refl
set_above h (Tuple x) r k = refl
set_above h (Map x y) r k = refl
set_above h Any r k = refl

-- the flow stays, or rises
abbrev pub Rises : ℕ → Flow → Flow → Type 0
Rises n a b = (b ≡ a) ⊎ (rank n a < rank n b)

set_under : (h : ℕ) (f : Flow) (r : ℕ) → set_rank h f r ≤ 3 + (h + h) + r
set_under h Nothing r = omega arith
set_under h (Scalar k) r = omega arith
set_under h (Set k) r = omega arith
set_under h (Tuple k) r = omega arith
set_under h (Map k m) r = omega arith
set_under h Any r = omega arith

-- sets rise with their members
sets_rise : (n : ℕ) (f g : Flow) → Rises n f g → Rises (suc n) (Set f) (Set g)
sets_rise n f g (inl e) = inl (ap Set e)
sets_rise n f g (inr l) =
    inr (let a = set_above (height n) g (rank n g) (ranked n (rank n f) g l) in let u = set_under (height n) f (rank n f) in omega (arith, a, l, u))

tuples_rise : (n : ℕ) (f g : Flow) → Rises n f g → Rises (suc n) (Tuple f) (Tuple g)
tuples_rise n f g (inl e) = inl (ap Tuple e)
tuples_rise n f g (inr l) = inr (omega (arith, l))

maps_rise : (n : ℕ) (f g h k : Flow) → Rises n f h → Rises n g k → Rises (suc n) (Map f g) (Map h k)
maps_rise n f g h k (inl e) (inl d) = inl (λ i. Map (e i) (d i))
maps_rise n f g h k (inl e) (inr l) = inr (let c = ap (rank n) e in omega (arith, c, l))
maps_rise n f g h k (inr l) (inl d) = inr (let c = ap (rank n) d in omega (arith, c, l))
maps_rise n f g h k (inr l) (inr m) = inr (omega (arith, l, m))

kinds_rise : (n : ℕ) (k l : Kind) → Rises n (Scalar l) (cond (is_kind k l) (Scalar k) Any)
kinds_rise n Whole Whole = inl refl
kinds_rise n Letters Letters = inl refl
kinds_rise n Truth Truth = inl refl
kinds_rise n Token Token = inl refl
kinds_rise zero Whole Letters = inr (omega arith)
kinds_rise zero Whole Truth = inr (omega arith)
kinds_rise zero Whole Token = inr (omega arith)
kinds_rise zero Letters Whole = inr (omega arith)
kinds_rise zero Letters Truth = inr (omega arith)
kinds_rise zero Letters Token = inr (omega arith)
kinds_rise zero Truth Whole = inr (omega arith)
kinds_rise zero Truth Letters = inr (omega arith)
kinds_rise zero Truth Token = inr (omega arith)
kinds_rise zero Token Whole = inr (omega arith)
kinds_rise zero Token Letters = inr (omega arith)
kinds_rise zero Token Truth = inr (omega arith)
kinds_rise (suc n) Whole Letters = inr (omega arith)
kinds_rise (suc n) Whole Truth = inr (omega arith)
kinds_rise (suc n) Whole Token = inr (omega arith)
kinds_rise (suc n) Letters Whole = inr (omega arith)
kinds_rise (suc n) Letters Truth = inr (omega arith)
kinds_rise (suc n) Letters Token = inr (omega arith)
kinds_rise (suc n) Truth Whole = inr (omega arith)
kinds_rise (suc n) Truth Letters = inr (omega arith)
kinds_rise (suc n) Truth Token = inr (omega arith)
kinds_rise (suc n) Token Whole = inr (omega arith)
kinds_rise (suc n) Token Letters = inr (omega arith)
kinds_rise (suc n) Token Truth = inr (omega arith)

flat_rises : (b a : Flow) → capped 0 b ≡ b → capped 0 a ≡ a → Rises 0 a (flat b a)
flat_rises Nothing a w v = inl v
flat_rises (Scalar k) Nothing w v = inr (omega arith)
flat_rises (Scalar k) (Scalar l) w v = kinds_rise 0 k l
flat_rises (Scalar k) Any w v = inl refl
flat_rises (Scalar k) (Set f) w v = cc
flat_rises (Scalar k) (Tuple f) w v = cc
flat_rises (Scalar k) (Map f g) w v = cc
flat_rises (Set h) a w v = cc
flat_rises (Tuple h) a w v = cc
flat_rises (Map h k) a w v = cc
flat_rises Any Nothing w v = inr (omega arith)
flat_rises Any (Scalar l) w v = inr (omega arith)
flat_rises Any (Set f) w v = cc
flat_rises Any (Tuple f) w v = cc
flat_rises Any (Map f g) w v = cc
flat_rises Any Any w v = inl refl

abbrev IsAny : Flow → Type 0
IsAny Any = Unit {0}
IsAny f = ⊥

-- all values are above all else
to_any : (n : ℕ) (a : Flow) → Rises (suc n) a Any
to_any n Nothing = inr (omega arith)
to_any n (Scalar k) = inr (omega arith)
to_any n (Set f) = inr (set_bounded (height n) f (rank n f) (bounded n f))
to_any n (Tuple f) = inr (let k = bounded n f in omega (arith, k))
to_any n (Map f g) = inr (let k = bounded n f in let l = bounded n g in omega (arith, k, l))
to_any n Any = inl refl

from_nothing : (n : ℕ) (b : Flow) → Rises (suc n) Nothing b
from_nothing n Nothing = inl refl
from_nothing n (Scalar k) = inr (omega arith)
from_nothing n (Set f) = inr (positive f)
  where
    positive : (x : Flow) → 0 < set_rank (height n) x (rank n f)
    positive Nothing = omega arith
    positive (Scalar k) = omega arith
    positive (Set k) = omega arith
    positive (Tuple k) = omega arith
    positive (Map k m) = omega arith
    positive Any = omega arith
from_nothing n (Tuple f) = inr (omega arith)
from_nothing n (Map f g) = inr (omega arith)
from_nothing n Any = inr (omega arith)

-- the parts of a flow with at most so many constructors
set_within : (n : ℕ) (f : Flow) → capped (suc n) (Set f) ≡ Set f → capped n f ≡ f
set_within n f e = cc

tuple_within : (n : ℕ) (f : Flow) → capped (suc n) (Tuple f) ≡ Tuple f → capped n f ≡ f
tuple_within n f e = cc

map_within : (n : ℕ) (f g : Flow) → capped (suc n) (Map f g) ≡ Map f g → (capped n f ≡ f) × (capped n g ≡ g)
map_within n f g e = (cc, cc)

again : (n : ℕ) (f : Flow) → capped n (capped n f) ≡ capped n f
again zero Nothing = refl
again (suc n) Nothing = refl
again zero (Scalar k) = refl
again (suc n) (Scalar k) = refl
again zero (Set f) = refl
again zero (Tuple f) = refl
again zero (Map f g) = refl
again (suc n) (Set f) = ap Set (again n f)
again (suc n) (Tuple f) = ap Tuple (again n f)
again (suc n) (Map f g) = λ i. Map (again n f i) (again n g i)
again zero Any = refl
again (suc n) Any = refl

-- a set with values is joined with a map as a set of tuples
as_set : (n : ℕ) (j : Flow → Flow → Flow) (f g h : Flow) → HasValues f → set_with_map n j f g h ≡ Set (j (capped n (Tuple (j g h))) f)
as_set n j Nothing g h v = absurd v
as_set n j (Scalar x) g h v = refl
as_set n j (Set x) g h v = refl
as_set n j (Tuple x) g h v = refl
as_set n j (Map x y) g h v = refl
as_set n j Any g h v = refl

kept_values : (n : ℕ) (f y : Flow) → HasValues f → Rises n f y → HasValues y
kept_values n f y v (inl e) = subst HasValues (sym e) v
kept_values n f y v (inr l) = ranked n (rank n f) y l

-- a set with values is above each map
map_below_set : (n : ℕ) (g h y : Flow) → HasValues y → Rises (suc n) (Map g h) (Set y)
map_below_set n g h y v =
    inr (let a = set_above (height n) y (rank n y) v in let k = bounded n g in let l = bounded n h in omega (arith, a, k, l))

-- what a set's members become by the pairs of a map
abbrev pairs : ℕ → Flow → Flow → Flow
pairs n g h = capped n (Tuple (joined n g h))

abbrev PairsRise : ℕ → Flow → Flow → Type 0
PairsRise n g h = (x : Flow) → capped n x ≡ x → Rises n x (joined n (pairs n g h) x)

values_onto_map : (n : ℕ) (h k : Flow) → PairsRise n h k → (x : Flow) → capped n x ≡ x → HasValues x → Rises (suc n) (Map h k) (set_with_map n (joined n) x h k)
values_onto_map n h k rise x c d =
    let y = joined n (pairs n h k) x in
    subst (Rises (suc n) (Map h k)) (sym (as_set n (joined n) x h k d)) (map_below_set n h k y (kept_values n x y d (rise x c)))

onto_map : (n : ℕ) (h k : Flow) → PairsRise n h k → capped (suc n) (Map h k) ≡ Map h k → (x : Flow) → capped n x ≡ x → Rises (suc n) (Map h k) (set_with_map n (joined n) x h k)
onto_map n h k rise v Nothing c = inl v
onto_map n h k rise v (Scalar z) c = values_onto_map n h k rise (Scalar z) c tt
onto_map n h k rise v (Set z) c = values_onto_map n h k rise (Set z) c tt
onto_map n h k rise v (Tuple z) c = values_onto_map n h k rise (Tuple z) c tt
onto_map n h k rise v (Map z u) c = values_onto_map n h k rise (Map z u) c tt
onto_map n h k rise v Any c = values_onto_map n h k rise Any c tt

values_onto_set : (n : ℕ) (g h : Flow) → PairsRise n g h → (x : Flow) → capped n x ≡ x → HasValues x → Rises (suc n) (Set x) (set_with_map n (joined n) x g h)
values_onto_set n g h rise x c d =
    subst (Rises (suc n) (Set x)) (sym (as_set n (joined n) x g h d)) (sets_rise n x (joined n (pairs n g h) x) (rise x c))

onto_set : (n : ℕ) (g h : Flow) → PairsRise n g h → (x : Flow) → capped n x ≡ x → Rises (suc n) (Set x) (set_with_map n (joined n) x g h)
onto_set n g h rise Nothing c = inr (omega arith)
onto_set n g h rise (Scalar z) c = values_onto_set n g h rise (Scalar z) c tt
onto_set n g h rise (Set z) c = values_onto_set n g h rise (Set z) c tt
onto_set n g h rise (Tuple z) c = values_onto_set n g h rise (Tuple z) c tt
onto_set n g h rise (Map z u) c = values_onto_set n g h rise (Map z u) c tt
onto_set n g h rise Any c = values_onto_set n g h rise Any c tt

pub rises : (n : ℕ) (b a : Flow) → capped n b ≡ b → capped n a ≡ a → Rises n a (joined n b a)
rises zero b a w v = flat_rises b a w v
rises (suc n) Nothing a w v = inl v
rises (suc n) (Scalar k) Nothing w v = from_nothing n (Scalar k)
rises (suc n) (Scalar k) (Scalar l) w v = kinds_rise (suc n) k l
rises (suc n) (Scalar k) (Set g) w v = to_any n (Set g)
rises (suc n) (Scalar k) (Tuple g) w v = to_any n (Tuple g)
rises (suc n) (Scalar k) (Map g h) w v = to_any n (Map g h)
rises (suc n) (Scalar k) Any w v = inl refl
rises (suc n) (Set f) Nothing w v = from_nothing n (Set (capped n f))
rises (suc n) (Set f) (Scalar l) w v = to_any n (Scalar l)
rises (suc n) (Set f) (Set g) w v = sets_rise n g (joined n f g) (rises n f g (set_within n f w) (set_within n g v))
rises (suc n) (Set f) (Tuple g) w v = to_any n (Tuple g)
rises (suc n) (Set f) (Map h k) w v = onto_map n h k (λ x c. rises n (pairs n h k) x (again n (Tuple (joined n h k))) c) v f (set_within n f w)
rises (suc n) (Set f) Any w v = inl refl
rises (suc n) (Tuple f) Nothing w v = from_nothing n (Tuple (capped n f))
rises (suc n) (Tuple f) (Scalar l) w v = to_any n (Scalar l)
rises (suc n) (Tuple f) (Set g) w v = to_any n (Set g)
rises (suc n) (Tuple f) (Tuple g) w v = tuples_rise n g (joined n f g) (rises n f g (tuple_within n f w) (tuple_within n g v))
rises (suc n) (Tuple f) (Map h k) w v = to_any n (Map h k)
rises (suc n) (Tuple f) Any w v = inl refl
rises (suc n) (Map g h) Nothing w v = from_nothing n (Map (capped n g) (capped n h))
rises (suc n) (Map g h) (Scalar l) w v = to_any n (Scalar l)
rises (suc n) (Map g h) (Set f) w v = onto_set n g h (λ x c. rises n (pairs n g h) x (again n (Tuple (joined n g h))) c) f (set_within n f v)
rises (suc n) (Map g h) (Tuple f) w v = to_any n (Tuple f)
rises (suc n) (Map g h) (Map f k) w v =
    let a = map_within n g h w in
    let b = map_within n f k v in
    maps_rise n f k (joined n g f) (joined n h k) (rises n g f a.0 b.0) (rises n h k a.1 b.1)
rises (suc n) (Map g h) Any w v = inl refl
rises (suc n) Any Nothing w v = from_nothing n Any
rises (suc n) Any (Scalar l) w v = to_any n (Scalar l)
rises (suc n) Any (Set f) w v = to_any n (Set f)
rises (suc n) Any (Tuple f) w v = to_any n (Tuple f)
rises (suc n) Any (Map f g) w v = to_any n (Map f g)
rises (suc n) Any Any w v = inl refl
