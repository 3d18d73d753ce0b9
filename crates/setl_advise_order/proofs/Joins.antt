-- The join is the least flow above both.
use Rattle.std.proofs.Common.{◌≡◌, ◌∙◌, refl, subst, sym, ap, ℕ, zero, suc, Bool, true, false, cond}
use Rattle.setl_advise_flows.specs.Flow.{Kind, Flow, Nothing, Scalar, Set, Tuple, Map, Any, is_kind, scalars, capped, set_with_map, joined, join, Below}
use Rattle.setl_advise_order.specs.Order.{IsNothing, Le, Within}
use Rattle.setl_advise_order.proofs.Orders.{le_any, le_itself, le_through, le_same, same_kind, kind_itself, nothing_le}
use Rattle.setl_advise_order.proofs.Caps.{cap_within, within_more, cap_above, cap_least}

-- ---- of scalars

scalars_by : (k l : Kind) (b : Bool) → is_kind k l ≡ b → Le (Scalar k) (cond b (Scalar k) Any) × Le (Scalar l) (cond b (Scalar k) Any)
scalars_by k l true h = (kind_itself k, subst (λ m. is_kind l m ≡ true) (sym (same_kind k l h)) (kind_itself l))
scalars_by k l false h = (tt, tt)

no_truth : false ≡ true → ⊥
no_truth e = cc

scalars_under : (k l : Kind) (b : Bool) (h : Flow) → is_kind k l ≡ b → Le (Scalar k) h → Le (Scalar l) h → Le (cond b (Scalar k) Any) h
scalars_under k l true h e p q = p
scalars_under k l false (Scalar m) e p q =
    absurd (no_truth (sym e ∙ ap (λ n. is_kind n l) (same_kind k m p ∙ sym (same_kind l m q)) ∙ kind_itself l))
scalars_under k l false Any e p q = tt
scalars_under k l false h e p q = absurd p

scalars_within : (n : ℕ) (k l : Kind) (b : Bool) → Within n (cond b (Scalar k) Any)
scalars_within n k l true = tt
scalars_within n k l false = tt

-- ---- what a join of parts is

pub record IsJoin (n : ℕ) (f g j : Flow) : Type 0 where
  pub within : Within n j
  pub left : Le f j
  pub right : Le g j
  pub least : (h : Flow) → Within n h → Le f h → Le g h → Le j h

of_nothing : (n : ℕ) (g : Flow) → IsJoin n Nothing g (capped n g)
of_nothing n g = record { within = cap_within n g; left = tt; right = cap_above n g; least = λ h w a b. cap_least n g h w b }

with_nothing : (n : ℕ) (f : Flow) → IsJoin n f Nothing (capped n f)
with_nothing n f = record { within = cap_within n f; left = cap_above n f; right = tt; least = λ h w a b. cap_least n f h w a }

of_scalars : (n : ℕ) (k l : Kind) → IsJoin n (Scalar k) (Scalar l) (scalars k l)
of_scalars n k l =
    let both = scalars_by k l (is_kind k l) refl in
    record { within = scalars_within n k l (is_kind k l); left = both.0; right = both.1; least = λ h w. scalars_under k l (is_kind k l) h refl }

-- two flows that only `Any` is above
of_any : (n : ℕ) (f g : Flow) → ((h : Flow) → Within n h → Le f h → Le g h → Le Any h) → IsJoin n f g Any
of_any n f g only = record { within = tt; left = le_any f; right = le_any g; least = only }

-- ---- flows that only `Any` is above

abbrev IsHigh : Flow → Type 0
IsHigh Nothing = ⊥
IsHigh (Scalar k) = ⊥
IsHigh f = Unit {0}

high_only : (f h : Flow) → IsHigh f → Within zero h → Le f h → Le Any h
high_only f Any t w a = tt
high_only f (Set h) t w a = absurd w
high_only f (Tuple h) t w a = absurd w
high_only f (Map h k) t w a = absurd w
high_only Nothing h t w a = absurd t
high_only (Scalar k) h t w a = absurd t
high_only f h t w a = absurd a

scalar_only : (k : Kind) (g h : Flow) → IsHigh g → Le (Scalar k) h → Le g h → Le Any h
scalar_only k g Any t a b = tt
scalar_only k Nothing h t a b = absurd t
scalar_only k (Scalar l) h t a b = absurd t
scalar_only k g (Scalar m) t a b = absurd b
scalar_only k g h t a b = absurd a

abbrev IsOther : Flow → Type 0
IsOther Nothing = ⊥
IsOther (Tuple f) = ⊥
IsOther f = Unit {0}

tuple_only : (f g h : Flow) → IsOther g → Le (Tuple f) h → Le g h → Le Any h
tuple_only f g Any t a b = tt
tuple_only f Nothing h t a b = absurd t
tuple_only f (Tuple g) h t a b = absurd t
tuple_only f g (Tuple h) t a b = absurd b
tuple_only f g h t a b = absurd a

-- ---- of flows with parts

le_nothing : (f : Flow) → Le f Nothing → IsNothing f
le_nothing Nothing h = tt
le_nothing f h = absurd h

abbrev Least : ℕ → Flow → Flow → Flow → Type 0
Least n f g j = (h : Flow) → Within n h → Le f h → Le g h → Le j h

sets_least : (n : ℕ) (f g j : Flow) → Least n f g j → Least (suc n) (Set f) (Set g) (Set j)
sets_least n f g j least (Set h) w a b = least h w a b
sets_least n f g j least (Map h k) w a b = le_nothing j (least Nothing tt (nothing_le f Nothing a) (nothing_le g Nothing b))
sets_least n f g j least Any w a b = tt
sets_least n f g j least h w a b = absurd a

tuples_least : (n : ℕ) (f g j : Flow) → Least n f g j → Least (suc n) (Tuple f) (Tuple g) (Tuple j)
tuples_least n f g j least (Tuple h) w a b = least h w a b
tuples_least n f g j least Any w a b = tt
tuples_least n f g j least h w a b = absurd a

-- tuples in one place less
pub tuples_under : (n : ℕ) (f g j : Flow) → Least n f g j → Least n (Tuple f) (Tuple g) (Tuple j)
tuples_under zero f g j least (Tuple h) w a b = absurd w
tuples_under (suc n) f g j least (Tuple h) w a b = least h (within_more n h w) a b
tuples_under n f g j least Any w a b = tt
tuples_under n f g j least h w a b = absurd a

maps_least : (n : ℕ) (f g h k i j : Flow) → Least n f h i → Least n g k j → Least (suc n) (Map f g) (Map h k) (Map i j)
maps_least n f g h k i j l m (Map x y) w a b = (l x w.0 a.0 b.0, m y w.1 a.1 b.1)
maps_least n f g h k i j l m (Set x) w a b = (tuples_under n f h i l x w a.0 b.0, tuples_under n g k j m x w a.1 b.1)
maps_least n f g h k i j l m Any w a b = tt
maps_least n f g h k i j l m x w a b = absurd a

set_least : (n : ℕ) (f g h t j : Flow) → (IsNothing f → ⊥) → Least n g h t → Least n (capped n (Tuple t)) f j → Least (suc n) (Set f) (Map g h) (Set j)
set_least n f g h t j not least l (Set x) w a b = l x w (cap_least n (Tuple t) x w (tuples_under n g h t least x w b.0 b.1)) a
set_least n f g h t j not least l (Map x y) w a b = absurd (not a)
set_least n f g h t j not least l Any w a b = tt
set_least n f g h t j not least l x w a b = absurd a

turned : (n : ℕ) (f g j : Flow) → IsJoin n f g j → IsJoin n g f j
turned n f g j i = record { within = i.within; left = i.right; right = i.left; least = λ h w a b. i.least h w b a }

empty_with_map : (n : ℕ) (g h : Flow) → IsJoin (suc n) (Set Nothing) (Map g h) (Map (capped n g) (capped n h))
empty_with_map n g h = record {
  within = (cap_within n g, cap_within n h);
  left = tt;
  right = (cap_above n g, cap_above n h);
  least = λ x w a b. cap_least (suc n) (Map g h) x w b;
}

set_and_map : (n : ℕ) (f g h t j : Flow) → (IsNothing f → ⊥) → IsJoin n g h t → IsJoin n (capped n (Tuple t)) f j → IsJoin (suc n) (Set f) (Map g h) (Set j)
set_and_map n f g h t j not i k =
    let up : Le (Tuple t) j = le_through (Tuple t) (capped n (Tuple t)) j (cap_above n (Tuple t)) k.left in
    record {
      within = k.within;
      left = k.right;
      right = (le_through (Tuple g) (Tuple t) j i.left up, le_through (Tuple h) (Tuple t) j i.right up);
      least = set_least n f g h t j not i.least k.least;
    }

set_joins_map : (n : ℕ) (f g h : Flow) → IsJoin n g h (joined n g h) → IsJoin n (capped n (Tuple (joined n g h))) f (joined n (capped n (Tuple (joined n g h))) f) → IsJoin (suc n) (Set f) (Map g h) (set_with_map n (joined n) f g h)
set_joins_map n Nothing g h i k = empty_with_map n g h
set_joins_map n (Scalar l) g h i k = set_and_map n (Scalar l) g h (joined n g h) _ (λ e. e) i k
set_joins_map n (Set f) g h i k = set_and_map n (Set f) g h (joined n g h) _ (λ e. e) i k
set_joins_map n (Tuple f) g h i k = set_and_map n (Tuple f) g h (joined n g h) _ (λ e. e) i k
set_joins_map n (Map f l) g h i k = set_and_map n (Map f l) g h (joined n g h) _ (λ e. e) i k
set_joins_map n Any g h i k = set_and_map n Any g h (joined n g h) _ (λ e. e) i k

-- ---- of any two flows

pub is_join : (n : ℕ) (f g : Flow) → IsJoin n f g (joined n f g)
is_join zero Nothing g = of_nothing zero g
is_join zero f Nothing = with_nothing zero f
is_join zero (Scalar k) (Scalar l) = of_scalars zero k l
is_join zero (Scalar k) g = of_any zero (Scalar k) g (λ h w a b. high_only g h tt w b)
is_join zero f g = of_any zero f g (λ h w a b. high_only f h tt w a)
is_join (suc n) Nothing g = of_nothing (suc n) g
is_join (suc n) f Nothing = with_nothing (suc n) f
is_join (suc n) (Scalar k) (Scalar l) = of_scalars (suc n) k l
is_join (suc n) (Set f) (Set g) =
    let i = is_join n f g in
    record { within = i.within; left = i.left; right = i.right; least = sets_least n f g (joined n f g) i.least }
is_join (suc n) (Tuple f) (Tuple g) =
    let i = is_join n f g in
    record { within = i.within; left = i.left; right = i.right; least = tuples_least n f g (joined n f g) i.least }
is_join (suc n) (Map f g) (Map h k) =
    let i = is_join n f h in
    let j = is_join n g k in
    record {
      within = (i.within, j.within);
      left = (i.left, j.left);
      right = (i.right, j.right);
      least = maps_least n f g h k (joined n f h) (joined n g k) i.least j.least;
    }
is_join (suc n) (Set f) (Map g h) = set_joins_map n f g h (is_join n g h) (is_join n (capped n (Tuple (joined n g h))) f)
is_join (suc n) (Map g h) (Set f) = turned (suc n) (Set f) (Map g h) _ (set_joins_map n f g h (is_join n g h) (is_join n (capped n (Tuple (joined n g h))) f))
is_join (suc n) (Scalar k) g = of_any (suc n) (Scalar k) g (λ h w a b. scalar_only k g h tt a b)
is_join (suc n) (Tuple f) g = of_any (suc n) (Tuple f) g (λ h w a b. tuple_only f g h tt a b)
is_join (suc n) Any g = of_any (suc n) Any g (λ h w a b. a)
is_join (suc n) f (Scalar l) = of_any (suc n) f (Scalar l) (λ h w a b. scalar_only l f h tt b a)
is_join (suc n) f (Tuple g) = of_any (suc n) f (Tuple g) (λ h w a b. tuple_only g f h tt b a)
is_join (suc n) f Any = of_any (suc n) f Any (λ h w a b. b)

-- ---- what is below

pub below_le : (f g : Flow) → Below f g → Le f g × Within 3 g
below_le f g e = let i = is_join 3 f g in (subst (Le f) e i.left, subst (Within 3) e i.within)

pub le_below : (f g : Flow) → Le f g → Within 3 g → Below f g
le_below f g a w = let i = is_join 3 f g in le_same (join f g) g (i.least g w a (le_itself g)) i.right
