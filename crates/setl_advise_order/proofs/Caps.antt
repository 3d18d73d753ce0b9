-- The least flow above another one that has no more constructors inside one another than there are places.
use Rattle.std.proofs.Common.{ℕ, zero, suc}
use Rattle.setl_advise_flows.specs.Flow.{Flow, Nothing, Scalar, Set, Tuple, Map, Any, capped}
use Rattle.setl_advise_order.specs.Order.{IsNothing, Le, Within}
use Rattle.setl_advise_order.proofs.Orders.{le_any, le_through, kind_itself}

pub cap_within : (n : ℕ) (f : Flow) → Within n (capped n f)
cap_within n Nothing = tt
cap_within n (Scalar k) = tt
cap_within zero (Set f) = tt
cap_within zero (Tuple f) = tt
cap_within zero (Map f g) = tt
cap_within (suc n) (Set f) = cap_within n f
cap_within (suc n) (Tuple f) = cap_within n f
cap_within (suc n) (Map f g) = (cap_within n f, cap_within n g)
cap_within n Any = tt

pub within_more : (n : ℕ) (f : Flow) → Within n f → Within (suc n) f
within_more n Nothing h = tt
within_more n (Scalar k) h = tt
within_more zero (Set f) h = absurd h
within_more zero (Tuple f) h = absurd h
within_more zero (Map f g) h = absurd h
within_more (suc n) (Set f) h = within_more n f h
within_more (suc n) (Tuple f) h = within_more n f h
within_more (suc n) (Map f g) h = (within_more n f h.0, within_more n g h.1)
within_more n Any h = tt

pub cap_above : (n : ℕ) (f : Flow) → Le f (capped n f)
cap_above n Nothing = tt
cap_above n (Scalar k) = kind_itself k
cap_above zero (Set f) = tt
cap_above zero (Tuple f) = tt
cap_above zero (Map f g) = tt
cap_above (suc n) (Set f) = cap_above n f
cap_above (suc n) (Tuple f) = cap_above n f
cap_above (suc n) (Map f g) = (cap_above n f, cap_above n g)
cap_above n Any = tt

nothing_capped : (n : ℕ) (f : Flow) → IsNothing f → IsNothing (capped n f)
nothing_capped n Nothing h = tt
nothing_capped n (Scalar k) h = absurd h
nothing_capped n (Set k) h = absurd h
nothing_capped n (Tuple k) h = absurd h
nothing_capped n (Map k l) h = absurd h
nothing_capped n Any h = absurd h

tuple_least : (n : ℕ) (f g : Flow) → ((e : Flow) → Within n e → Le f e → Le (capped n f) e) → Within n g → Le (Tuple f) g → Le (Tuple (capped n f)) g
tuple_least zero f (Tuple g) least w h = absurd w
tuple_least (suc n) f (Tuple g) least w h = least g (within_more n g w) h
tuple_least n f Any least w h = tt
tuple_least n f g least w h = absurd h

pub cap_least : (n : ℕ) (f g : Flow) → Within n g → Le f g → Le (capped n f) g
cap_least n Nothing g w h = tt
cap_least n f Any w h = le_any (capped n f)
cap_least n (Scalar k) g w h = h
cap_least (suc n) (Set f) (Set g) w h = cap_least n f g w h
cap_least (suc n) (Tuple f) (Tuple g) w h = cap_least n f g w h
cap_least (suc n) (Map f k) (Map g l) w h = (cap_least n f g w.0 h.0, cap_least n k l w.1 h.1)
cap_least (suc n) (Set f) (Map g l) w h = nothing_capped n f h
cap_least (suc n) (Map f k) (Set g) w h = (tuple_least n f g (λ e. cap_least n f e) w h.0, tuple_least n k g (λ e. cap_least n k e) w h.1)
cap_least zero f (Set g) w h = absurd w
cap_least zero f (Tuple g) w h = absurd w
cap_least zero f (Map g l) w h = absurd w
cap_least n f g w h = absurd h

pub cap_monotone : (n : ℕ) (f g : Flow) → Le f g → Le (capped n f) (capped n g)
cap_monotone n f g h = cap_least n f (capped n g) (cap_within n g) (le_through f g (capped n g) h (cap_above n g))
