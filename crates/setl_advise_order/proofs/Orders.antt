-- It is an order.
use Rattle.std.proofs.Common.{◌≡◌, refl, ap, sym, subst, true}
use Rattle.setl_advise_flows.specs.Flow.{Kind, Whole, Letters, Truth, Token, Flow, Nothing, Scalar, Set, Tuple, Map, Any, is_kind}
use Rattle.setl_advise_order.specs.Order.{IsNothing, Le}

pub same_kind : (k l : Kind) → is_kind k l ≡ true → k ≡ l
same_kind Whole Whole h = refl
same_kind Letters Letters h = refl
same_kind Truth Truth h = refl
same_kind Token Token h = refl
same_kind k l h = cc

pub kind_itself : (k : Kind) → is_kind k k ≡ true
kind_itself Whole = refl
kind_itself Letters = refl
kind_itself Truth = refl
kind_itself Token = refl

pub le_any : (f : Flow) → Le f Any
le_any Nothing = tt
le_any (Scalar k) = tt
le_any (Set f) = tt
le_any (Tuple f) = tt
le_any (Map f g) = tt
le_any Any = tt

pub le_itself : (f : Flow) → Le f f
le_itself Nothing = tt
le_itself (Scalar k) = kind_itself k
le_itself (Set f) = le_itself f
le_itself (Tuple f) = le_itself f
le_itself (Map f g) = (le_itself f, le_itself g)
le_itself Any = tt

nothing_under : (f g : Flow) → Le f g → IsNothing g → IsNothing f
nothing_under Nothing g h n = tt
nothing_under f Nothing h n = h
nothing_under f (Scalar l) h n = absurd n
nothing_under f (Set k) h n = absurd n
nothing_under f (Tuple k) h n = absurd n
nothing_under f (Map k l) h n = absurd n
nothing_under f Any h n = absurd n

pub nothing_le : (f g : Flow) → IsNothing f → Le f g
nothing_le Nothing g n = tt
nothing_le (Scalar l) g n = absurd n
nothing_le (Set k) g n = absurd n
nothing_le (Tuple k) g n = absurd n
nothing_le (Map k l) g n = absurd n
nothing_le Any g n = absurd n

pub tuple_not_nothing : (f g : Flow) → Le (Tuple f) g → IsNothing g → ⊥
tuple_not_nothing f Nothing h n = h
tuple_not_nothing f (Scalar l) h n = n
tuple_not_nothing f (Set k) h n = n
tuple_not_nothing f (Tuple k) h n = n
tuple_not_nothing f (Map k l) h n = n
tuple_not_nothing f Any h n = n

pub le_through : (f g h : Flow) → Le f g → Le g h → Le f h
le_through Nothing g h a b = tt
le_through (Scalar k) (Scalar l) h a b = subst (λ m. Le (Scalar m) h) (sym (same_kind k l a)) b
le_through (Set f) (Set g) (Set h) a b = le_through f g h a b
le_through (Set f) (Set g) (Map h k) a b = nothing_under f g a b
le_through (Set f) (Set g) Any a b = tt
le_through (Set f) (Set g) h a b = absurd b
le_through (Set f) (Map g k) (Set h) a b = nothing_le f h a
le_through (Set f) (Map g k) (Map h l) a b = a
le_through (Set f) (Map g k) Any a b = tt
le_through (Set f) (Map g k) h a b = absurd b
le_through (Tuple f) (Tuple g) (Tuple h) a b = le_through f g h a b
le_through (Tuple f) (Tuple g) Any a b = tt
le_through (Tuple f) (Tuple g) h a b = absurd b
le_through (Map f k) (Map g l) (Map h m) a b = (le_through f g h a.0 b.0, le_through k l m a.1 b.1)
le_through (Map f k) (Map g l) (Set h) a b = (le_through (Tuple f) (Tuple g) h a.0 b.0, le_through (Tuple k) (Tuple l) h a.1 b.1)
le_through (Map f k) (Map g l) Any a b = tt
le_through (Map f k) (Map g l) h a b = absurd b
le_through (Map f k) (Set g) (Set h) a b = (le_through (Tuple f) g h a.0 b, le_through (Tuple k) g h a.1 b)
le_through (Map f k) (Set g) (Map h l) a b = absurd (tuple_not_nothing f g a.0 b)
le_through (Map f k) (Set g) Any a b = tt
le_through (Map f k) (Set g) h a b = absurd b
le_through f Any Any a b = le_any f
le_through f Any h a b = absurd b
le_through f g h a b = absurd a

nothing_is : (f : Flow) → Le f Nothing → f ≡ Nothing
nothing_is Nothing h = refl
nothing_is f h = absurd h

any_is : (f : Flow) → Le Any f → f ≡ Any
any_is Any h = refl
any_is f h = absurd h

pub le_same : (f g : Flow) → Le f g → Le g f → f ≡ g
le_same Nothing Nothing a b = refl
le_same (Scalar k) (Scalar l) a b = ap Scalar (same_kind k l a)
le_same (Set f) (Set g) a b = ap Set (le_same f g a b)
le_same (Tuple f) (Tuple g) a b = ap Tuple (le_same f g a b)
le_same (Map f g) (Map h k) a b = let l = le_same f h a.0 b.0 in let r = le_same g k a.1 b.1 in λ i. Map (l i) (r i)
le_same (Set f) (Map g h) a b = absurd (tuple_not_nothing g f b.0 a)
le_same (Map g h) (Set f) a b = absurd (tuple_not_nothing g f a.0 b)
le_same Any Any a b = refl
le_same f Nothing a b = nothing_is f a
le_same Nothing g a b = sym (nothing_is g b)
le_same f Any a b = any_is f b
le_same Any g a b = sym (any_is g a)
le_same f g a b = absurd a
