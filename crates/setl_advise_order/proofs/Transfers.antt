-- What is made of flows grows with them.
use Rattle.std.proofs.Common.{refl, subst}
use Rattle.setl_advise_flows.specs.Flow.{Kind, Whole, Letters, Truth, Token, Flow, Nothing, Scalar, Set, Tuple, Map, Any, join, set_flow, tuple_flow, map_flow}
use Rattle.setl_advise_flows.specs.Operators.{el, part, get_flow, images_flow, domain_flow, times_flow, with_flow}
use Rattle.setl_advise_flows.specs.Expressions.{argument_flow}
use Rattle.setl_advise_order.specs.Order.{IsNothing, Le, Within}
use Rattle.setl_advise_order.proofs.Orders.{le_any, le_itself, le_through, same_kind, nothing_le}
use Rattle.setl_advise_order.proofs.Caps.{cap_within, within_more, cap_least, cap_monotone}
use Rattle.setl_advise_order.proofs.Joins.{is_join, tuples_under}

pub join_m : (a b x y : Flow) → Le a x → Le b y → Le (join a b) (join x y)
join_m a b x y p q =
    let i = is_join 3 x y in
    (is_join 3 a b).least (join x y) i.within (le_through a x (join x y) p i.left) (le_through b y (join x y) q i.right)

pub set_m : (f g : Flow) → Le f g → Le (set_flow f) (set_flow g)
set_m f g h = cap_monotone 3 (Set f) (Set g) h

pub tuple_m : (f g : Flow) → Le f g → Le (tuple_flow f) (tuple_flow g)
tuple_m f g h = cap_monotone 3 (Tuple f) (Tuple g) h

pub map_m : (f g h k : Flow) → Le f h → Le g k → Le (map_flow f g) (map_flow h k)
map_m f g h k p q = cap_monotone 3 (Map f g) (Map h k) (p, q)

of_scalars : (t : Flow → Flow) (k l : Kind) → Le (Scalar k) (Scalar l) → Le (t (Scalar k)) (t (Scalar l))
of_scalars t k l h = subst (λ m. Le (t (Scalar k)) (t (Scalar m))) (same_kind k l h) (le_itself (t (Scalar k)))

-- the pairs of a map that is below a set
pairs_m : (f g i : Flow) → Within 2 i → Le (Tuple f) i → Le (Tuple g) i → Le (tuple_flow (join f g)) i
pairs_m f g i w a b = cap_least 3 (Tuple (join f g)) i (within_more 2 i w) (tuples_under 3 f g (join f g) (is_join 3 f g).least i (within_more 2 i w) a b)

-- ---- members and components

pub el_m : (a b : Flow) → Within 3 b → Le a b → Le (el a) (el b)
el_m Nothing b w h = tt
el_m a Any w h = le_any (el a)
el_m (Scalar k) (Scalar l) w h = of_scalars el k l h
el_m (Set f) (Set g) w h = h
el_m (Tuple f) (Tuple g) w h = h
el_m (Map f g) (Map i k) w h = tuple_m (join f g) (join i k) (join_m f g i k h.0 h.1)
el_m (Set f) (Map g i) w h = nothing_le f (el (Map g i)) h
el_m (Map f g) (Set i) w h = pairs_m f g i w h.0 h.1
el_m a b w h = absurd h

pub part_m : (a b : Flow) → Le a b → Le (part a) (part b)
part_m Nothing b h = tt
part_m a Any h = le_any (part a)
part_m (Scalar k) (Scalar l) h = tt
part_m (Set f) (Set g) h = tt
part_m (Tuple f) (Tuple g) h = h
part_m (Map f g) (Map i k) h = tt
part_m (Set f) (Map g i) h = tt
part_m (Map f g) (Set i) h = tt
part_m a b h = absurd h

-- ---- images

get_in_sets : (f g : Flow) → Le f g → Le (get_flow (Set f)) (get_flow (Set g))
get_in_sets Nothing g h = tt
get_in_sets f Any h = le_any (get_flow (Set f))
get_in_sets (Scalar k) (Scalar l) h = tt
get_in_sets (Set f) (Set g) h = tt
get_in_sets (Tuple f) (Tuple g) h = h
get_in_sets (Map f g) (Map i k) h = tt
get_in_sets (Set f) (Map g i) h = tt
get_in_sets (Map f g) (Set i) h = tt
get_in_sets f g h = absurd h

get_empty : (f g : Flow) → IsNothing f → Le (get_flow (Set f)) g
get_empty Nothing g n = tt
get_empty (Scalar l) g n = absurd n
get_empty (Set k) g n = absurd n
get_empty (Tuple k) g n = absurd n
get_empty (Map k l) g n = absurd n
get_empty Any g n = absurd n

get_pairs : (g i : Flow) → Le (Tuple g) i → Le g (get_flow (Set i))
get_pairs g (Tuple m) h = h
get_pairs g Any h = le_any g
get_pairs g i h = absurd h

pub get_m : (a b : Flow) → Le a b → Le (get_flow a) (get_flow b)
get_m Nothing b h = tt
get_m a Any h = le_any (get_flow a)
get_m (Scalar k) (Scalar l) h = of_scalars get_flow k l h
get_m (Set f) (Set g) h = get_in_sets f g h
get_m (Tuple f) (Tuple g) h = h
get_m (Map f g) (Map i k) h = h.1
get_m (Set f) (Map g i) h = get_empty f i h
get_m (Map f g) (Set i) h = get_pairs g i h.1
get_m a b h = absurd h

images_in_sets : (f g : Flow) → Le f g → Le (images_flow (Set f)) (images_flow (Set g))
images_in_sets Nothing Nothing h = tt
images_in_sets Nothing (Scalar k) h = tt
images_in_sets Nothing (Set g) h = tt
images_in_sets Nothing (Tuple g) h = tt
images_in_sets Nothing (Map g i) h = tt
images_in_sets f Any h = le_any (images_flow (Set f))
images_in_sets (Scalar k) (Scalar l) h = tt
images_in_sets (Set f) (Set g) h = tt
images_in_sets (Tuple f) (Tuple g) h = set_m f g h
images_in_sets (Map f g) (Map i k) h = tt
images_in_sets (Set f) (Map g i) h = tt
images_in_sets (Map f g) (Set i) h = tt
images_in_sets f g h = absurd h

images_empty : (f g : Flow) → IsNothing f → Le (images_flow (Set f)) (set_flow g)
images_empty Nothing g n = tt
images_empty (Scalar l) g n = absurd n
images_empty (Set k) g n = absurd n
images_empty (Tuple k) g n = absurd n
images_empty (Map k l) g n = absurd n
images_empty Any g n = absurd n

images_pairs : (g i : Flow) → Le (Tuple g) i → Le (set_flow g) (images_flow (Set i))
images_pairs g (Tuple m) h = set_m g m h
images_pairs g Any h = le_any (set_flow g)
images_pairs g i h = absurd h

pub images_m : (a b : Flow) → Le a b → Le (images_flow a) (images_flow b)
images_m Nothing b h = tt
images_m a Any h = le_any (images_flow a)
images_m (Scalar k) (Scalar l) h = tt
images_m (Set f) (Set g) h = images_in_sets f g h
images_m (Tuple f) (Tuple g) h = tt
images_m (Map f g) (Map i k) h = set_m g k h.1
images_m (Set f) (Map g i) h = images_empty f i h
images_m (Map f g) (Set i) h = images_pairs g i h.1
images_m a b h = absurd h

pub domain_m : (a b : Flow) → Le a b → Le (domain_flow a) (domain_flow b)
domain_m Nothing b h = tt
domain_m a Any h = le_any (domain_flow a)
domain_m (Scalar k) (Scalar l) h = tt
domain_m (Set f) (Set g) h = images_in_sets f g h
domain_m (Tuple f) (Tuple g) h = tt
domain_m (Map f g) (Map i k) h = set_m f i h.0
domain_m (Set f) (Map g i) h = images_empty f g h
domain_m (Map f g) (Set i) h = images_pairs f i h.0
domain_m a b h = absurd h

-- ---- within three places

pub el_w : (a : Flow) → Within 3 a → Within 3 (el a)
el_w Nothing w = tt
el_w (Scalar Whole) w = tt
el_w (Scalar Letters) w = tt
el_w (Scalar Truth) w = tt
el_w (Scalar Token) w = tt
el_w (Set f) w = within_more 2 f w
el_w (Tuple f) w = within_more 2 f w
el_w (Map f g) w = cap_within 3 (Tuple (join f g))
el_w Any w = tt

pub part_w : (a : Flow) → Within 3 a → Within 3 (part a)
part_w Nothing w = tt
part_w (Scalar k) w = tt
part_w (Set f) w = tt
part_w (Tuple f) w = within_more 2 f w
part_w (Map f g) w = tt
part_w Any w = tt

pub get_w : (a : Flow) → Within 3 a → Within 3 (get_flow a)
get_w Nothing w = tt
get_w (Scalar Whole) w = tt
get_w (Scalar Letters) w = tt
get_w (Scalar Truth) w = tt
get_w (Scalar Token) w = tt
get_w (Set Nothing) w = tt
get_w (Set (Scalar k)) w = tt
get_w (Set (Set f)) w = tt
get_w (Set (Tuple f)) w = within_more 2 f (within_more 1 f w)
get_w (Set (Map f g)) w = tt
get_w (Set Any) w = tt
get_w (Tuple f) w = within_more 2 f w
get_w (Map f g) w = within_more 2 g w.1
get_w Any w = tt

pub images_w : (a : Flow) → Within 3 (images_flow a)
images_w Nothing = tt
images_w (Scalar k) = tt
images_w (Set Nothing) = tt
images_w (Set (Scalar k)) = tt
images_w (Set (Set f)) = tt
images_w (Set (Tuple f)) = cap_within 3 (Set f)
images_w (Set (Map f g)) = tt
images_w (Set Any) = tt
images_w (Tuple f) = tt
images_w (Map f g) = cap_within 3 (Set g)
images_w Any = tt

pub domain_w : (a : Flow) → Within 3 (domain_flow a)
domain_w Nothing = tt
domain_w (Scalar k) = tt
domain_w (Set f) = images_w (Set f)
domain_w (Tuple f) = tt
domain_w (Map f g) = cap_within 3 (Set f)
domain_w Any = tt

pub argument_w : (a : Flow) → Within 3 (argument_flow a)
argument_w Nothing = tt
argument_w (Scalar Whole) = tt
argument_w (Scalar Letters) = tt
argument_w (Scalar Truth) = tt
argument_w (Scalar Token) = tt
argument_w (Set f) = el_w (domain_flow (Set f)) (domain_w (Set f))
argument_w (Tuple f) = tt
argument_w (Map f g) = el_w (domain_flow (Map f g)) (domain_w (Map f g))
argument_w Any = tt

pub argument_m : (a b : Flow) → Le a b → Le (argument_flow a) (argument_flow b)
argument_m Nothing b h = tt
argument_m a Any h = le_any (argument_flow a)
argument_m (Scalar k) (Scalar l) h = of_scalars argument_flow k l h
argument_m (Set f) (Set g) h = el_m (domain_flow (Set f)) (domain_flow (Set g)) (domain_w (Set g)) (domain_m (Set f) (Set g) h)
argument_m (Tuple f) (Tuple g) h = refl
argument_m (Map f g) (Map i k) h = el_m (domain_flow (Map f g)) (domain_flow (Map i k)) (domain_w (Map i k)) (domain_m (Map f g) (Map i k) h)
argument_m (Set f) (Map g i) h = el_m (domain_flow (Set f)) (domain_flow (Map g i)) (domain_w (Map g i)) (domain_m (Set f) (Map g i) h)
argument_m (Map f g) (Set i) h = el_m (domain_flow (Map f g)) (domain_flow (Set i)) (domain_w (Set i)) (domain_m (Map f g) (Set i) h)
argument_m a b h = absurd h

-- ---- products and `with`

pub times_m : (a b x y : Flow) → Le a x → Le b y → Le (times_flow a b) (times_flow x y)
times_m Nothing b x y p q = tt
times_m a b Any y p q = le_any (times_flow a b)
times_m (Scalar Whole) b (Scalar Whole) y p q = q
times_m (Scalar Letters) b (Scalar Letters) y p q = refl
times_m (Scalar Truth) b (Scalar Truth) y p q = refl
times_m (Scalar Token) b (Scalar Token) y p q = refl
times_m (Scalar k) b (Scalar l) y p q = cc
times_m (Set f) b (Set g) y p q = p
times_m (Tuple f) b (Tuple g) y p q = p
times_m (Map f g) b (Map i k) y p q = p
times_m (Set f) b (Map g i) y p q = p
times_m (Map f g) b (Set i) y p q = p
times_m a b x y p q = absurd p

pub with_m : (a b x y : Flow) → Within 3 x → Le a x → Le b y → Le (with_flow a b) (with_flow x y)
with_m Nothing b x y w p q = tt
with_m a b Any y w p q = le_any (with_flow a b)
with_m (Scalar k) b (Scalar l) y w p q = tt
with_m (Set f) b (Set g) y w p q = set_m (join f b) (join g y) (join_m f b g y p q)
with_m (Tuple f) b (Tuple g) y w p q = tuple_m (join f b) (join g y) (join_m f b g y p q)
with_m (Map f g) b (Map i k) y w p q =
    set_m (join (tuple_flow (join f g)) b) (join (tuple_flow (join i k)) y)
    (join_m (tuple_flow (join f g)) b (tuple_flow (join i k)) y (tuple_m (join f g) (join i k) (join_m f g i k p.0 p.1)) q)
with_m (Set f) b (Map g i) y w p q =
    set_m (join f b) (join (tuple_flow (join g i)) y) (join_m f b (tuple_flow (join g i)) y (nothing_le f (tuple_flow (join g i)) p) q)
with_m (Map f g) b (Set i) y w p q =
    set_m (join (tuple_flow (join f g)) b) (join i y) (join_m (tuple_flow (join f g)) b i y (pairs_m f g i w p.0 p.1) q)
with_m a b x y w p q = absurd p
