-- Wholes grow with what is put into them.
use Rattle.std.proofs.Common.{List, [], ◌∷◌}
use Rattle.setl_advise_flows.specs.Flow.{Flow, Nothing, Scalar, Set, Tuple, Map, Any, capped, join, set_flow, tuple_flow, map_flow}
use Rattle.setl_advise_flows.specs.Operators.{el, get_flow, images_flow, put_flow, put_images_flow}
use Rattle.setl_advise_flows.specs.Expressions.{At, RoundAt, BraceAt, part_flow, whole_flow}
use Rattle.setl_advise_order.specs.Order.{IsNothing, Le, Within}
use Rattle.setl_advise_order.proofs.Orders.{le_any, le_through}
use Rattle.setl_advise_order.proofs.Caps.{cap_within, cap_above, cap_least}
use Rattle.setl_advise_order.proofs.Joins.{is_join, tuples_under}
use Rattle.setl_advise_order.proofs.Transfers.{join_m, set_m, tuple_m, map_m, el_m, get_m, get_w, images_m, images_w}

left : (f g : Flow) → Le f (join f g)
left f g = (is_join 3 f g).left

right : (f g : Flow) → Le g (join f g)
right f g = (is_join 3 f g).right

-- the pairs that are put into a set of values
abbrev put_pairs : Flow → Flow → Flow → Flow
put_pairs i x y = join i (tuple_flow (join x y))

-- a map is below a set of pairs, where its parts are below the components
pub map_in_set : (f g j : Flow) → Le (Tuple f) j → Le (Tuple g) j → Le (map_flow f g) (set_flow j)
map_in_set f g j p q =
    let e = capped 2 j in
    cap_least 3 (Map f g) (set_flow j) (cap_within 3 (Set j)) (le_through (Tuple f) j e p (cap_above 2 j), le_through (Tuple g) j e q (cap_above 2 j))

-- what is put is among the pairs
first_put : (i x y : Flow) → Le (Tuple x) (put_pairs i x y)
first_put i x y =
    le_through (Tuple x) (Tuple (join x y)) (put_pairs i x y) (left x y)
    (le_through (Tuple (join x y)) (tuple_flow (join x y)) (put_pairs i x y) (cap_above 3 (Tuple (join x y))) (right i (tuple_flow (join x y))))

second_put : (i x y : Flow) → Le (Tuple y) (put_pairs i x y)
second_put i x y =
    le_through (Tuple y) (Tuple (join x y)) (put_pairs i x y) (right x y)
    (le_through (Tuple (join x y)) (tuple_flow (join x y)) (put_pairs i x y) (cap_above 3 (Tuple (join x y))) (right i (tuple_flow (join x y))))

pairs_m : (f i a b x y : Flow) → Le f i → Le a x → Le b y → Le (put_pairs f a b) (put_pairs i x y)
pairs_m f i a b x y p q r = join_m f (tuple_flow (join a b)) i (tuple_flow (join x y)) p (tuple_m (join a b) (join x y) (join_m a b x y q r))

-- a tuple of both is below what has tuples of each
both_under : (f g j : Flow) → Within 3 j → Le (Tuple f) j → Le (Tuple g) j → Le (Tuple (join f g)) j
both_under f g j w p q = tuples_under 3 f g (join f g) (is_join 3 f g).least j w p q

empty_put : (g a b x y : Flow) → Le a x → Le b y → Le (put_flow (Set Nothing) a b) (put_flow (Set g) x y)
empty_put Nothing a b x y q r = map_m a b x y q r
empty_put g a b x y q r =
    map_in_set a b (put_pairs g x y) (le_through (Tuple a) (Tuple x) (put_pairs g x y) q (first_put g x y)) (le_through (Tuple b) (Tuple y) (put_pairs g x y) r (second_put g x y))

put_in_sets : (f g a b x y : Flow) → Le f g → Le a x → Le b y → Le (put_flow (Set f) a b) (put_flow (Set g) x y)
put_in_sets Nothing g a b x y p q r = empty_put g a b x y q r
put_in_sets (Scalar k) (Scalar l) a b x y p q r = set_m (put_pairs (Scalar k) a b) (put_pairs (Scalar l) x y) (pairs_m (Scalar k) (Scalar l) a b x y p q r)
put_in_sets (Set f) (Set g) a b x y p q r = set_m (put_pairs (Set f) a b) (put_pairs (Set g) x y) (pairs_m (Set f) (Set g) a b x y p q r)
put_in_sets (Tuple f) (Tuple g) a b x y p q r = set_m (put_pairs (Tuple f) a b) (put_pairs (Tuple g) x y) (pairs_m (Tuple f) (Tuple g) a b x y p q r)
put_in_sets (Map f h) (Map g k) a b x y p q r = set_m (put_pairs (Map f h) a b) (put_pairs (Map g k) x y) (pairs_m (Map f h) (Map g k) a b x y p q r)
put_in_sets (Set f) (Map g k) a b x y p q r = set_m (put_pairs (Set f) a b) (put_pairs (Map g k) x y) (pairs_m (Set f) (Map g k) a b x y p q r)
put_in_sets (Map f h) (Set g) a b x y p q r = set_m (put_pairs (Map f h) a b) (put_pairs (Set g) x y) (pairs_m (Map f h) (Set g) a b x y p q r)
put_in_sets (Scalar k) Any a b x y p q r = set_m (put_pairs (Scalar k) a b) (put_pairs Any x y) (pairs_m (Scalar k) Any a b x y tt q r)
put_in_sets (Set f) Any a b x y p q r = set_m (put_pairs (Set f) a b) (put_pairs Any x y) (pairs_m (Set f) Any a b x y tt q r)
put_in_sets (Tuple f) Any a b x y p q r = set_m (put_pairs (Tuple f) a b) (put_pairs Any x y) (pairs_m (Tuple f) Any a b x y tt q r)
put_in_sets (Map f h) Any a b x y p q r = set_m (put_pairs (Map f h) a b) (put_pairs Any x y) (pairs_m (Map f h) Any a b x y tt q r)
put_in_sets Any Any a b x y p q r = set_m (put_pairs Any a b) (put_pairs Any x y) (pairs_m Any Any a b x y tt q r)
put_in_sets f g a b x y p q r = absurd p

empty_in_map : (f g k a b x y : Flow) → IsNothing f → Le a x → Le b y → Le (put_flow (Set f) a b) (map_flow (join g x) (join k y))
empty_in_map Nothing g k a b x y n q r = map_m a b (join g x) (join k y) (le_through a x (join g x) q (right g x)) (le_through b y (join k y) r (right k y))
empty_in_map (Scalar l) g k a b x y n q r = absurd n
empty_in_map (Set f) g k a b x y n q r = absurd n
empty_in_map (Tuple f) g k a b x y n q r = absurd n
empty_in_map (Map f h) g k a b x y n q r = absurd n
empty_in_map Any g k a b x y n q r = absurd n

-- a map into which is put, below a set of pairs into which is put
map_in_pairs : (f g i a b x y : Flow) → Le (Tuple f) i → Le (Tuple g) i → Le a x → Le b y → Le (map_flow (join f a) (join g b)) (set_flow (put_pairs i x y))
map_in_pairs f g i a b x y p s q r =
    let j = put_pairs i x y in
    let w = (is_join 3 i (tuple_flow (join x y))).within in
    let up = left i (tuple_flow (join x y)) in
    map_in_set (join f a) (join g b) j
    (both_under f a j w (le_through (Tuple f) i j p up) (le_through (Tuple a) (Tuple x) j q (first_put i x y)))
    (both_under g b j w (le_through (Tuple g) i j s up) (le_through (Tuple b) (Tuple y) j r (second_put i x y)))

put_in_pairs : (f g i a b x y : Flow) → Le (Tuple f) i → Le (Tuple g) i → Le a x → Le b y → Le (map_flow (join f a) (join g b)) (put_flow (Set i) x y)
put_in_pairs f g Nothing a b x y p s q r = absurd p
put_in_pairs f g (Tuple i) a b x y p s q r = map_in_pairs f g (Tuple i) a b x y p s q r
put_in_pairs f g Any a b x y p s q r = map_in_pairs f g Any a b x y p s q r
put_in_pairs f g i a b x y p s q r = absurd p

pub put_m : (f g a b x y : Flow) → Le f g → Le a x → Le b y → Le (put_flow f a b) (put_flow g x y)
put_m Nothing g a b x y p q r = tt
put_m f Any a b x y p q r = le_any (put_flow f a b)
put_m (Scalar k) (Scalar l) a b x y p q r = tt
put_m (Set f) (Set g) a b x y p q r = put_in_sets f g a b x y p q r
put_m (Tuple f) (Tuple g) a b x y p q r = tuple_m (join f b) (join g y) (join_m f b g y p r)
put_m (Map f h) (Map g k) a b x y p q r = map_m (join f a) (join h b) (join g x) (join k y) (join_m f a g x p.0 q) (join_m h b k y p.1 r)
put_m (Set f) (Map g k) a b x y p q r = empty_in_map f g k a b x y p q r
put_m (Map f h) (Set g) a b x y p q r = put_in_pairs f h g a b x y p.0 p.1 q r
put_m f g a b x y p q r = absurd p

pub put_w : (f a b : Flow) → Within 3 (put_flow f a b)
put_w Nothing a b = tt
put_w (Scalar k) a b = tt
put_w (Set Nothing) a b = cap_within 3 (Map a b)
put_w (Set (Scalar k)) a b = cap_within 3 (Set (put_pairs (Scalar k) a b))
put_w (Set (Set f)) a b = cap_within 3 (Set (put_pairs (Set f) a b))
put_w (Set (Tuple f)) a b = cap_within 3 (Set (put_pairs (Tuple f) a b))
put_w (Set (Map f g)) a b = cap_within 3 (Set (put_pairs (Map f g) a b))
put_w (Set Any) a b = cap_within 3 (Set (put_pairs Any a b))
put_w (Tuple f) a b = cap_within 3 (Tuple (join f b))
put_w (Map f g) a b = cap_within 3 (Map (join f a) (join g b))
put_w Any a b = tt

pub puts_m : (f g a b x y : Flow) → Within 3 y → Le f g → Le a x → Le b y → Le (put_images_flow f a b) (put_images_flow g x y)
puts_m Nothing g a b x y w p q r = tt
puts_m f Any a b x y w p q r = le_any (put_images_flow f a b)
puts_m (Scalar k) (Scalar l) a b x y w p q r = tt
puts_m (Tuple f) (Tuple g) a b x y w p q r = tt
puts_m (Set f) (Set g) a b x y w p q r = put_m (Set f) (Set g) a (el b) x (el y) p q (el_m b y w r)
puts_m (Map f h) (Map g k) a b x y w p q r = put_m (Map f h) (Map g k) a (el b) x (el y) p q (el_m b y w r)
puts_m (Set f) (Map g k) a b x y w p q r = put_m (Set f) (Map g k) a (el b) x (el y) p q (el_m b y w r)
puts_m (Map f h) (Set g) a b x y w p q r = put_m (Map f h) (Set g) a (el b) x (el y) p q (el_m b y w r)
puts_m f g a b x y w p q r = absurd p

pub puts_w : (f a b : Flow) → Within 3 (put_images_flow f a b)
puts_w Nothing a b = tt
puts_w (Scalar k) a b = tt
puts_w (Set f) a b = put_w (Set f) a (el b)
puts_w (Tuple f) a b = tt
puts_w (Map f g) a b = put_w (Map f g) a (el b)
puts_w Any a b = tt

-- ---- places

-- selectors of the same kinds, with flows that are below
abbrev pub LeAts : List At → List At → Type 0
LeAts [] [] = Unit {0}
LeAts (RoundAt a ∷ as_) (RoundAt x ∷ xs) = Le a x × LeAts as_ xs
LeAts (BraceAt a ∷ as_) (BraceAt x ∷ xs) = Le a x × LeAts as_ xs
LeAts as_ xs = ⊥

pub part_at_m : (as_ xs : List At) (f g : Flow) → LeAts as_ xs → Le f g → Le (part_flow as_ f) (part_flow xs g)
part_at_m [] [] f g l h = h
part_at_m (RoundAt a ∷ as_) (RoundAt x ∷ xs) f g l h = part_at_m as_ xs (get_flow f) (get_flow g) l.1 (get_m f g h)
part_at_m (BraceAt a ∷ as_) (BraceAt x ∷ xs) f g l h = part_at_m as_ xs (images_flow f) (images_flow g) l.1 (images_m f g h)
part_at_m as_ xs f g l h = absurd l

pub part_at_w : (xs : List At) (f : Flow) → Within 3 f → Within 3 (part_flow xs f)
part_at_w [] f w = w
part_at_w (RoundAt x ∷ xs) f w = part_at_w xs (get_flow f) (get_w f w)
part_at_w (BraceAt x ∷ xs) f w = part_at_w xs (images_flow f) (images_w f)

pub whole_w : (xs : List At) (f y : Flow) → Within 3 y → Within 3 (whole_flow xs f y)
whole_w [] f y w = w
whole_w (RoundAt x ∷ xs) f y w = put_w f x (whole_flow xs (get_flow f) y)
whole_w (BraceAt x ∷ xs) f y w = puts_w f x (whole_flow xs (images_flow f) y)

pub whole_m : (as_ xs : List At) (f g b y : Flow) → Within 3 y → LeAts as_ xs → Le f g → Le b y → Le (whole_flow as_ f b) (whole_flow xs g y)
whole_m [] [] f g b y w l h k = k
whole_m (RoundAt a ∷ as_) (RoundAt x ∷ xs) f g b y w l h k =
    put_m f g a (whole_flow as_ (get_flow f) b) x (whole_flow xs (get_flow g) y) h l.0 (whole_m as_ xs (get_flow f) (get_flow g) b y w l.1 (get_m f g h) k)
whole_m (BraceAt a ∷ as_) (BraceAt x ∷ xs) f g b y w l h k =
    puts_m f g a (whole_flow as_ (images_flow f) b) x (whole_flow xs (images_flow g) y) (whole_w xs (images_flow g) y w) h l.0 (whole_m as_ xs (images_flow f) (images_flow g) b y w l.1 (images_m f g h) k)
whole_m as_ xs f g b y w l h k = absurd l
