-- What operators make of flows grows with these.
use Rattle.std.proofs.Common.{refl, List, [], ◌∷◌, Option, Some, None}
use Rattle.setl_operators_table.specs.declared.Operator.{Operator}
use Rattle.setl_operators_table.specs.declared.Operator.TheVariants.{Pow, Domain, Range, Arb, FoldAdd, FoldMultiply, FoldMax, FoldMin, FoldAnd, FoldOr, Add, Subtract, Multiply, Modulo, With, Less, Lessf, Npow, Get, Images, Slice, Tail, SetOf, TupleOf, Put, PutImages}
use Rattle.setl_advise_flows.specs.Flow.{Whole, Flow, Nothing, Scalar, Set, Tuple, Map, Any, join, set_flow, tuple_flow, map_flow}
use Rattle.setl_advise_flows.specs.Operators.{el, get_flow, images_flow, domain_flow, put_flow, put_images_flow, times_flow, with_flow, one_flow, two_flows, three_flows, first_flow, all_joined, op_flow, Shape, Plain, Constant, Written, flow_of, flows, pair_joined, all_pairs, map_if, enumeration_flow, tuple_shape, op_shape}
use Rattle.setl_advise_order.specs.Order.{Le, Within}
use Rattle.setl_advise_order.proofs.Caps.{cap_within}
use Rattle.setl_advise_order.proofs.Joins.{is_join}
use Rattle.setl_advise_order.proofs.Transfers.{join_m, set_m, tuple_m, map_m, el_m, el_w, get_m, get_w, images_m, images_w, domain_m, domain_w, times_m, with_m}
use Rattle.setl_advise_order.proofs.Puts.{put_m, put_w, puts_m, puts_w}

-- a flow is below one within three places
abbrev pub Lower : Flow → Flow → Type 0
Lower f g = Le f g × Within 3 g

abbrev pub LeFlows : List Flow → List Flow → Type 0
LeFlows [] [] = Unit {0}
LeFlows (f ∷ fs) (g ∷ gs) = Lower f g × LeFlows fs gs
LeFlows fs gs = ⊥

one_l : (t : Flow → Flow) → ((a x : Flow) → Lower a x → Lower (t a) (t x)) → (fs gs : List Flow) → LeFlows fs gs → Lower (one_flow t fs) (one_flow t gs)
one_l t m [] [] h = (tt, tt)
one_l t m (a ∷ []) (x ∷ []) h = m a x h.0
one_l t m (a ∷ b ∷ fs) (x ∷ y ∷ gs) h = (tt, tt)
one_l t m [] (x ∷ gs) h = absurd h
one_l t m (a ∷ fs) [] h = absurd h
one_l t m (a ∷ []) (x ∷ y ∷ gs) h = absurd h.1
one_l t m (a ∷ b ∷ fs) (x ∷ []) h = absurd h.1

two_l : (t : Flow → Flow → Flow) → ((a b x y : Flow) → Lower a x → Lower b y → Lower (t a b) (t x y)) → (fs gs : List Flow) → LeFlows fs gs → Lower (two_flows t fs) (two_flows t gs)
two_l t m [] [] h = (tt, tt)
two_l t m (a ∷ []) (x ∷ []) h = (tt, tt)
two_l t m (a ∷ b ∷ []) (x ∷ y ∷ []) h = m a b x y h.0 h.1.0
two_l t m (a ∷ b ∷ c ∷ fs) (x ∷ y ∷ z ∷ gs) h = (tt, tt)
two_l t m [] (x ∷ gs) h = absurd h
two_l t m (a ∷ fs) [] h = absurd h
two_l t m (a ∷ []) (x ∷ y ∷ gs) h = absurd h.1
two_l t m (a ∷ b ∷ fs) (x ∷ []) h = absurd h.1
two_l t m (a ∷ b ∷ []) (x ∷ y ∷ z ∷ gs) h = absurd h.1.1
two_l t m (a ∷ b ∷ c ∷ fs) (x ∷ y ∷ []) h = absurd h.1.1

three_l : (t : Flow → Flow → Flow → Flow) → ((a b c x y z : Flow) → Lower a x → Lower b y → Lower c z → Lower (t a b c) (t x y z)) → (fs gs : List Flow) → LeFlows fs gs → Lower (three_flows t fs) (three_flows t gs)
three_l t m [] [] h = (tt, tt)
three_l t m (a ∷ []) (x ∷ []) h = (tt, tt)
three_l t m (a ∷ b ∷ []) (x ∷ y ∷ []) h = (tt, tt)
three_l t m (a ∷ b ∷ c ∷ []) (x ∷ y ∷ z ∷ []) h = m a b c x y z h.0 h.1.0 h.1.1.0
three_l t m (a ∷ b ∷ c ∷ d ∷ fs) (x ∷ y ∷ z ∷ w ∷ gs) h = (tt, tt)
three_l t m [] (x ∷ gs) h = absurd h
three_l t m (a ∷ fs) [] h = absurd h
three_l t m (a ∷ []) (x ∷ y ∷ gs) h = absurd h.1
three_l t m (a ∷ b ∷ fs) (x ∷ []) h = absurd h.1
three_l t m (a ∷ b ∷ []) (x ∷ y ∷ z ∷ gs) h = absurd h.1.1
three_l t m (a ∷ b ∷ c ∷ fs) (x ∷ y ∷ []) h = absurd h.1.1
three_l t m (a ∷ b ∷ c ∷ []) (x ∷ y ∷ z ∷ w ∷ gs) h = absurd h.1.1.1
three_l t m (a ∷ b ∷ c ∷ d ∷ fs) (x ∷ y ∷ z ∷ []) h = absurd h.1.1.1

first_l : (fs gs : List Flow) → LeFlows fs gs → Lower (first_flow fs) (first_flow gs)
first_l [] [] h = (tt, tt)
first_l (a ∷ fs) (x ∷ gs) h = h.0
first_l [] (x ∷ gs) h = absurd h
first_l (a ∷ fs) [] h = absurd h

pub join_l : (a b x y : Flow) → Lower a x → Lower b y → Lower (join a b) (join x y)
join_l a b x y p q = (join_m a b x y p.0 q.0, (is_join 3 x y).within)

all_l : (fs gs : List Flow) → LeFlows fs gs → Lower (all_joined fs) (all_joined gs)
all_l [] [] h = (tt, tt)
all_l (a ∷ fs) (x ∷ gs) h = join_l a (all_joined fs) x (all_joined gs) h.0 (all_l fs gs h.1)
all_l [] (x ∷ gs) h = absurd h
all_l (a ∷ fs) [] h = absurd h

pub set_l : (a x : Flow) → Lower a x → Lower (set_flow a) (set_flow x)
set_l a x h = (set_m a x h.0, cap_within 3 (Set x))

pub tuple_l : (a x : Flow) → Lower a x → Lower (tuple_flow a) (tuple_flow x)
tuple_l a x h = (tuple_m a x h.0, cap_within 3 (Tuple x))

map_l : (a b x y : Flow) → Lower a x → Lower b y → Lower (map_flow a b) (map_flow x y)
map_l a b x y h k = (map_m a b x y h.0 k.0, cap_within 3 (Map x y))

pub el_l : (a x : Flow) → Lower a x → Lower (el a) (el x)
el_l a x h = (el_m a x h.1 h.0, el_w x h.1)

pub get_l : (a x : Flow) → Lower a x → Lower (get_flow a) (get_flow x)
get_l a x h = (get_m a x h.0, get_w x h.1)

images_l : (a x : Flow) → Lower a x → Lower (images_flow a) (images_flow x)
images_l a x h = (images_m a x h.0, images_w x)

domain_l : (a x : Flow) → Lower a x → Lower (domain_flow a) (domain_flow x)
domain_l a x h = (domain_m a x h.0, domain_w x)

times_w : (x y : Flow) → Within 3 x → Within 3 y → Within 3 (times_flow x y)
times_w Nothing y p q = tt
times_w (Scalar Whole) y p q = q
times_w x y p q = p

times_l : (a b x y : Flow) → Lower a x → Lower b y → Lower (times_flow a b) (times_flow x y)
times_l a b x y h k = (times_m a b x y h.0 k.0, times_w x y h.1 k.1)

with_w : (x y : Flow) → Within 3 (with_flow x y)
with_w Nothing y = tt
with_w (Scalar k) y = tt
with_w (Set f) y = cap_within 3 (Set (join f y))
with_w (Tuple f) y = cap_within 3 (Tuple (join f y))
with_w (Map f g) y = cap_within 3 (Set (join (tuple_flow (join f g)) y))
with_w Any y = tt

with_l : (a b x y : Flow) → Lower a x → Lower b y → Lower (with_flow a b) (with_flow x y)
with_l a b x y h k = (with_m a b x y h.1 h.0 k.0, with_w x y)

put_l : (a b c x y z : Flow) → Lower a x → Lower b y → Lower c z → Lower (put_flow a b c) (put_flow x y z)
put_l a b c x y z h k l = (put_m a x b c y z h.0 k.0 l.0, put_w x y z)

puts_l : (a b c x y z : Flow) → Lower a x → Lower b y → Lower c z → Lower (put_images_flow a b c) (put_images_flow x y z)
puts_l a b c x y z h k l = (puts_m a x b c y z l.1 h.0 k.0 l.0, puts_w x y z)

op_l : (o : Operator) (fs gs : List Flow) → LeFlows fs gs → Lower (op_flow o fs) (op_flow o gs)
op_l Add fs gs h = two_l join join_l fs gs h
op_l Modulo fs gs h = two_l join join_l fs gs h
op_l Subtract fs gs h = first_l fs gs h
op_l Less fs gs h = first_l fs gs h
op_l Lessf fs gs h = first_l fs gs h
op_l Slice fs gs h = first_l fs gs h
op_l Tail fs gs h = first_l fs gs h
op_l Multiply fs gs h = two_l times_flow times_l fs gs h
op_l With fs gs h = two_l with_flow with_l fs gs h
op_l Pow fs gs h = one_l set_flow set_l fs gs h
op_l Npow fs gs h = two_l (λ a b. set_flow b) (λ a b x y p q. set_l b y q) fs gs h
op_l Arb fs gs h = one_l el el_l fs gs h
op_l FoldAdd fs gs h = one_l el el_l fs gs h
op_l FoldMultiply fs gs h = one_l el el_l fs gs h
op_l FoldMax fs gs h = one_l el el_l fs gs h
op_l FoldMin fs gs h = one_l el el_l fs gs h
op_l FoldAnd fs gs h = one_l el el_l fs gs h
op_l FoldOr fs gs h = one_l el el_l fs gs h
op_l Get fs gs h = two_l (λ a b. get_flow a) (λ a b x y p q. get_l a x p) fs gs h
op_l Images fs gs h = two_l (λ a b. images_flow a) (λ a b x y p q. images_l a x p) fs gs h
op_l Range fs gs h = one_l images_flow images_l fs gs h
op_l Domain fs gs h = one_l domain_flow domain_l fs gs h
op_l SetOf fs gs h = set_l (all_joined fs) (all_joined gs) (all_l fs gs h)
op_l TupleOf fs gs h = tuple_l (all_joined fs) (all_joined gs) (all_l fs gs h)
op_l Put fs gs h = three_l put_flow put_l fs gs h
op_l PutImages fs gs h = three_l put_images_flow puts_l fs gs h
op_l o fs gs h = (refl, tt)

-- ---- shapes

-- shapes of one kind, with flows that are below
abbrev pub LeShape : Shape → Shape → Type 0
LeShape (Plain f) (Plain g) = Lower f g
LeShape (Constant f) (Constant g) = Lower f g
LeShape (Written f g) (Written h k) = Lower f h × Lower g k
LeShape w v = ⊥

abbrev pub LeShapes : List Shape → List Shape → Type 0
LeShapes [] [] = Unit {0}
LeShapes (w ∷ ws) (v ∷ vs) = LeShape w v × LeShapes ws vs
LeShapes ws vs = ⊥

pub flow_l : (w v : Shape) → LeShape w v → Lower (flow_of w) (flow_of v)
flow_l (Plain f) (Plain g) h = h
flow_l (Constant f) (Constant g) h = h
flow_l (Written f g) (Written i k) h = tuple_l (join f g) (join i k) (join_l f g i k h.0 h.1)
flow_l w v h = absurd h

pub flows_l : (ws vs : List Shape) → LeShapes ws vs → LeFlows (flows ws) (flows vs)
flows_l [] [] h = tt
flows_l (w ∷ ws) (v ∷ vs) h = (flow_l w v h.0, flows_l ws vs h.1)
flows_l [] (v ∷ vs) h = absurd h
flows_l (w ∷ ws) [] h = absurd h

abbrev LePairs : Option (Flow × Flow) → Option (Flow × Flow) → Type 0
LePairs None None = Unit {0}
LePairs (Some p) (Some q) = Lower p.0 q.0 × Lower p.1 q.1
LePairs p q = ⊥

pair_l : (w v : Shape) (o p : Option (Flow × Flow)) → LeShape w v → LePairs o p → LePairs (pair_joined w o) (pair_joined v p)
pair_l (Plain f) (Plain g) o p h k = tt
pair_l (Constant f) (Constant g) o p h k = tt
pair_l (Written f g) (Written x y) None None h k = tt
pair_l (Written f g) (Written x y) (Some o) (Some p) h k = (join_l f o.0 x p.0 h.0 k.0, join_l g o.1 y p.1 h.1 k.1)
pair_l (Written f g) (Written x y) o p h k = absurd k
pair_l w v o p h k = absurd h

pairs_l : (ws vs : List Shape) → LeShapes ws vs → LePairs (all_pairs ws) (all_pairs vs)
pairs_l [] [] h = ((tt, tt), (tt, tt))
pairs_l (w ∷ ws) (v ∷ vs) h = pair_l w v (all_pairs ws) (all_pairs vs) h.0 (pairs_l ws vs h.1)
pairs_l [] (v ∷ vs) h = absurd h
pairs_l (w ∷ ws) [] h = absurd h

map_if_l : (o p : Option (Flow × Flow)) (f g : Flow) → LePairs o p → Lower f g → Lower (map_if o f) (map_if p g)
map_if_l None None f g h k = k
map_if_l (Some o) (Some p) f g h k = map_l o.0 o.1 p.0 p.1 h.0 h.1
map_if_l o p f g h k = absurd h

enumeration_l : (ws vs : List Shape) → LeShapes ws vs → Lower (enumeration_flow ws) (enumeration_flow vs)
enumeration_l [] [] h = (tt, tt)
enumeration_l (w ∷ ws) (v ∷ vs) h =
    map_if_l (all_pairs (w ∷ ws)) (all_pairs (v ∷ vs)) (set_flow (all_joined (flows (w ∷ ws)))) (set_flow (all_joined (flows (v ∷ vs)))) (pairs_l (w ∷ ws) (v ∷ vs) h)
    (set_l (all_joined (flows (w ∷ ws))) (all_joined (flows (v ∷ vs))) (all_l (flows (w ∷ ws)) (flows (v ∷ vs)) (flows_l (w ∷ ws) (v ∷ vs) h)))
enumeration_l [] (v ∷ vs) h = absurd h
enumeration_l (w ∷ ws) [] h = absurd h

plain_l : (ws vs : List Shape) → LeShapes ws vs → Lower (tuple_flow (all_joined (flows ws))) (tuple_flow (all_joined (flows vs)))
plain_l ws vs h = tuple_l (all_joined (flows ws)) (all_joined (flows vs)) (all_l (flows ws) (flows vs) (flows_l ws vs h))

tuple_shape_l : (ws vs : List Shape) → LeShapes ws vs → LeShape (tuple_shape ws) (tuple_shape vs)
tuple_shape_l (Constant f ∷ Constant g ∷ []) (Constant x ∷ Constant y ∷ []) h = (h.0, h.1.0)
tuple_shape_l (Constant f ∷ Constant g ∷ []) (Constant x ∷ Constant y ∷ v ∷ vs) h = absurd h.1.1
tuple_shape_l (Constant f ∷ Constant g ∷ []) (Constant x ∷ []) h = absurd h.1
tuple_shape_l (Constant f ∷ Constant g ∷ []) (Constant x ∷ v ∷ vs) h = absurd h.1.0
tuple_shape_l (Constant f ∷ Constant g ∷ []) [] h = absurd h
tuple_shape_l (Constant f ∷ Constant g ∷ []) (v ∷ vs) h = absurd h.0
tuple_shape_l (Constant f ∷ Constant g ∷ w ∷ ws) (Constant x ∷ Constant y ∷ []) h = absurd h.1.1
tuple_shape_l (Constant f ∷ []) (Constant x ∷ Constant y ∷ []) h = absurd h.1
tuple_shape_l (Constant f ∷ w ∷ ws) (Constant x ∷ Constant y ∷ []) h = absurd h.1.0
tuple_shape_l [] (Constant x ∷ Constant y ∷ []) h = absurd h
tuple_shape_l (w ∷ ws) (Constant x ∷ Constant y ∷ []) h = absurd h.0
tuple_shape_l ws vs h = plain_l ws vs h

pub op_shape_l : (o : Operator) (ws vs : List Shape) → LeShapes ws vs → LeShape (op_shape o ws) (op_shape o vs)
op_shape_l SetOf ws vs h = enumeration_l ws vs h
op_shape_l TupleOf ws vs h = tuple_shape_l ws vs h
op_shape_l o ws vs h = op_l o (flows ws) (flows vs) (flows_l ws vs h)
