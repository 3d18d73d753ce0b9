-- The flows of operators over the flows of their operands.
use Rattle.std.specs.Prelude.{ℕ, List, [], ◌∷◌, Option, Some, None}
use Rattle.setl_value.specs.Datum.{Datum}
use Rattle.setl_value.specs.Pairs.{pair_parts}
use Rattle.setl_operators_table.specs.Operators.{op_of}
use Rattle.setl_operators_table.specs.Outcome.{Outcome, Gives, Fails, Overspends}
use Rattle.setl_operators_table.specs.declared.Operator.{Operator}
use Rattle.setl_operators_table.specs.declared.Operator.TheVariants.{Negate, Abs, Size, Pow, Domain, Range, Arb, Str, FoldAdd, FoldMultiply, FoldMax, FoldMin, FoldAnd, FoldOr, Add, Subtract, Multiply, Power, Divide, Modulo, Max, Min, With, Less, Lessf, Npow, Get, Images, Slice, Tail, SetOf, TupleOf, SetRange, TupleRange, SetStep, TupleStep, Put, PutImages}
use Rattle.setl_advise_flows.specs.Flow.{Whole, Letters, Truth, Flow, Nothing, Scalar, Set, Tuple, Map, Any, join, set_flow, tuple_flow, map_flow}
use Rattle.setl_advise_flows.specs.Has.{HasPair, Has, HasAt}

-- the flow of the members, and of the components
abbrev pub el : Flow → Flow
el (Set h) = h
el (Tuple h) = h
el (Map f g) = tuple_flow (join f g)
el (Scalar Letters) = Scalar Letters
el Nothing = Nothing
el f = Any

abbrev pub part : Flow → Flow
part (Tuple h) = h
part Nothing = Nothing
part f = Any

-- ---- shapes of operands

-- What is known of an operand: its flow; or it is written as a literal, or as a pair of literals.
pub data Shape : Type 0 where
  Plain Constant : Flow → Shape
  Written : Flow → Flow → Shape

abbrev pub flow_of : Shape → Flow
flow_of (Plain f) = f
flow_of (Constant f) = f
flow_of (Written f g) = tuple_flow (join f g)

abbrev pub HasShape : Shape → Option Datum → Type 0
HasShape (Plain f) v = HasAt f v
HasShape (Constant f) None = ⊥
HasShape (Constant f) (Some d) = Has f d
HasShape (Written f g) None = ⊥
HasShape (Written f g) (Some d) = HasPair (Has f) (Has g) (pair_parts d)

-- operands are of these shapes, in their order
abbrev pub HaveShapes : List Shape → List (Option Datum) → Type 0
HaveShapes [] [] = Unit {0}
HaveShapes (w ∷ ws) (v ∷ vs) = HasShape w v × HaveShapes ws vs
HaveShapes ws vs = ⊥

abbrev pub Have : List Flow → List (Option Datum) → Type 0
Have [] [] = Unit {0}
Have (f ∷ fs) (v ∷ vs) = HasAt f v × Have fs vs
Have fs vs = ⊥

-- what an operation gives is in a flow
abbrev pub OutcomeIn : Flow → Outcome → Type 0
OutcomeIn f (Gives v n) = HasAt f v
OutcomeIn f (Fails e) = Unit {0}
OutcomeIn f Overspends = Unit {0}

-- ---- flows of operators

abbrev pub one_flow : (Flow → Flow) → List Flow → Flow
one_flow t (a ∷ []) = t a
one_flow t fs = Any

abbrev pub two_flows : (Flow → Flow → Flow) → List Flow → Flow
two_flows t (a ∷ b ∷ []) = t a b
two_flows t fs = Any

abbrev pub first_flow : List Flow → Flow
first_flow (a ∷ fs) = a
first_flow [] = Any

abbrev pub all_joined : List Flow → Flow
all_joined [] = Nothing
all_joined (f ∷ fs) = join f (all_joined fs)

abbrev pub times_flow : Flow → Flow → Flow
times_flow (Scalar Whole) b = b
times_flow a b = a

abbrev pub with_flow : Flow → Flow → Flow
with_flow (Set f) b = set_flow (join f b)
with_flow (Tuple f) b = tuple_flow (join f b)
with_flow (Map f g) b = set_flow (join (tuple_flow (join f g)) b)
with_flow Nothing b = Nothing
with_flow a b = Any

-- f(x)
abbrev pub get_flow : Flow → Flow
get_flow (Scalar Letters) = Scalar Letters
get_flow (Tuple h) = h
get_flow (Map f g) = g
get_flow (Set (Tuple m)) = m
get_flow (Set Nothing) = Nothing
get_flow Nothing = Nothing
get_flow f = Any

-- f{x} and the range
abbrev pub images_flow : Flow → Flow
images_flow (Map f g) = set_flow g
images_flow (Set (Tuple m)) = set_flow m
images_flow (Set Nothing) = Set Nothing
images_flow Nothing = Nothing
images_flow f = Any

abbrev pub domain_flow : Flow → Flow
domain_flow (Map f g) = set_flow f
domain_flow f = images_flow f

-- the whole after `f(x) := y`
abbrev pub put_flow : Flow → Flow → Flow → Flow
put_flow (Map f g) x y = map_flow (join f x) (join g y)
put_flow (Set Nothing) x y = map_flow x y
put_flow (Set h) x y = set_flow (join h (tuple_flow (join x y)))
put_flow (Tuple h) x y = tuple_flow (join h y)
put_flow Nothing x y = Nothing
put_flow f x y = Any

-- the whole after `f{x} := y`
abbrev pub put_images_flow : Flow → Flow → Flow → Flow
put_images_flow (Tuple h) x y = Any
put_images_flow f x y = put_flow f x (el y)

abbrev pub three_flows : (Flow → Flow → Flow → Flow) → List Flow → Flow
three_flows t (a ∷ b ∷ c ∷ []) = t a b c
three_flows t fs = Any

abbrev pub op_flow : Operator → List Flow → Flow
op_flow Negate fs = Scalar Whole
op_flow Abs fs = Scalar Whole
op_flow Size fs = Scalar Whole
op_flow Power fs = Scalar Whole
op_flow Divide fs = Scalar Whole
op_flow Max fs = Scalar Whole
op_flow Min fs = Scalar Whole
op_flow Str fs = Scalar Letters
op_flow Add fs = two_flows join fs
op_flow Modulo fs = two_flows join fs
op_flow Subtract fs = first_flow fs
op_flow Less fs = first_flow fs
op_flow Lessf fs = first_flow fs
op_flow Slice fs = first_flow fs
op_flow Tail fs = first_flow fs
op_flow Multiply fs = two_flows times_flow fs
op_flow With fs = two_flows with_flow fs
op_flow Pow fs = one_flow set_flow fs
op_flow Npow fs = two_flows (λ a b. set_flow b) fs
op_flow Arb fs = one_flow el fs
op_flow FoldAdd fs = one_flow el fs
op_flow FoldMultiply fs = one_flow el fs
op_flow FoldMax fs = one_flow el fs
op_flow FoldMin fs = one_flow el fs
op_flow FoldAnd fs = one_flow el fs
op_flow FoldOr fs = one_flow el fs
op_flow Get fs = two_flows (λ a b. get_flow a) fs
op_flow Images fs = two_flows (λ a b. images_flow a) fs
op_flow Range fs = one_flow images_flow fs
op_flow Domain fs = one_flow domain_flow fs
op_flow SetOf fs = set_flow (all_joined fs)
op_flow TupleOf fs = tuple_flow (all_joined fs)
op_flow SetRange fs = Set (Scalar Whole)
op_flow SetStep fs = Set (Scalar Whole)
op_flow TupleRange fs = Tuple (Scalar Whole)
op_flow TupleStep fs = Tuple (Scalar Whole)
op_flow Put fs = three_flows put_flow fs
op_flow PutImages fs = three_flows put_images_flow fs
op_flow o fs = Scalar Truth

abbrev pub flows : List Shape → List Flow
flows [] = []
flows (w ∷ ws) = flow_of w ∷ flows ws

-- the flows of the parts where all are written as pairs
abbrev pub pair_joined : Shape → Option (Flow × Flow) → Option (Flow × Flow)
pair_joined (Written f g) (Some p) = Some (join f p.0, join g p.1)
pair_joined w p = None

abbrev pub all_pairs : List Shape → Option (Flow × Flow)
all_pairs [] = Some (Nothing, Nothing)
all_pairs (w ∷ ws) = pair_joined w (all_pairs ws)

abbrev pub map_if : Option (Flow × Flow) → Flow → Flow
map_if None f = f
map_if (Some p) f = map_flow p.0 p.1

-- a set that is written with at least one member, each as a pair of literals, is a map
abbrev pub enumeration_flow : List Shape → Flow
enumeration_flow [] = Set Nothing
enumeration_flow (w ∷ ws) = map_if (all_pairs (w ∷ ws)) (set_flow (all_joined (flows (w ∷ ws))))

abbrev pub tuple_shape : List Shape → Shape
tuple_shape (Constant f ∷ Constant g ∷ []) = Written f g
tuple_shape ws = Plain (tuple_flow (all_joined (flows ws)))

-- the shape of an operator over operands of these shapes
abbrev pub op_shape : Operator → List Shape → Shape
op_shape SetOf ws = Plain (enumeration_flow ws)
op_shape TupleOf ws = tuple_shape ws
op_shape o ws = Plain (op_flow o (flows ws))

-- what an operation gives is of a shape
abbrev pub OutcomeShape : Shape → Outcome → Type 0
OutcomeShape w (Gives v n) = HasShape w v
OutcomeShape w (Fails e) = Unit {0}
OutcomeShape w Overspends = Unit {0}

-- each operator gives what its flow has
abbrev pub OperatorsIn : Type 0
OperatorsIn = (o : Operator) (ws : List Shape) (vs : List (Option Datum)) (left : ℕ) → HaveShapes ws vs → OutcomeShape (op_shape o ws) (op_of o vs left)
