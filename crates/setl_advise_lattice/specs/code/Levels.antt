-- The flows and shapes that values stand for.
use Rattle.std.specs.Prelude.{List, map}
use Rattle.setl_advise_flows.specs.Flow as plain
use Rattle.setl_advise_flows.specs.Operators as shapes
use Rattle.setl_advise_lattice.specs.declared.level.Kind.{Kind}
use Rattle.setl_advise_lattice.specs.declared.level.Kind.TheVariants as kind
use Rattle.setl_advise_lattice.specs.declared.level.Flat.{Flat}
use Rattle.setl_advise_lattice.specs.declared.level.Flat.TheVariants as flat
use Rattle.setl_advise_lattice.specs.declared.level.Level.{Level}
use Rattle.setl_advise_lattice.specs.declared.level.Level.TheVariants as level
use Rattle.setl_advise_lattice.specs.declared.shape.Shape.{Shape}
use Rattle.setl_advise_lattice.specs.declared.shape.Shape.TheVariants as shape

abbrev pub kind_of : Kind → plain.Kind
kind_of kind.Whole = plain.Whole
kind_of kind.Letters = plain.Letters
kind_of kind.Truth = plain.Truth
kind_of kind.Token = plain.Token

abbrev pub flat_flow : Flat → plain.Flow
flat_flow flat.Nothing = plain.Nothing
flat_flow (flat.Scalar k) = plain.Scalar (kind_of k)
flat_flow flat.Any = plain.Any

-- by the flows of the parts
abbrev pub level_flow : {P : Type 0} → (P → plain.Flow) → Level P → plain.Flow
level_flow part level.Nothing = plain.Nothing
level_flow part (level.Scalar k) = plain.Scalar (kind_of k)
level_flow part (level.Set f) = plain.Set (part f)
level_flow part (level.Tuple f) = plain.Tuple (part f)
level_flow part (level.Map f g) = plain.Map (part f) (part g)
level_flow part level.Any = plain.Any

abbrev pub middle_flow : Level (Level Flat) → plain.Flow
middle_flow f = level_flow (level_flow flat_flow) f

abbrev pub flow_of : Level (Level (Level Flat)) → plain.Flow
flow_of f = level_flow middle_flow f

abbrev pub pair_of : Level (Level (Level Flat)) × Level (Level (Level Flat)) → plain.Flow × plain.Flow
pair_of p = (flow_of p.0, flow_of p.1)

abbrev pub shape_of : Shape → shapes.Shape
shape_of (shape.Plain f) = shapes.Plain (flow_of f)
shape_of (shape.Constant f) = shapes.Constant (flow_of f)
shape_of (shape.Written f g) = shapes.Written (flow_of f) (flow_of g)

abbrev pub shapes_of : List Shape → List shapes.Shape
shapes_of ws = map shape_of ws
