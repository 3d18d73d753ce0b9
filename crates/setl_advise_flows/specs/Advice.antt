-- The modes that are advised for flows.
use Rattle.std.specs.Prelude.{ℕ, Option, Some, None}
use Rattle.setl_modes.specs.declared.mode.Form.TheVariants as form
use Rattle.setl_modes.specs.Modes.{Mode, General, Integers, Strings, Booleans, Atoms, Elements, Sets, Tuples, MultiMaps}
use Rattle.setl_advise_flows.specs.Flow.{Kind, Whole, Letters, Truth, Token, Flow, Nothing, Scalar, Set, Tuple, Map, Any}

abbrev pub kind_mode : Kind → Mode
kind_mode Whole = Integers
kind_mode Letters = Strings
kind_mode Truth = Booleans
kind_mode Token = Atoms

-- the mode without bases
abbrev pub plain_mode : Flow → Mode
plain_mode Nothing = General
plain_mode (Scalar k) = kind_mode k
plain_mode (Set f) = Sets form.Plain (plain_mode f)
plain_mode (Tuple f) = Tuples (plain_mode f)
plain_mode (Map f g) = MultiMaps form.Plain (plain_mode f) (Sets form.Plain (plain_mode g))
plain_mode Any = General

-- the numbers of the bases of the integers, the strings and the atoms
abbrev pub Bases : Type 0
Bases = Kind → ℕ

-- the mode of the members of a base; booleans have none
abbrev pub member_mode : Bases → Kind → Option Mode
member_mode b Truth = None
member_mode b k = Some (Elements (b k) (kind_mode k))

abbrev pub set_mode : Option Mode → Flow → Mode
set_mode None f = plain_mode (Set f)
set_mode (Some m) f = Sets form.Remote m

abbrev pub tuple_mode : Option Mode → Flow → Mode
tuple_mode None f = plain_mode (Tuple f)
tuple_mode (Some m) f = Tuples m

abbrev pub image_mode : Bases → Flow → Mode
image_mode b (Scalar Whole) = Sets form.Sparse (Elements (b Whole) Integers)
image_mode b (Scalar Letters) = Sets form.Sparse (Elements (b Letters) Strings)
image_mode b (Scalar Token) = Sets form.Sparse (Elements (b Token) Atoms)
image_mode b g = Sets form.Plain (plain_mode g)

abbrev pub map_mode : Bases → Option Mode → Flow → Flow → Mode
map_mode b None f g = plain_mode (Map f g)
map_mode b (Some m) f g = MultiMaps form.Sparse m (image_mode b g)

-- the mode of a variable with this flow; `None` where it isn't declared
abbrev pub advised : Bases → Flow → Option Mode
advised b Nothing = None
advised b Any = None
advised b (Set (Scalar k)) = Some (set_mode (member_mode b k) (Scalar k))
advised b (Tuple (Scalar k)) = Some (tuple_mode (member_mode b k) (Scalar k))
advised b (Map (Scalar k) g) = Some (map_mode b (member_mode b k) (Scalar k) g)
advised b f = Some (plain_mode f)
