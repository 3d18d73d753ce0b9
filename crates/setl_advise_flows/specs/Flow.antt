-- Flows: sets of values, from which the modes of variables are advised. They are a finite lattice.
use Rattle.std.specs.Prelude.{◌≡◌, ℕ, zero, suc, Bool, true, false, cond}

pub data Kind : Type 0 where
  Whole Letters Truth Token : Kind

-- A flow: no value, the scalars of a kind, sets, tuples, maps from one flow to another, or all values.
pub data Flow : Type 0 where
  Nothing : Flow
  Scalar : Kind → Flow
  Set Tuple : Flow → Flow
  Map : (arguments images : Flow) → Flow
  Any : Flow

abbrev pub is_kind : Kind → Kind → Bool
is_kind Whole Whole = true
is_kind Letters Letters = true
is_kind Truth Truth = true
is_kind Token Token = true
is_kind k l = false

-- a flow inside so many places that are left for constructors: one that has no place is `Any`
abbrev pub capped : ℕ → Flow → Flow
capped n Nothing = Nothing
capped n (Scalar k) = Scalar k
capped zero (Set f) = Any
capped zero (Tuple f) = Any
capped zero (Map f g) = Any
capped (suc n) (Set f) = Set (capped n f)
capped (suc n) (Tuple f) = Tuple (capped n f)
capped (suc n) (Map f g) = Map (capped n f) (capped n g)
capped n Any = Any

-- scalars of two kinds
abbrev pub scalars : Kind → Kind → Flow
scalars k l = cond (is_kind k l) (Scalar k) Any

-- Set(f) with Map(g, h), by the join of parts
abbrev pub set_with_map : ℕ → (Flow → Flow → Flow) → Flow → Flow → Flow → Flow
set_with_map n join Nothing g h = Map (capped n g) (capped n h)
set_with_map n join f g h = Set (join (capped n (Tuple (join g h))) f)

-- the join in n + 1 places, by the join of parts
abbrev pub joined_by : ℕ → (Flow → Flow → Flow) → Flow → Flow → Flow
joined_by n join Nothing b = capped (suc n) b
joined_by n join a Nothing = capped (suc n) a
joined_by n join (Scalar k) (Scalar l) = scalars k l
joined_by n join (Set f) (Set g) = Set (join f g)
joined_by n join (Tuple f) (Tuple g) = Tuple (join f g)
joined_by n join (Map f g) (Map h k) = Map (join f h) (join g k)
joined_by n join (Set f) (Map g h) = set_with_map n join f g h
joined_by n join (Map g h) (Set f) = set_with_map n join f g h
joined_by n join a b = Any

-- the join where no constructor has a place
abbrev pub flat : Flow → Flow → Flow
flat Nothing b = capped zero b
flat a Nothing = capped zero a
flat (Scalar k) (Scalar l) = scalars k l
flat a b = Any

-- the join with n places for constructors
abbrev pub joined : ℕ → Flow → Flow → Flow
joined zero a b = flat a b
joined (suc n) a b = joined_by n (joined n) a b

-- the join
abbrev pub join : Flow → Flow → Flow
join a b = joined 3 a b

-- the first flow is below the second
abbrev pub Below : Flow → Flow → Type 0
Below a b = join a b ≡ b

-- flows with a constructor inside three others made `Any`
abbrev pub set_flow : Flow → Flow
set_flow f = capped 3 (Set f)

abbrev pub tuple_flow : Flow → Flow
tuple_flow f = capped 3 (Tuple f)

abbrev pub map_flow : Flow → Flow → Flow
map_flow f g = capped 3 (Map f g)
