-- Maps are sets of pairs, over the rising lists of their members. A pair is a tuple of length two whose first component
-- isn't `om`.
use Rattle.std.specs.Prelude.{◌≡◌, ℕ, ◌+◌, Bool, false, true, List, [], ◌∷◌, is_some, cond, Option, Some, None, refl, pos}
use Rattle.std.specs.List.{filter, filter_map, list_all}
use Rattle.std.specs.Ordering.{is_eq}
use Rattle.setl_value.specs.Datum.{Datum, int, tuple, no_part, om_then, part_then}
use Rattle.setl_value.specs.Order.{datum_cmp}

-- the tuple of x and y
abbrev pub pair : Datum → Datum → Datum
pair x y = tuple (part_then x (part_then y no_part))

-- the two parts of a pair
abbrev pub pair_parts : Datum → Option (Datum × Datum)
pair_parts (tuple (part_then x (part_then y no_part))) = Some (x, y)
pair_parts d = None

-- a map is a set of pairs
abbrev pub is_map : List Datum → Bool
is_map ds = list_all (λ d. is_some (pair_parts d)) ds

-- how many of these are no pairs
abbrev pub other_count : List Datum → ℕ
other_count [] = 0
other_count (d ∷ ds) = cond (is_some (pair_parts d)) 0 1 + other_count ds

-- whether a place of a tuple has a component that isn't `om`
abbrev pub is_there : Option (Option Datum) → Bool
is_there None = false
is_there (Some p) = is_some p

abbrev pub first_of : Option (Datum × Datum) → Option Datum
first_of None = None
first_of (Some p) = Some p.0

abbrev pub second_of : Option (Datum × Datum) → Option Datum
second_of None = None
second_of (Some p) = Some p.1

-- whether this is x
abbrev pub is_datum : Datum → Option Datum → Bool
is_datum x None = false
is_datum x (Some a) = is_eq (datum_cmp x a)

-- the pairs of f whose first part is x
abbrev pub pairs_at : Datum → List Datum → List Datum
pairs_at x f = filter (λ d. is_datum x (first_of (pair_parts d))) f

-- the rising list of all y with [x, y] in f
abbrev pub images : Datum → List Datum → List Datum
images x f = filter_map (λ d. second_of (pair_parts d)) (pairs_at x f)

-- ---- worked rows, with {[1 5] [2 5] [2 7]}
abbrev one : Datum
one = int (pos 1)

abbrev two : Datum
two = int (pos 2)

abbrev five : Datum
five = int (pos 5)

abbrev seven : Datum
seven = int (pos 7)

abbrev three_pairs : List Datum
three_pairs = pair one five ∷ pair two five ∷ pair two seven ∷ []

several_images : images two three_pairs ≡ five ∷ seven ∷ []
several_images = refl

no_image : images five three_pairs ≡ []
no_image = refl

a_map : is_map three_pairs ≡ true
a_map = refl

-- `[om 5]` is no pair
no_map : is_map (tuple (om_then (part_then five no_part)) ∷ []) ≡ false
no_map = refl
