-- Where the pairs of a point stand in the rising list of a map's pairs.
use Rattle.std.specs.Prelude.{◌≡◌, ℕ, ◌≤◌, Bool, true, false, List, [], ◌∷◌, length, take, drop, Option, Some, None, if◌then◌else◌}
use Rattle.std.specs.List.{AllByRecursion}
use Rattle.std.specs.declared.cmp.Ordering.{Ordering}
use Rattle.std.specs.declared.cmp.Ordering.TheVariants.{Less, Equal, Greater}
use Rattle.std.specs.Borrow.{Bor}
use Rattle.setl_value.specs.declared.Value.{Value}
use Rattle.setl_value.specs.Datum.{Datum, depth}
use Rattle.setl_value.specs.code.DatumOf.{datum}
use Rattle.setl_value.specs.Order.{datum_cmp}
use Rattle.setl_value.specs.Pairs.{pair, pair_parts, first_of, second_of, is_datum}
use Rattle.setl_value.specs.code.Places as place
use Rattle.setl_value.specs.code.Places.{point}

-- the data of two values
abbrev pub pair_data : Bor Value × Bor Value → Datum × Datum
pair_data p = (datum p.0.now, datum p.1.now)

-- whether this is a pair of x
abbrev pub is_at : Datum → Datum → Bool
is_at x d = is_datum x (first_of (pair_parts d))

-- whether the first of these is a pair of x
abbrev pub begins : Datum → List Datum → Bool
begins x [] = false
begins x (d ∷ ds) = is_at x d

-- whether a first part is below x, or is x where `past` holds, by how it stands to x
abbrev pub is_before : Bool → Ordering → Bool
is_before past Less = true
is_before past Equal = past
is_before past Greater = false

abbrev pub first_before : Bool → Datum → Option (Datum × Datum) → Bool
first_before past x None = false
first_before past x (Some p) = is_before past (datum_cmp p.0 x)

abbrev pub comes_before : Bool → Datum → Datum → Bool
comes_before past x d = first_before past x (pair_parts d)

-- the first i pairs are those that come before
pub record IsBound (past : Bool) (x : Datum) (ds : List Datum) (i : ℕ) : Type 0 where
  pub within : i ≤ length ds
  pub before : AllByRecursion (λ d. comes_before past x d ≡ true) (take i ds)
  pub after : AllByRecursion (λ d. comes_before past x d ≡ false) (drop i ds)

-- the pairs of x begin behind the first i members, or else would stand there
abbrev pub BeginsAt : Datum → List Datum → ℕ → Type 0
BeginsAt x ds i = place.IsBound (point x) ds i

-- the first part of a pair, or else the second
abbrev pub part_at : Bool → Datum → Option Datum
part_at first d = if first then first_of (pair_parts d) else second_of (pair_parts d)

-- the depth of the pair of x and y, and 0 where y is `om`
abbrev pub pair_depth : Datum → Option Datum → ℕ
pair_depth x None = 0
pair_depth x (Some y) = depth (pair x y)
