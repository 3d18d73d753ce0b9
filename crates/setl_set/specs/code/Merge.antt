-- Merging two sets: which of the data of either are kept.
use Rattle.std.specs.Prelude.{◌≡◌, Bool, true, false, List, [], ◌∷◌, Option, Some, None}
use Rattle.setl_value.specs.Datum.{Datum}
use Rattle.setl_value.specs.code.DatumOf.{datum}
use Rattle.setl_value.specs.declared.Value.{Value}
use Rattle.setl_value.specs.Order.{IsRising}
use Rattle.setl_set.specs.declared.merge.Keep.{Keep}
use Rattle.std.specs.Borrow.{Bor}
use Rattle.setl_set.specs.Sets.{has_datum}

-- whether a datum is kept, by whether it is in the left set and whether it is in the right one
abbrev pub is_kept : Keep → Bool → Bool → Bool
is_kept keep true true = keep.both
is_kept keep true false = keep.left
is_kept keep false true = keep.right
is_kept keep false false = false

-- the list, if it is kept
abbrev pub kept_if : Bool → List Datum → List Datum
kept_if true ds = ds
kept_if false ds = []

-- the members that are left, where an iterator gave the first of them and has the others
abbrev pub front : Option (Bor Value) → List Datum → List Datum
front None rest = []
front (Some v) rest = datum v.now ∷ rest

-- ds is the set of the data of xs and ys that are kept
pub record IsMerge (keep : Keep) (xs ys ds : List Datum) : Type 0 where
  pub rising : IsRising ds
  pub members : (d : Datum) → has_datum d ds ≡ is_kept keep (has_datum d xs) (has_datum d ys)
