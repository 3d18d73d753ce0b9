-- Values that may be members of a base or not, and their numbers in it.
use Rattle.std.specs.Prelude.{◌≡◌, ◌||◌, ℕ, Bool, true, false, List, [], Option, Some, None, is_some}
use Rattle.std.specs.List.{filter, filter_map}
use Rattle.std.specs.Ordering.{nat_cmp}
use Rattle.std.specs.FinSet as set
use Rattle.setl_value.specs.Datum.{Datum}
use Rattle.setl_value.specs.Pairs.{first_of, images, is_datum, pair_parts}
use Rattle.setl_set.specs.Sets.{has_datum}
use Rattle.setl_base.specs.Base.{BaseState}
use Rattle.setl_rep_forms.specs.Stands.{value_at, AreLiving}

-- the value itself, or the first part of a pair
abbrev pub key : (first : Bool) → Datum → Option Datum
key false d = Some d
key true d = first_of (pair_parts d)

abbrev pub keys : (first : Bool) → List Datum → List Datum
keys first ds = filter_map (key first) ds

-- the numbers are those of the members that are among these
pub record AreNumbersOf (b : BaseState) (ns : set.FinSet nat_cmp) (ds : List Datum) : Type 0 where
  pub living : AreLiving b ns
  pub exact : (n : ℕ) (d : Datum) → value_at b n ≡ Some d → set.contains ns n ≡ has_datum d ds

-- the numbers with that of one value more, if there is a value and it is a member
pub record IsWith (b : BaseState) (o : Option Datum) (old new : set.FinSet nat_cmp) : Type 0 where
  pub living : AreLiving b old → AreLiving b new
  pub exact : (n : ℕ) (d : Datum) → value_at b n ≡ Some d → set.contains new n ≡ (is_datum d o || set.contains old n)

-- the pairs among these
abbrev pub pairs_in : List Datum → List Datum
pairs_in ds = filter (λ d. is_some (pair_parts d)) ds

-- the images of a point, if there is one
abbrev pub images_at : Option Datum → List Datum → List Datum
images_at None f = []
images_at (Some x) f = images x f
