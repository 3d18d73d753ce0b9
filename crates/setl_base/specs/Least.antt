-- The least member above another among the first blocks.
use Rattle.std.specs.Prelude.{◌≡◌, ℕ, ◌<◌, ◌&&◌, Bool, false, not, Option, Some, None, is_some, IsTrue}
use Rattle.std.specs.Ordering.{is_gt}
use Rattle.setl_value.specs.Datum.{Datum}
use Rattle.setl_value.specs.Order.{datum_cmp}
use Rattle.setl_base.specs.declared.Elt.{Elt}
use Rattle.setl_base.specs.Base.{BaseState, value_of, is_above}

-- e is the block of a member above `after`, and no member above it in the blocks before n is less
pub record IsLeastBlock (b : BaseState) (after : Option Elt) (n : ℕ) (e : Elt) : Type 0 where
  pub value : Datum
  pub living : value_of b e ≡ Some value
  pub above : IsTrue (is_above b after value)
  pub least : (f : Elt) (d : Datum) → f.block < n → value_of b f ≡ Some d → IsTrue (is_above b after d) → is_gt (datum_cmp value d) ≡ false

-- the least member above `after` in the blocks before n
abbrev pub IsLeast : BaseState → Option Elt → ℕ → Option Elt → Type 0
IsLeast b after n None = (f : Elt) (d : Datum) → f.block < n → value_of b f ≡ Some d → is_above b after d ≡ false
IsLeast b after n (Some e) = IsLeastBlock b after n e

-- whether d is above `after` and not above `least`, where that is named
abbrev pub is_between : BaseState → Option Elt → Datum → Option Elt → Bool
is_between b after d least = is_above b after d && not (is_some least && is_above b least d)
