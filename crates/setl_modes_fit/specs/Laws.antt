-- A set that isn't empty is tested member by member and neighbour by neighbour.
use Rattle.std.specs.Prelude.{◌≡◌, List, ◌∷◌, None}
use Rattle.setl_value.specs.Datum.{Datum, set_of}
use Rattle.setl_value.specs.Order.{IsRising}
use Rattle.setl_modes.specs.Modes.{Mode}
use Rattle.setl_modes.specs.Fits.{datum_fits}
use Rattle.setl_modes_fit.specs.Neighbours.{member_fits, go_together, all_follow}

abbrev pub NeighboursDecide : Type 0
NeighboursDecide = (m : Mode) (d : Datum) (ds : List Datum) → IsRising (d ∷ ds) → datum_fits m (set_of (d ∷ ds)) ≡ all_follow (member_fits m) (go_together m) None (d ∷ ds)
