use Rattle.std.proofs.Common.{◌≡◌, ◌<◌, ◌≤◌, ◌-◌, ◌⊎◌, map, length}
use Rattle.setl_value_pages.specs.Pages.{joined, rank_in}
use Rattle.setl_value.specs.code.DatumOf.{page}
use Rattle.setl_value.specs.code.Places.{IsBetween}
use Rattle.setl_value.specs.code.Sought.{sought}
use Rattle.setl_value.proofs.places.page_in.Given as goal

abbrev pub invariant-loop-high : goal.invariant-loop-high
invariant-loop-high l =
    (l.low ≤ l.high) × (l.high ≤ length l.pages) × ((l.low < l.high) ⊎ (length l.pages ≡ 0)) × IsBetween (sought l.what) (joined (map page l.pages)) (rank_in (map page l.pages) l.low 0) (rank_in (map page l.pages) l.high 0)

abbrev pub decreases-loop-high : goal.decreases-loop-high
decreases-loop-high l = l.high - l.low
