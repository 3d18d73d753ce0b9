use Rattle.std.proofs.Common.{◌≡◌, ◌<◌, ◌≤◌, ◌+◌, ◌-◌, ◌⊎◌, map, length}
use Rattle.setl_value.specs.code.DatumOf.{page}
use Rattle.setl_value_pages.specs.Pages.{rank_in}
use Rattle.setl_value.proofs.body.place_behind.Given as goal

abbrev pub invariant-loop-index : goal.invariant-loop-index
invariant-loop-index l =
    (l.page ≤ length (map page l.list) - 1) × (rank_in (map page l.list) l.page l.index ≡ rank_in (map page l.list) l.fn.c.page l.fn.c.index + l.fn.count)
    × ((l.fn.c.page < l.page) ⊎ ((l.fn.c.page ≡ l.page) × (l.fn.c.index ≤ l.index)))

abbrev pub decreases-loop-index : goal.decreases-loop-index
decreases-loop-index l = l.index
