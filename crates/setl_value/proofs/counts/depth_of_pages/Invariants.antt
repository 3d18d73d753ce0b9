use Rattle.std.specs.Prelude.{◌≡◌, ◌≤◌, length, map, max}
use Rattle.setl_value_pages.specs.Pages.{joined}
use Rattle.setl_value.specs.Datum.{depth, set_of}
use Rattle.setl_value.specs.code.DatumOf.{page}
use Rattle.setl_value.proofs.counts.depth_of_pages.Given as goal

abbrev pub invariant-loop-last : goal.invariant-loop-last
invariant-loop-last l = (max l.deepest (depth (set_of (joined (map page l.rest)))) ≡ depth (set_of (joined (map page l.pages)))) × (1 ≤ l.deepest)

abbrev pub decreases-loop-last : goal.decreases-loop-last
decreases-loop-last l = length l.rest
