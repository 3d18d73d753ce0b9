use Rattle.std.proofs.Common.{◌≡◌, ℕ, ◌<◌, true, false}
use Rattle.std.specs.Prelude.{get_or}
use Rattle.setl_image_rounds.specs.Falling.{Searching, room}
use Rattle.setl_image_rounds.proofs.search.climb.Given as goal

abbrev pub invariant-steps : goal.invariant-steps
invariant-steps l = record {
  searching : Searching l.all l.search;
  entered : get_or l.search.entered.items l.from false ≡ true;
  stay : (at : ℕ) → 0 < get_or l.fn.search.heights.items at 0 → 0 < get_or l.search.heights.items at 0;
}

abbrev pub decreases-steps : goal.decreases-steps
decreases-steps l = room l.search
