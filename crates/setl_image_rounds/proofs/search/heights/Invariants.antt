use Rattle.std.proofs.Common.{◌≡◌, ℕ, ◌<◌, length}
use Rattle.std.specs.Prelude.{get_or}
use Rattle.setl_image_rounds.specs.Falling.{Searching}
use Rattle.setl_image_rounds.proofs.search.heights.Given as goal

abbrev pub invariant-loop-at : goal.invariant-loop-at
invariant-loop-at l = record {
  searching : Searching l.all l.search;
  empty : length l.search.path.items ≡ 0;
  done : (k : ℕ) → k < l.at → 0 < get_or l.search.heights.items k 0;
}
