use Rattle.std.proofs.Common.{◌≡◌, ◌*◌, ◌<◌, ◌≤◌, ℕ, List, Bool, length, get_or}
use Rattle.setl_live_reads.specs.Chains.{IsLatest}
use Rattle.setl_live_reads.specs.Fronts.{HasFronts}
use Rattle.setl_live_reads.specs.Masks.{IsHanded}
use Rattle.setl_live_reads.proofs.fronts.fill.Given as goal

abbrev pub invariant-window : goal.invariant-window
invariant-window l = record {
  place : (l.low ≤ l.block) × (l.block ≤ l.high);
  sizes : (length l.gens ≡ length l.fn.gens) × (length l.passes ≡ length l.fn.passes);
  end : l.end ≡ get_or l.blocks.firsts.items l.block (length l.nodes);
  latest : IsLatest l.nodes l.row l.end l.bound;
  fronts : (back : List Bool) → IsHanded back (l.row * 64) l.handed → (b : ℕ) → l.block ≤ b → b < l.high → HasFronts l.nodes back l.row l.blocks.firsts.items l.gens l.passes b;
}

abbrev pub decreases-window : goal.decreases-window
decreases-window l = l.block
