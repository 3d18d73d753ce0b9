use Rattle.std.proofs.Common.{◌≡◌, ◌*◌, ◌/◌, ◌<◌, ◌≤◌, ℕ, List, Bool, false, length, get_or, Some}
use Rattle.std.specs.Prelude.{slice_get}
use Rattle.setl_live_reads.specs.declared.node.Access.TheVariants.{Read}
use Rattle.setl_live_reads.specs.declared.node.Node.{Node}
use Rattle.setl_live_reads.specs.Paths.{IsRight}
use Rattle.setl_live_reads.specs.Chains.{IsLatest}
use Rattle.setl_live_reads.specs.Masks.{IsHanded, TellsReads}
use Rattle.setl_live_reads.proofs.marks.mark.Given as goal

abbrev pub invariant-window : goal.invariant-window
invariant-window l = record {
  place : (l.low ≤ l.block) × (l.block ≤ l.high);
  sizes : length l.marks ≡ length l.fn.marks;
  latest : IsLatest l.nodes l.row (get_or l.blocks.firsts.items l.block (length l.nodes)) l.bound;
  right : (back : List Bool) → IsHanded back (l.row * 64) l.handed → TellsReads l.nodes back l.row l.blocks.firsts.items l.blocks.lasts.items 0 (length l.blocks.firsts.items) l.masks → (at x : ℕ) (node : Node) → get_or l.blocks.firsts.items l.block (length l.nodes) ≤ at → at < get_or l.blocks.firsts.items l.high (length l.nodes) → slice_get l.nodes at ≡ Some node → node.access ≡ Read x → x / 64 ≡ l.row → IsRight l.nodes back l.marks at x;
  kept : (at x : ℕ) (node : Node) → slice_get l.nodes at ≡ Some node → node.access ≡ Read x → (x / 64 ≡ l.row → ⊥) → get_or l.marks at false ≡ get_or l.fn.marks at false;
}

abbrev pub decreases-window : goal.decreases-window
decreases-window l = l.block
