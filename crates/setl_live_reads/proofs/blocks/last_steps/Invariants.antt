use Rattle.std.proofs.Common.{◌≡◌, ℕ, length, Some}
use Rattle.std.specs.Prelude.{slice_get}
use Rattle.setl_live_reads.specs.declared.node.Node.{Node}
use Rattle.setl_live_reads.specs.Blocks.{IsLast}
use Rattle.setl_live_reads.proofs.blocks.last_steps.Given as goal

abbrev pub invariant-places : goal.invariant-places
invariant-places l = record {
  sizes : length l.lasts.items ≡ l.block;
  lasts : (b : ℕ) (last : Node) → slice_get l.lasts.items b ≡ Some last → IsLast l.nodes l.firsts l.blocks b last;
}
