use Rattle.std.proofs.Common.{◌≡◌, ◌/◌, ◌<◌, ℕ, length, Some}
use Rattle.std.specs.Prelude.{slice_get}
use Rattle.setl_live_reads.specs.declared.node.Access.TheVariants.{Read}
use Rattle.setl_live_reads.specs.declared.node.Node.{Node}
use Rattle.setl_live_reads.specs.Paths.{IsRight}
use Rattle.setl_live_reads.specs.Masks.{AllEmpty}
use Rattle.setl_live_reads.proofs.row.mark_rows.Given as goal

abbrev pub invariant-rows : goal.invariant-rows
invariant-rows l = record {
  words : (length l.gens ≡ length l.fn.gens) × (length l.passes ≡ length l.fn.passes);
  masks : length l.masks ≡ length l.fn.masks;
  marks : length l.marks ≡ length l.fn.marks;
  empty : AllEmpty l.masks;
  right : (at x : ℕ) (node : Node) → slice_get l.nodes at ≡ Some node → node.access ≡ Read x → x / 64 < l.row → IsRight l.nodes l.back l.marks at x;
}
