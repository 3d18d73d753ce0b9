use Rattle.std.proofs.Common.{◌≡◌, drop, map}
use Rattle.setl_tree.specs.Canonical as spec
use Rattle.setl_show.specs.Text.{with_tokens}
use Rattle.setl_show.proofs.modes.repr_lines.Given as goal

abbrev pub invariant-loop-x : goal.invariant-loop-x
invariant-loop-x l = with_tokens l.to (spec.all_of (map spec.line_tokens (drop l.x-index l.xs))) ≡ with_tokens l.initial.to (spec.all_of (map spec.line_tokens l.xs))
