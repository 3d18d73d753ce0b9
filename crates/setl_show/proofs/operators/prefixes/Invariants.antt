use Rattle.std.proofs.Common.{◌≡◌, drop}
use Rattle.setl_tree.specs.Canonical.{all_prefixes}
use Rattle.setl_show.specs.Text.{with_tokens}
use Rattle.setl_show.proofs.operators.prefixes.Given as goal

abbrev pub invariant-loop-p : goal.invariant-loop-p
invariant-loop-p l = with_tokens l.to (all_prefixes (drop l.p-index l.prefixes)) ≡ with_tokens l.initial.to (all_prefixes l.prefixes)
