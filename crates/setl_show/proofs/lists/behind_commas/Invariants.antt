use Rattle.std.proofs.Common.{◌≡◌, drop, map}
use Rattle.setl_tree.specs.Canonical as spec
use Rattle.setl_show.specs.Text.{with_tokens}
use Rattle.setl_show.proofs.lists.behind_commas.Given as goal

abbrev pub invariant-loop-part : goal.invariant-loop-part
invariant-loop-part g l = with_tokens l.to (spec.behind_commas (map g.T.Part.tokens (drop l.part-index l.parts))) ≡ with_tokens l.initial.to (spec.behind_commas (map g.T.Part.tokens l.parts))
