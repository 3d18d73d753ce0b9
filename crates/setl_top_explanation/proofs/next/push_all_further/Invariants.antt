use Rattle.std.proofs.Common.{◌≡◌, ◌++◌, drop, flat_map}
use Rattle.setl_top_explanation.specs.Next.{further_text}
use Rattle.setl_top_explanation.proofs.next.push_all_further.Given as goal

abbrev pub invariant-loop-kind : goal.invariant-loop-kind
invariant-loop-kind l = l.into.items ++ flat_map further_text (drop l.kind-index l.kinds) ≡ l.fn.into.items ++ flat_map further_text l.kinds
