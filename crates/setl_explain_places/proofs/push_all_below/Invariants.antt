use Rattle.std.proofs.Common.{◌≡◌, ◌++◌, drop, flat_map}
use Rattle.setl_explain_places.specs.Places.{below}
use Rattle.setl_explain_places.proofs.push_all_below.Given as goal

abbrev pub invariant-loop-b : goal.invariant-loop-b
invariant-loop-b l = l.into.items ++ flat_map below (drop l.b-index l.bytes) ≡ l.fn.into.items ++ flat_map below l.bytes
