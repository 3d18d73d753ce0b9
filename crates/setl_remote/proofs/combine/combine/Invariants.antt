use Rattle.std.proofs.Common.{◌≡◌, ◌≤◌, length, vec_capacity}
use Rattle.setl_remote.proofs.Combining.{IsMadeOf}
use Rattle.setl_remote.proofs.combine.combine.Given as goal

abbrev pub invariant-loop-i : goal.invariant-loop-i
invariant-loop-i l = (length l.words.items ≡ l.i) × (l.len ≤ vec_capacity l.words) × IsMadeOf l.operation l.x l.y l.words.items
