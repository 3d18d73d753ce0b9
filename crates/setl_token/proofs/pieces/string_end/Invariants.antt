use Rattle.std.proofs.Common.{◌≡◌, ◌-◌, ◌≤◌, ◌<◌, length, drop}
use Rattle.setl_token.specs.code.Pieces.{string_end}
use Rattle.setl_token.proofs.pieces.string_end.Given as goal

abbrev pub invariant-loop-at : goal.invariant-loop-at
invariant-loop-at l = (string_end l.at (drop l.at l.z) ≡ string_end 1 (drop 1 l.z)) × (0 < l.at) × (l.at ≤ length l.z)

abbrev pub decreases-loop-at : goal.decreases-loop-at
decreases-loop-at l = length l.z - l.at
