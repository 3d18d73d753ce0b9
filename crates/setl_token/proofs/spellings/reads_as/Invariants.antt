use Rattle.std.proofs.Common.{◌≡◌, ℕ, ◌<◌, get_or}
use Rattle.setl_token.specs.Bytes.{lower}
use Rattle.setl_token.proofs.spellings.reads_as.Given as goal

abbrev pub invariant-loop-i : goal.invariant-loop-i
invariant-loop-i l = (k : ℕ) → k < l.i → get_or (lower l.text) k 0 ≡ get_or l.word k 0
