use Rattle.std.proofs.Common.{◌≡◌, ◌++◌, length}
use Rattle.setl_parse_cursor.specs.Plain.{undoubled}
use Rattle.setl_parse_cursor.proofs.content.undoubled.Given as goal

abbrev pub invariant-loop-b : goal.invariant-loop-b
invariant-loop-b l = undoubled l.body ≡ l.bytes.items ++ undoubled l.rest

abbrev pub decreases-loop-b : goal.decreases-loop-b
decreases-loop-b l = length l.rest
