use Rattle.std.proofs.Common.{◌≡◌, length, drop}
use Rattle.setl_explain_places.specs.Places.{first_from, first_on_line}
use Rattle.setl_explain_places.proofs.first_on_line.Given as goal

abbrev pub invariant-loop-i : goal.invariant-loop-i
invariant-loop-i l = first_from (drop l.i l.list.tokens) l.line (length l.list.source) ≡ first_on_line l.list l.line
