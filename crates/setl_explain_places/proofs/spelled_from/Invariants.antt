use Rattle.std.proofs.Common.{◌≡◌, length, drop}
use Rattle.setl_explain_places.specs.Places as spec
use Rattle.setl_explain_places.proofs.spelled_from.Given as goal

abbrev pub invariant-loop-i : goal.invariant-loop-i
invariant-loop-i l = spec.spelled_in l.list.source l.text (drop l.i l.list.tokens) l.line (length l.list.source) ≡ spec.spelled_from l.list l.line l.text
