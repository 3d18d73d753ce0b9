use Rattle.std.proofs.Common.{◌≡◌}
use Rattle.setl_parse_expressions.proofs.made.unboxed.Given as goal

abbrev pub invariant-loop-op : goal.invariant-loop-op
invariant-loop-op l = l.found ≡ l.yielded
