use Rattle.std.proofs.Common.{◌≡◌}
use Rattle.setl_tree.specs.Programs as grammar
use Rattle.setl_parse_statements.proofs.programs.joined.Given as goal

abbrev pub invariant-loop-list : goal.invariant-loop-list
invariant-loop-list l = l.all ≡ grammar.joined l.yielded
