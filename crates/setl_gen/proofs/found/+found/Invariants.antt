use Rattle.std.proofs.Common.{◌≡◌, ◌++◌, drop, map}
use Rattle.setl_program.specs.Program.{Undefined}
use Rattle.setl_program.specs.Lists.{chained}
use Rattle.setl_program.specs.code.Plain.{plain_link, plain_exprs, plain_iterators, plain_arguments}
use Rattle.setl_code.specs.Names.{in_expr, in_exprs, in_iterators, in_arguments}
use Rattle.setl_gen.proofs.found.+found.Given as goal

abbrev pub invariant-exprs-loop-e : goal.invariant-exprs-loop-e
invariant-exprs-loop-e l = l.all ++ in_exprs (plain_exprs (drop l.e-index l.es)) ≡ l.initial.all ++ in_exprs (plain_exprs l.es)

abbrev pub invariant-iterators-loop-i : goal.invariant-iterators-loop-i
invariant-iterators-loop-i l = l.all ++ in_iterators (plain_iterators (drop l.i-index l.is)) ≡ l.initial.all ++ in_iterators (plain_iterators l.is)

abbrev pub invariant-arguments-loop-x : goal.invariant-arguments-loop-x
invariant-arguments-loop-x l = l.all ++ in_arguments (plain_arguments (drop l.x-index l.xs)) ≡ l.initial.all ++ in_arguments (plain_arguments l.xs)

abbrev pub invariant-links-loop-l : goal.invariant-links-loop-l
invariant-links-loop-l l = l.all ++ in_expr (chained Undefined (map plain_link (drop l.l-index l.ls))) ≡ l.initial.all ++ in_expr (chained Undefined (map plain_link l.ls))
