use Rattle.std.proofs.Common.{◌≡◌, ◌≤◌, drop, length}
use Rattle.setl_program.specs.Expressions.{prefixes}
use Rattle.setl_program_elaborate.specs.Chains.{plain_chain}
use Rattle.setl_program_elaborate.proofs.makers.prefixes.Given as goal

abbrev pub decreases-loop-left : goal.decreases-loop-left
decreases-loop-left l = l.left

abbrev pub invariant-loop-left : goal.invariant-loop-left
invariant-loop-left l = record {
  within : l.left ≤ length l.prefixes;
  all : plain_chain l.all ≡ prefixes (drop l.left l.prefixes) (plain_chain l.initial.all);
}
