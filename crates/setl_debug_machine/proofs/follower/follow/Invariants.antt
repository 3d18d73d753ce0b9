use Rattle.setl_debug_machine.specs.code.Machines.{StandsAfter}
use Rattle.setl_debug_machine.specs.code.Walks.{most_turns}
use Rattle.setl_debug_machine.proofs.follower.follow.Given as goal

abbrev pub invariant-loop-k : goal.invariant-loop-k
invariant-loop-k l = StandsAfter l.subject.declarations l.subject.input.items most_turns l.k l.machine
