use Rattle.std.proofs.Common.{◌≡◌, ◌≤◌}
use Rattle.setl_debug_machine.specs.code.Walks.{IsWalk}
use Rattle.setl_debug_machine.proofs.walk.go_on.Given as goal

abbrev pub invariant-loop-steps : goal.invariant-loop-steps
invariant-loop-steps l = record {
  walk : IsWalk l.subject.declarations l.subject.input.items l.walk;
  within : l.walk.tally.turns ≤ l.turns;
  line : l.walk.tally.line ≡ l.fn.walk.tally.line;
}
