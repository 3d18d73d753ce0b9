use Rattle.setl_program_scope.proofs.BoundNames.{one_turn}
use Rattle.setl_program_scope.proofs.bound.names_of_turns.Goals as goal

pub loop-turn-preserved : goal.loop-turn-preserved
loop-turn-preserved c = one_turn c.args.turns.now c.loop-turn.turn-index c.turn-item.result c.loop-turn.all c.put_turn.new.all _ c.loop-turn-test.true c.turn-item.is c.loop-turn.invariant c.in_ok-put_turn.ensures
