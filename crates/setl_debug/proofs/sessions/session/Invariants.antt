use Rattle.std.proofs.Common.{◌≡◌, ◌<◌, ◌^◌, take}
use Rattle.setl_debug.specs.code.Steps.{IsFollowed}
use Rattle.setl_debug.proofs.sessions.session.Given as goal

abbrev pub invariant-loop-command : goal.invariant-loop-command
invariant-loop-command g l = record {
  run : g.T.Target.run l.target ≡ g.T.Target.run l.fn.target;
  done : IsFollowed (g.T.Target.shows (g.T.Target.run l.fn.target)) (take l.command-index l.command-items) (g.O.Sink.held l.fn.out) (g.O.Sink.held l.out) l.at.turns;
  count : g.O.Sink.faults l.out ≡ g.O.Sink.faults l.fn.out;
  small : l.at.turns < 2 ^ 63;
}
