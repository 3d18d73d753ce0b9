use Rattle.std.proofs.Common.{◌≡◌, length}
use Rattle.setl_gen_emitter.specs.Emitted.{held, all_filled}
use Rattle.setl_gen_emitter.proofs.emitter.Emitter.fill_all.Given as goal

abbrev pub invariant-loop-exit : goal.invariant-loop-exit
invariant-loop-exit l = all_filled l.to l.exits (held l.self) ≡ all_filled l.to l.fn.exits (held l.initial.self)

abbrev pub decreases-loop-exit : goal.decreases-loop-exit
decreases-loop-exit l = length l.exits
