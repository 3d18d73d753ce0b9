use Rattle.std.proofs.Common.{map}
use Rattle.setl_model_runs.specs.Variable as run
use Rattle.setl_gen_emitter.specs.Slots.{global_key, AreSlots}
use Rattle.setl_gen_emitter.proofs.names.global_slots.Given as goal

abbrev pub invariant-loop-k : goal.invariant-loop-k
invariant-loop-k l = AreSlots global_key (map run.Global l.vars) l.slots.entries
