use Rattle.std.proofs.Common.{ℕ, map, take}
use Rattle.setl_model_runs.specs.Variable as run
use Rattle.setl_gen_emitter.specs.Slots.{own_key, AreSlots, AreAll}
use Rattle.setl_gen_emitter.proofs.names.parameter_slots.Given as goal

abbrev pub invariant-loop-k : goal.invariant-loop-k
invariant-loop-k l =
    (body : ℕ) → AreSlots (own_key body) (map (λ p. run.Own body p.name) l.parameters) l.slots.entries
    × AreAll (own_key body) (map (λ p. run.Own body p.name) (take l.k l.parameters)) l.slots.entries
