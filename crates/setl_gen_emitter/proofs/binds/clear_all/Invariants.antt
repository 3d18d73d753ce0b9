use Rattle.std.proofs.Common.{◌≡◌, drop}
use Rattle.setl_program.specs.code.Plain.{plain_iterators}
use Rattle.setl_model.specs.Iterations.{all_bound}
use Rattle.setl_code.specs.Generated.{clear}
use Rattle.setl_gen_emitter.specs.Emitted.{held, after}
use Rattle.setl_gen_emitter.proofs.binds.clear_all.Given as goal

abbrev pub invariant-loop-i : goal.invariant-loop-i
invariant-loop-i l = after (clear l.line (all_bound (plain_iterators (drop l.i-index l.is)))) (held l.emitter) ≡ after (clear l.line (all_bound (plain_iterators l.is))) (held l.initial.emitter)
