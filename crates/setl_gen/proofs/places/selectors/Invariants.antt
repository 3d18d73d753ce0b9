use Rattle.std.proofs.Common.{◌≡◌, drop}
use Rattle.setl_program.specs.code.Plain.{selectors_of}
use Rattle.setl_code.specs.Generated.{selectors}
use Rattle.setl_gen_emitter.specs.Emitted.{held, after}
use Rattle.setl_gen.proofs.places.selectors.Given as goal

abbrev pub invariant-loop-s : goal.invariant-loop-s
invariant-loop-s l = after (selectors l.line (selectors_of (drop l.s-index l.selectors))) (held l.emitter) ≡ after (selectors l.line (selectors_of l.selectors)) (held l.initial.emitter)
