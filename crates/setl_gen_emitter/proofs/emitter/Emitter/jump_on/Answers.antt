use Rattle.std.proofs.Common.{◌∙◌}
use Rattle.setl_gen_emitter.specs.Emitted.{held}
use Rattle.setl_gen_emitter.proofs.Stepping.{on_made}
use Rattle.setl_gen_emitter.proofs.emitter.Emitter.jump_on.Goals as goal

pub returns : goal.returns
returns c = c.in_ok-put.ensures ∙ on_made (held c.args.self.now) c.args.line
