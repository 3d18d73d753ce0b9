use Rattle.std.proofs.Common.{arith}
use Rattle.std.proofs.lemmas.Grind.{common_steps}
use Rattle.setl_gen_emitter.proofs.Stepping.{jump_made}
use Rattle.setl_gen_emitter.proofs.emitter.Emitter.jump_out.Goals as goal

pub returns : goal.returns
returns c = grind (arith, common_steps, jump_made)
