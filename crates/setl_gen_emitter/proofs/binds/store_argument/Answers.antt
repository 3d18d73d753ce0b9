use Rattle.setl_gen_emitter.specs.Emitted.{held}
use Rattle.setl_gen_emitter.proofs.Stores.{nothing_set}
use Rattle.setl_gen_emitter.proofs.binds.store_argument.Goals as goal

pub returns-in-Rd : goal.returns-in-Rd
returns-in-Rd c = nothing_set c.args.line c.args.x.now c.in-Rd.field-0 (held c.args.emitter.now) c.in-Rd.is
