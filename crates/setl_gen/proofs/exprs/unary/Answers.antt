use Rattle.setl_gen_emitter.specs.Emitted.{held}
use Rattle.setl_gen.proofs.Links.{unary_made}
use Rattle.setl_gen.proofs.exprs.unary.Goals as goal

pub returns : goal.returns
returns c = unary_made c.args.line c.args.o (held c.args.emitter.now) (held c.put.new.self) c.in_ok-put.ensures
