use Rattle.setl_gen_emitter.specs.Emitted.{held}
use Rattle.setl_gen_emitter.proofs.Stores.{parts_made}
use Rattle.setl_gen_emitter.proofs.binds.parts.Goals as goal

pub returns : goal.returns
returns c =
    parts_made c.args.line c.in_ok-count.count c.args.xs.now (held c.args.emitter.now) (held c.put.new.self) (held c.store_all.new.emitter) c.in_ok-count.ensures c.in_ok-put.ensures c.in_ok-store_all.ensures
