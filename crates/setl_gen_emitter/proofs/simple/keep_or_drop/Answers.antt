use Rattle.std.proofs.Common.{refl}
use Rattle.setl_gen_emitter.specs.Emitted.{held, here}
use Rattle.setl_gen_emitter.proofs.ShortPieces.{keep_made}
use Rattle.setl_gen_emitter.proofs.simple.keep_or_drop.Goals as goal

pub returns : goal.returns
returns c =
    keep_made c.args.line c.args.next c.in_ok-test.test (here (held c.put-2.new.self)) (held c.args.emitter.now) (held c.step.new.self) (held c.put.new.self) (held c.put-2.new.self) (held c.unless_here.new.self) (held c.put-3.new.self) (held c.put-4.new.self)
    c.in_ok-test.ensures.place c.in_ok-test.ensures.code c.in_ok-put.ensures c.in_ok-put-2.ensures refl c.in_ok-unless_here.ensures c.in_ok-put-3.ensures c.in_ok-put-4.ensures
