use Rattle.std.proofs.Common.{None}
use Rattle.setl_program.specs.code.Plain.{plain_variable}
use Rattle.setl_code.specs.Code.{Push, StoreIn}
use Rattle.setl_code.specs.Piece.{one}
use Rattle.setl_gen_emitter.specs.Emitted.{held}
use Rattle.setl_gen_emitter.specs.EmittedLaws.{then_made}
use Rattle.setl_gen_emitter.proofs.emitter.Emitter.clear.Goals as goal

pub returns : goal.returns
returns c =
    then_made (one c.args.line (Push None)) (one c.args.line (StoreIn (plain_variable c.args.x.now))) (held c.args.self.now) (held c.put.new.self) (held c.store.new.self) c.in_ok-put.ensures c.in_ok-store.ensures
