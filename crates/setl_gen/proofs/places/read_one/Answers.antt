use Rattle.setl_program.specs.code.Plain.{plain_variable}
use Rattle.setl_code.specs.Code.{ReadOne, StoreIn}
use Rattle.setl_code.specs.Piece.{one}
use Rattle.setl_gen_emitter.specs.Emitted.{held}
use Rattle.setl_gen_emitter.specs.EmittedLaws.{then_made}
use Rattle.setl_gen.proofs.places.read_one.Goals as goal

pub returns : goal.returns
returns c =
    then_made (one c.args.line ReadOne) (one c.args.line (StoreIn (plain_variable c.args.x.now))) (held c.args.emitter.now) (held c.put.new.self) (held c.store.new.self) c.in_ok-put.ensures c.in_ok-store.ensures
