use Rattle.setl_program.specs.code.Plain.{plain_expr}
use Rattle.setl_code.specs.Code.{ReturnTop}
use Rattle.setl_code.specs.Piece.{one}
use Rattle.setl_code.specs.Generated as code
use Rattle.setl_gen_emitter.specs.Emitted.{held}
use Rattle.setl_gen_emitter.specs.EmittedLaws.{then_made}
use Rattle.setl_gen.proofs.steps.give_back.Goals as goal

pub returns : goal.returns
returns c =
    then_made (code.expr c.args.line (plain_expr c.args.e.now)) (one c.args.line ReturnTop) (held c.args.emitter.now) (held c.expr.new.emitter) (held c.put.new.self)
    c.in_ok-expr.ensures
    c.in_ok-put.ensures
