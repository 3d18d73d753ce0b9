use Rattle.setl_program.specs.code.Plain.{plain_variable, plain_expr, selectors_of}
use Rattle.setl_code.specs.Generated as code
use Rattle.setl_gen_emitter.specs.Emitted.{held}
use Rattle.setl_gen_emitter.specs.EmittedLaws.{then_made}
use Rattle.setl_gen.proofs.steps.assign.Goals as goal

pub returns : goal.returns
returns c =
    then_made (code.expr c.args.line (plain_expr c.args.e.now)) (code.put c.args.line (plain_variable c.args.p.now.variable) (selectors_of c.args.p.now.selectors)) (held c.args.emitter.now) (held c.expr.new.emitter) (held c.put.new.emitter)
    c.in_ok-expr.ensures
    c.in_ok-put.ensures
