use Rattle.setl_program.specs.code.Plain.{plain_slots, plain_expr}
use Rattle.setl_code.specs.Generated as code
use Rattle.setl_gen_emitter.specs.Emitted.{held}
use Rattle.setl_gen_emitter.specs.EmittedLaws.{then_made}
use Rattle.setl_gen.proofs.steps.assign_parts.Goals as goal

pub returns : goal.returns
returns c =
    then_made (code.expr c.args.line (plain_expr c.args.e.now)) (code.parts c.args.line (plain_slots c.args.xs.now)) (held c.args.emitter.now) (held c.expr.new.emitter) (held c.parts.new.emitter)
    c.in_ok-expr.ensures
    c.in_ok-parts.ensures
