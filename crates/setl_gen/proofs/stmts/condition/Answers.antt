use Rattle.std.proofs.Common.{◌∙◌, ap, sym}
use Rattle.std.specs.Option.{option_map}
use Rattle.setl_program.specs.code.Plain.{plain_expr, condition_of}
use Rattle.setl_code.specs.Generated as code
use Rattle.setl_gen_emitter.specs.Emitted.{held, after}
use Rattle.setl_gen_emitter.specs.EmittedLaws.{after_nothing}
use Rattle.setl_gen.proofs.stmts.condition.Goals as goal

pub returns-in-None : goal.returns-in-None
returns-in-None c =
    let s = held c.args.emitter.now in
    sym (after_nothing s) ∙ ap (λ o. after (code.condition c.args.line (condition_of (option_map plain_expr o)) c.args.back) s) (sym c.in-None.is)
