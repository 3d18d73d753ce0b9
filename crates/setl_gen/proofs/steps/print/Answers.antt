use Rattle.std.proofs.Common.{◌∙◌, ap}
use Rattle.setl_program.specs.code.Plain.{plain_exprs}
use Rattle.setl_code.specs.Code.{PrintTop}
use Rattle.setl_code.specs.Piece.{one}
use Rattle.setl_code.specs.Generated as code
use Rattle.setl_gen_emitter.specs.Emitted.{held, after}
use Rattle.setl_gen_emitter.specs.EmittedLaws.{then_made}
use Rattle.setl_gen.proofs.Rounds.{count_is}
use Rattle.setl_gen.proofs.steps.print.Goals as goal

pub returns : goal.returns
returns c =
    then_made (code.exprs c.args.line (plain_exprs c.args.es.now)) (one c.args.line (PrintTop (code.count (plain_exprs c.args.es.now)))) (held c.args.emitter.now) (held c.exprs.new.emitter) (held c.put.new.self)
    c.in_ok-exprs.ensures
    (c.in_ok-put.ensures ∙ ap (λ m. after (one c.args.line (PrintTop m)) (held c.exprs.new.emitter)) (c.in_ok-count.ensures ∙ count_is c.args.es.now))
