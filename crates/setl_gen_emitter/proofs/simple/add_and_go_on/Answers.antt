use Rattle.std.proofs.Common.{◌∙◌, ap}
use Rattle.setl_code.specs.Code.{AddBelow, Jump}
use Rattle.setl_code.specs.Piece.{one}
use Rattle.setl_gen_emitter.specs.Emitted.{held, after}
use Rattle.setl_gen_emitter.specs.EmittedLaws.{then_made}
use Rattle.setl_gen_emitter.proofs.simple.add_and_go_on.Goals as goal

pub returns : goal.returns
returns c =
    let s = held c.args.emitter.now in
    then_made (one c.args.line (AddBelow c.args.levels)) (one c.args.line (Jump c.args.next)) s (held c.put.new.self) (held c.put-2.new.self)
    (c.in_ok-put.ensures ∙ ap (λ m. after (one c.args.line (AddBelow m)) s) c.in_ok-levels.ensures) c.in_ok-put-2.ensures
