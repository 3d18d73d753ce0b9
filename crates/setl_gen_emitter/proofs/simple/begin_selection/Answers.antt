use Rattle.std.proofs.Common.{◌∙◌, ap}
use Rattle.setl_program.specs.Program.{begin_of}
use Rattle.setl_program.specs.code.Plain.{plain_binding}
use Rattle.setl_code.specs.Code.{BeginOver, NextOr, DupTop}
use Rattle.setl_code.specs.Piece.{◌⨾◌, one}
use Rattle.setl_code.specs.Generated.{bind}
use Rattle.setl_gen_emitter.specs.Emitted.{held, after}
use Rattle.setl_gen_emitter.specs.EmittedLaws.{then_two}
use Rattle.setl_gen_emitter.proofs.simple.begin_selection.Goals as goal

pub returns-clause-code : goal.returns-clause-code
returns-clause-code c =
    let line = c.args.line in
    let b = plain_binding c.args.b.now in
    let w = one line (NextOr 0) ⨾ one line DupTop ⨾ bind line b in
    then_two (one line (NextOr 0)) (one line DupTop) (bind line b) (held c.begin.new.emitter) (held c.step.new.self) (held c.put.new.self) (held c.bind.new.emitter) c.in_ok-next.ensures.code c.in_ok-put.ensures c.in_ok-bind.ensures
    ∙ ap (after w) (c.in_ok-begin.ensures ∙ ap (λ m. after (one line (BeginOver (begin_of b) m)) (held c.args.emitter.now)) c.in_ok-parts.ensures)
