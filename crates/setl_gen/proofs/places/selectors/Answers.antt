use Rattle.std.proofs.Common.{◌∙◌, List}
use Rattle.setl_program.specs.declared.stmt.Selector.{Selector}
use Rattle.setl_program.specs.code.Plain.{selectors_of}
use Rattle.setl_code.specs.Generated.{selectors}
use Rattle.setl_gen_emitter.specs.Emitted.{held, after}
use Rattle.setl_gen_emitter.specs.EmittedLaws.{after_nothing, done_made}
use Rattle.setl_gen.proofs.StmtRounds.{selectors_round}
use Rattle.setl_gen.proofs.places.selectors.Goals as goal

pub loop-s-preserved : goal.loop-s-preserved
loop-s-preserved c =
    selectors_round c.args.line c.args.selectors.now c.loop-s.s-index c.s-item.result (held c.loop-s.emitter) (held c.selector.new.emitter) c.loop-s-test.true c.s-item.is c.in_ok-selector.ensures
    ∙ c.loop-s.invariant

pub returns : goal.returns
returns c =
    let f = λ (r : List Selector). selectors c.args.line (selectors_of r) in
    done_made f c.args.selectors.now c.loop-s.s-index (held c.loop-s.emitter) (after (f c.args.selectors.now) (held c.args.emitter.now)) c.loop-s-test.false (after_nothing (held c.loop-s.emitter)) c.loop-s.invariant
