use Rattle.std.proofs.Common.{◌∙◌, List, map}
use Rattle.setl_program.specs.declared.expr.Variable.{Variable}
use Rattle.setl_program.specs.code.Plain.{plain_variable}
use Rattle.setl_code.specs.Generated.{read_all}
use Rattle.setl_gen_emitter.specs.Emitted.{held, after}
use Rattle.setl_gen_emitter.specs.EmittedLaws.{after_nothing, done_made}
use Rattle.setl_gen.proofs.StmtRounds.{reads_round}
use Rattle.setl_gen.proofs.places.read_all.Goals as goal

pub loop-x-preserved : goal.loop-x-preserved
loop-x-preserved c =
    reads_round c.args.line c.args.xs.now c.loop-x.x-index c.x-item.result (held c.loop-x.emitter) (held c.read_one.new.emitter) c.loop-x-test.true c.x-item.is c.in_ok-read_one.ensures
    ∙ c.loop-x.invariant

pub returns : goal.returns
returns c =
    let f = λ (r : List Variable). read_all c.args.line (map plain_variable r) in
    done_made f c.args.xs.now c.loop-x.x-index (held c.loop-x.emitter) (after (f c.args.xs.now) (held c.args.emitter.now)) c.loop-x-test.false (after_nothing (held c.loop-x.emitter)) c.loop-x.invariant
