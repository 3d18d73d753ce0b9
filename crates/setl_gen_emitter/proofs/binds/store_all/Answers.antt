use Rattle.std.proofs.Common.{◌∙◌, List, Option}
use Rattle.setl_program.specs.declared.expr.Variable.{Variable}
use Rattle.setl_program.specs.code.Plain.{plain_slots}
use Rattle.setl_code.specs.Generated.{store_slots}
use Rattle.setl_gen_emitter.specs.Emitted.{held, after}
use Rattle.setl_gen_emitter.specs.EmittedLaws.{after_nothing, done_made}
use Rattle.setl_gen_emitter.proofs.Stores.{stores_round}
use Rattle.setl_gen_emitter.proofs.binds.store_all.Goals as goal

pub loop-x-preserved : goal.loop-x-preserved
loop-x-preserved c =
    stores_round c.args.line c.args.xs.now c.loop-x.x-index c.x-item.result (held c.loop-x.emitter) (held c.store_one.new.emitter) c.loop-x-test.true c.x-item.is c.in_ok-store_one.ensures
    ∙ c.loop-x.invariant

pub returns : goal.returns
returns c =
    let line = c.args.line in
    let f = λ (r : List (Option Variable)). store_slots line (plain_slots r) in
    done_made f c.args.xs.now c.loop-x.x-index (held c.loop-x.emitter) (after (f c.args.xs.now) (held c.args.emitter.now)) c.loop-x-test.false (after_nothing (held c.loop-x.emitter)) c.loop-x.invariant
