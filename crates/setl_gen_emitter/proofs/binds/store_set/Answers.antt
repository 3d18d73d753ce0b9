use Rattle.std.proofs.Common.{◌∙◌, List}
use Rattle.setl_program.specs.declared.expr.Argument.{Argument}
use Rattle.setl_program.specs.code.Plain.{plain_arguments}
use Rattle.setl_code.specs.Generated.{store_slots, set_by}
use Rattle.setl_gen_emitter.specs.Emitted.{held, after}
use Rattle.setl_gen_emitter.specs.EmittedLaws.{after_nothing, done_made}
use Rattle.setl_gen_emitter.proofs.Stores.{sets_round}
use Rattle.setl_gen_emitter.proofs.binds.store_set.Goals as goal

pub loop-k-preserved : goal.loop-k-preserved
loop-k-preserved c =
    sets_round c.args.line c.args.all.now c.loop-k.k c.index-all-k.result (held c.loop-k.emitter) (held c.store_argument.new.emitter) c.loop-k-test.true c.index-all-k.is c.in_ok-store_argument.ensures
    ∙ c.loop-k.invariant

pub returns : goal.returns
returns c =
    let line = c.args.line in
    let f = λ (r : List Argument). store_slots line (set_by (plain_arguments r)) in
    done_made f c.args.all.now c.loop-k.k (held c.loop-k.emitter) (after (f c.args.all.now) (held c.args.emitter.now)) c.loop-k-test.false (after_nothing (held c.loop-k.emitter)) c.loop-k.invariant
