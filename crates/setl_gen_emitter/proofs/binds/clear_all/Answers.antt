use Rattle.std.proofs.Common.{◌∙◌, List}
use Rattle.setl_program.specs.declared.expr.Iterator.{Iterator}
use Rattle.setl_program.specs.code.Plain.{plain_iterators}
use Rattle.setl_model.specs.Iterations.{all_bound}
use Rattle.setl_code.specs.Generated.{clear}
use Rattle.setl_gen_emitter.specs.Emitted.{held, after}
use Rattle.setl_gen_emitter.specs.EmittedLaws.{after_nothing, done_made}
use Rattle.setl_gen_emitter.proofs.Stores.{bounds_round}
use Rattle.setl_gen_emitter.proofs.binds.clear_all.Goals as goal

pub loop-i-preserved : goal.loop-i-preserved
loop-i-preserved c =
    bounds_round c.args.line c.args.is.now c.loop-i.i-index c.i-item.result (held c.loop-i.emitter) (held c.clear_bound.new.emitter) c.loop-i-test.true c.i-item.is c.in_ok-clear_bound.ensures
    ∙ c.loop-i.invariant

pub returns : goal.returns
returns c =
    let line = c.args.line in
    let f = λ (r : List Iterator). clear line (all_bound (plain_iterators r)) in
    done_made f c.args.is.now c.loop-i.i-index (held c.loop-i.emitter) (after (f c.args.is.now) (held c.args.emitter.now)) c.loop-i-test.false (after_nothing (held c.loop-i.emitter)) c.loop-i.invariant
