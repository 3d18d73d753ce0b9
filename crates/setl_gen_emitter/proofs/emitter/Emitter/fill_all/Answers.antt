use Rattle.std.proofs.Common.{◌∙◌}
use Rattle.setl_gen_emitter.specs.Emitted.{held}
use Rattle.setl_gen_emitter.specs.EmittedLaws.{last_filled}
use Rattle.setl_gen_emitter.proofs.emitter.Emitter.fill_all.Goals as goal

pub loop-exit-preserved : goal.loop-exit-preserved
loop-exit-preserved c =
    last_filled c.args.to c.loop-exit.exits c.pop.new.self c.in-Some.exit (held c.loop-exit.self) (held c.fill.new.self) c.in-Some.ensures c.fill.ensures
    ∙ c.loop-exit.invariant
