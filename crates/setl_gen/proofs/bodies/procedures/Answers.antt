use Rattle.std.proofs.Common.{◌∙◌}
use Rattle.setl_gen.proofs.BodyLemmas.{procedures_round}
use Rattle.setl_gen.proofs.bodies.procedures.Goals as goal

pub loop-p-preserved : goal.loop-p-preserved
loop-p-preserved c = (
  c.in_ok-body.ensures.vars ∙ c.loop-p.invariant.0,
  procedures_round c.args.emitter.now.names.vars c.loop-p.emitter.names.vars c.args.ps.now c.loop-p.p-index c.p-item.result c.loop-p.bodies c.push.new.self c.in_ok-n.n c.in_ok-body.body
      c.loop-p-test.true c.p-item.is (c.in_ok-n.ensures ∙ c.len.ensures) c.loop-p.invariant.0 c.in_ok-body.ensures.body c.in_ok-push.ensures.ok
      ∙ c.loop-p.invariant.1,
)
