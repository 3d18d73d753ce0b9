use Rattle.std.proofs.Common.{arith, sym, ◌∙◌}
use Rattle.setl_value.proofs.Trim.{kept_there, kept_om}
use Rattle.setl_value.proofs.tuples.kept.Goals as goal

pub loop-n-preserved : goal.loop-n-preserved
loop-n-preserved c =
    (kept_om c.args.parts.now c.loop-n.n c.index-parts-n.result c.loop-n-test.true c.loop-n.invariant.1 c.index-parts-n.is (sym c.if-is_om.ensures) ∙ c.loop-n.invariant.0, omega (arith, c.loop-n.invariant.1))

pub returns-else-is_om-clause-trimmed : goal.returns-else-is_om-clause-trimmed
returns-else-is_om-clause-trimmed c =
    kept_there c.args.parts.now c.loop-n.n c.index-parts-n.result c.loop-n-test.true c.loop-n.invariant.1 c.index-parts-n.is (sym c.if-is_om.ensures) ∙ c.loop-n.invariant.0
