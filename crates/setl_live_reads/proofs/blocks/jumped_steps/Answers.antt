use Rattle.std.proofs.Common.{◌∙◌, arith}
use Rattle.setl_live_reads.proofs.Straight.{step_is}
use Rattle.setl_live_reads.proofs.Cutting.{jumped_more}
use Rattle.setl_live_reads.proofs.blocks.jumped_steps.Goals as goal

pub steps-preserved : goal.steps-preserved
steps-preserved c = record {
  sizes = c.note_jump.ensures.sizes ∙ c.steps.invariant.sizes;
  jumped = jumped_more c.args.nodes.now c.steps.jumped.items c.note_jump.new.jumped.items c.steps.at _ (step_is c.args.nodes.now c.steps.at c.steps-test.true) c.note_jump.ensures.kept (λ to jumps within. c.note_jump.ensures.there to jumps (omega (arith, within, c.steps.invariant.sizes))) c.steps.invariant.jumped;
}

pub returns-clause-jumped : goal.returns-clause-jumped
returns-clause-jumped c at to node small is jumps within = c.steps.invariant.jumped at to node (omega (arith, small, c.steps-test.false)) is jumps within
