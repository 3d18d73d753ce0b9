use Rattle.std.proofs.Common.{◌≡◌, ◌∙◌, ℕ, length, subst, arith}
use Rattle.setl_live_reads.specs.Chains.{AreChains}
use Rattle.setl_live_reads.proofs.Straight.{step_is}
use Rattle.setl_live_reads.proofs.Chaining.{chains_more}
use Rattle.setl_live_reads.proofs.chains.row_chains.Goals as goal

pub steps-preserved : goal.steps-preserved
steps-preserved c = record {
  sizes = (c.note_step.ensures.sizes.0 ∙ c.steps.invariant.sizes.0, c.note_step.ensures.sizes.1 ∙ c.steps.invariant.sizes.1);
  chains =
      chains_more c.args.nodes.now c.args.rows c.steps.at _ c.steps.chains.latest.items c.steps.chains.earlier.items c.note_step.new.chains.latest.items c.note_step.new.chains.earlier.items (step_is c.args.nodes.now c.steps.at c.steps-test.true)
      (λ slot names small. c.note_step.ensures.there slot names (omega (arith, small, c.steps.invariant.sizes))) c.note_step.ensures.rows c.note_step.ensures.kept c.steps.invariant.chains;
}

pub returns-clause-chains : goal.returns-clause-chains
returns-clause-chains c = (let all : c.steps.at ≡ length c.args.nodes.now = omega (arith, c.steps-test.false) in subst (λ (n : ℕ). AreChains c.args.nodes.now c.args.rows n c.steps.chains.latest.items c.steps.chains.earlier.items) all c.steps.invariant.chains)
