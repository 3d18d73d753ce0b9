use Rattle.std.proofs.Common.{◌∙◌, arith}
use Rattle.std.proofs.lemmas.Option.{slice_get-get_or}
use Rattle.setl_live_reads.specs.declared.node.Access.TheVariants.{Nothing}
use Rattle.setl_live_reads.specs.declared.node.Way.TheVariants.{On}
use Rattle.setl_live_reads.proofs.Ranging.{one_slot}
use Rattle.setl_live_reads.proofs.ranges.spans.Goals as goal

pub steps-preserved : goal.steps-preserved
steps-preserved c = record {
  sizes = (c.note_slot.ensures.sizes.0 ∙ c.steps.invariant.sizes.0, c.note_slot.ensures.sizes.1 ∙ c.steps.invariant.sizes.1);
  spanned =
      one_slot c.args.nodes.now c.args.blocks.now c.steps.ranges.first.items c.steps.ranges.last.items c.note_slot.new.ranges.first.items c.note_slot.new.ranges.last.items c.steps.at _ (slice_get-get_or c.args.nodes.now c.steps.at (record { access = Nothing; way = On }) c.steps-test.true)
      c.note_slot.ensures.kept c.args.rows c.steps.invariant.spanned (λ slot names within. c.note_slot.ensures.there slot names (omega (arith, within, c.steps.invariant.sizes)));
}

pub returns-clause-spanned : goal.returns-clause-spanned
returns-clause-spanned c at slot node small is names within = c.steps.invariant.spanned at slot node (omega (arith, small, c.steps-test.false)) is names within
