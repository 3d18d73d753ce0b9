use Rattle.std.proofs.Common.{◌∙◌, arith}
use Rattle.std.proofs.lemmas.Option.{slice_get-get_or}
use Rattle.setl_live_reads.specs.declared.node.Access.TheVariants.{Nothing}
use Rattle.setl_live_reads.specs.declared.node.Way.TheVariants.{On}
use Rattle.setl_live_reads.proofs.Ranging.{one_target}
use Rattle.setl_live_reads.proofs.ranges.sources.Goals as goal

pub places-preserved : goal.places-preserved
places-preserved c = record {
  sizes = (c.note_target.ensures.sizes.0 ∙ c.places.invariant.sizes.0, c.note_target.ensures.sizes.1 ∙ c.places.invariant.sizes.1);
  sourced =
      one_target c.args.lasts.now c.places.ranges.first.items c.places.ranges.last.items c.note_target.new.ranges.first.items c.note_target.new.ranges.last.items c.places.at _ (slice_get-get_or c.args.lasts.now c.places.at (record { access = Nothing; way = On }) c.places-test.true)
      c.note_target.ensures.kept c.places.invariant.sourced (λ to names within. c.note_target.ensures.there to names (omega (arith, within, c.places.invariant.sizes)));
}

pub returns-clause-sourced : goal.returns-clause-sourced
returns-clause-sourced c at to node small is names within = c.places.invariant.sourced at to node (omega (arith, small, c.places-test.false)) is names within
