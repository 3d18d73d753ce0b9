use Rattle.std.proofs.Common.{[], get_or}
use Rattle.setl_image_shapes.specs.Runs.{laid}
use Rattle.setl_image_shapes.proofs.Parting.{grown_on, part_laid}
use Rattle.setl_image_shapes.proofs.stacks.Stacks.lay.Goals as goal

pub parts-preserved : goal.parts-preserved
parts-preserved c = record {
  here = c.in_ok-at.ensures.pushed.0;
  grown = grown_on c.args.self.now c.parts.self c.push.new.self c.parts.invariant.grown c.in_ok-at.ensures.grown;
  same = part_laid c.parts.parts.items c.pop.new.self.items c.in-Some.part (get_or c.parts.self c.parts.at []) (get_or c.push.new.self c.in_ok-at.at []) (laid c.args.parts.items (get_or c.args.self.now c.args.number [])) c.in-Some.ensures.items c.in_ok-at.ensures.pushed.1 c.parts.invariant.same;
}
