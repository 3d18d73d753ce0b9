use Rattle.std.proofs.Common.{arith, ◌<◌, sym}
use Rattle.setl_image_shapes.proofs.Stacking.{push_are, push_grows, push_stands}
use Rattle.setl_image_shapes.proofs.stacks.Stacks.push.Goals as goal

pub invariant_of-self-2 : goal.invariant_of-self-2
invariant_of-self-2 c =
    let some : 0 < c.args.count = omega arith in
    push_are c.args.self.now c.self.inside.runs.items c.push.new.self.items (record { kind = c.args.kind; count = c.args.count; below = c.args.below }) (sym c.self.view_is) c.self.invariant c.in_ok-push.ensures.items some c.requires

pub returns-clause-grown : goal.returns-clause-grown
returns-clause-grown c = push_grows c.args.self.now c.self.inside.runs.items c.push.new.self.items (record { kind = c.args.kind; count = c.args.count; below = c.args.below }) (sym c.self.view_is) c.in_ok-push.ensures.items

pub returns-clause-pushed : goal.returns-clause-pushed
returns-clause-pushed c = push_stands c.args.self.now c.self.inside.runs.items c.push.new.self.items (record { kind = c.args.kind; count = c.args.count; below = c.args.below }) c.len.result (sym c.self.view_is) c.in_ok-push.ensures.items (cc)
