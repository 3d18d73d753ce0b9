use Rattle.setl_image_shapes.proofs.Going.{answer_second}
use Rattle.setl_image_shapes.proofs.walk.arrive_all.Goals as goal

pub returns-else-not-branch : goal.returns-else-not-branch
returns-else-not-branch c = answer_second c.arrive-in-Two-2.result c.args.walk.now c.arrive-in-Two.new.walk c.arrive-in-Two-2.new.walk c.in_ok-arrive-in-Two.field-0 c.in-Two.place c.in-Two.other c.args.ways c.in-Two.is c.requires.stacks c.if-not-branch.false c.in_ok-arrive-in-Two.ensures c.arrive-in-Two-2.ensures
