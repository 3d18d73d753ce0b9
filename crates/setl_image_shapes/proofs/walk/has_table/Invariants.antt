use Rattle.setl_image_shapes.specs.Tables.{AreThere, Going, room, table_of}
use Rattle.setl_image_shapes.proofs.walk.has_table.Given as goal

abbrev pub invariant-steps : goal.invariant-steps
invariant-steps l = record {
  there : AreThere l.walk.stacks l.walk.found.items;
  going : Going l.effects (table_of l.walk.stacks l.walk.found.items) l.walk.pending.items;
}

abbrev pub decreases-steps : goal.decreases-steps
decreases-steps l = room (table_of l.walk.stacks l.walk.found.items) l.walk.pending.items
