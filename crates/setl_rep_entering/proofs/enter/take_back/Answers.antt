use Rattle.std.proofs.Common.{◌∙◌}
use Rattle.setl_rep_entering.proofs.Taking.{are_grown, entered_back}
use Rattle.setl_rep_entering.proofs.enter.take_back.Goals as goal

pub undo_all-requires : goal.undo_all-requires
undo_all-requires c = (c.requires.3, c.requires.4.marks, are_grown c.requires.0 c.requires.1 c.requires.2 c.requires.3 c.args.bases.now c.requires.5)

pub returns : goal.returns
returns c =
    λ m d n bs k l. c.undo_all.ensures
    ∙ entered_back c.places_are_named.ensures c.instances_are_read.ensures.put c.instances_are_read.ensures.names c.instances_are_read.ensures.agree m d n bs c.args.bases.now c.args.marks.items k l
