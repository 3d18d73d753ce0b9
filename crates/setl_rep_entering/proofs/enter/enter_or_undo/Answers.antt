use Rattle.std.proofs.Common.{◌∙◌}
use Rattle.setl_rep_entering.proofs.Undoing.{taken_back}
use Rattle.setl_rep_entering.proofs.enter.enter_or_undo.Goals as goal

pub returns-in-Err-clause-refused : goal.returns-in-Err-clause-refused
returns-in-Err-clause-refused c =
    c.undo_all.ensures
    ∙ taken_back c.instances_are_read.ensures.put c.instances_are_read.ensures.names c.instances_are_read.ensures.agree c.args.bases.now c.enter_each.new.bases c.args.marks.items c.args.places.items
    c.requires.marks c.requires.marked c.enter_each.ensures.grown c.enter_each.ensures.within
