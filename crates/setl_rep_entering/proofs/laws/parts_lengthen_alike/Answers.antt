use Rattle.setl_rep_entering.proofs.NewPlaces.{parts_lengthen_alike}
use Rattle.setl_rep_entering.proofs.laws.parts_lengthen_alike.Goals as goal

pub returns : goal.returns
returns c = parts_lengthen_alike c.rising_lists_agree.ensures c.tests_are_exact.ensures.membership c.operations_have_their_members.ensures.gather c.instances_are_read.ensures.names
