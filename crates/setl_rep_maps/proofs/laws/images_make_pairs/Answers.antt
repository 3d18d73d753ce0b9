use Rattle.setl_rep_maps.proofs.Inclusions.{images_make_pairs}
use Rattle.setl_rep_maps.proofs.laws.images_make_pairs.Goals as goal

pub returns : goal.returns
returns c = images_make_pairs c.rising_lists_agree.ensures c.tests_are_exact.ensures.membership c.operations_have_their_members.ensures.gather c.operations_have_their_members.ensures.insert c.tables_have_their_pairs.ensures.members
