use Rattle.setl_rep_maps.proofs.Puts.{puts_are_images, single_puts}
use Rattle.setl_rep_maps.proofs.laws.puts_are_images.Goals as goal

pub returns-clause-images : goal.returns-clause-images
returns-clause-images c =
    puts_are_images c.rising_lists_agree.ensures c.tests_are_exact.ensures.membership c.operations_have_their_members.ensures.gather c.operations_have_their_members.ensures.union c.tables_have_their_pairs.ensures.members

pub returns-clause-image : goal.returns-clause-image
returns-clause-image c =
    single_puts c.operations_have_their_members.ensures.insert c.rising_lists_agree.ensures c.tests_are_exact.ensures.membership c.operations_have_their_members.ensures.gather c.operations_have_their_members.ensures.union c.tables_have_their_pairs.ensures.members
