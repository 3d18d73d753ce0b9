use Rattle.setl_rep_tables.proofs.Pairs.{members_of_tables, pairs_of_tables, all_images_of_tables, images_of_tables, no_images_elsewhere}
use Rattle.setl_rep_tables.proofs.laws.tables_have_their_pairs.Goals as goal

pub returns-clause-members : goal.returns-clause-members
returns-clause-members c = members_of_tables c.rising_lists_agree.ensures c.tests_are_exact.ensures.membership c.operations_have_their_members.ensures.gather

pub returns-clause-pairs : goal.returns-clause-pairs
returns-clause-pairs c = pairs_of_tables c.rising_lists_agree.ensures c.tests_are_exact.ensures.membership c.operations_have_their_members.ensures.gather

pub returns-clause-all_images : goal.returns-clause-all_images
returns-clause-all_images c =
    all_images_of_tables c.rising_lists_agree.ensures c.tests_are_exact.ensures.membership c.operations_have_their_members.ensures.gather c.images_are_by_pairs.ensures

pub returns-clause-images : goal.returns-clause-images
returns-clause-images c = images_of_tables c.rising_lists_agree.ensures c.tests_are_exact.ensures.membership c.operations_have_their_members.ensures.gather c.images_are_by_pairs.ensures

pub returns-clause-none : goal.returns-clause-none
returns-clause-none c = no_images_elsewhere c.rising_lists_agree.ensures c.tests_are_exact.ensures.membership c.operations_have_their_members.ensures.gather c.images_are_by_pairs.ensures
