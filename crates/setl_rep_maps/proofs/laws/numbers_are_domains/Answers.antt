use Rattle.setl_rep_maps.proofs.Domains.{numbers_are_domains}
use Rattle.setl_rep_maps.proofs.laws.numbers_are_domains.Goals as goal

pub returns : goal.returns
returns c =
    numbers_are_domains c.rising_lists_agree.ensures c.tests_are_exact.ensures.membership c.operations_have_their_members.ensures.gather c.tables_have_their_pairs.ensures.members c.sets_have_their_members.ensures.members
