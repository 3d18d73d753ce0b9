use Rattle.setl_rep_forms.proofs.Members.{sets_have_their_members, members_of_lists}
use Rattle.setl_rep_forms.proofs.Numbers.{tested_by_number, equal_numbers}
use Rattle.setl_rep_forms.proofs.laws.sets_have_their_members.Goals as goal

pub returns-clause-members : goal.returns-clause-members
returns-clause-members c = sets_have_their_members c.tests_are_exact.ensures.membership c.operations_have_their_members.ensures.gather

pub returns-clause-tested : goal.returns-clause-tested
returns-clause-tested c = tested_by_number c.tests_are_exact.ensures.membership c.operations_have_their_members.ensures.gather

pub returns-clause-equal : goal.returns-clause-equal
returns-clause-equal c = equal_numbers c.tests_are_exact.ensures.membership c.operations_have_their_members.ensures.gather

pub returns-clause-lists : goal.returns-clause-lists
returns-clause-lists c = members_of_lists c.tests_are_exact.ensures.membership c.operations_have_their_members.ensures.gather c.rising_lists_agree.ensures
