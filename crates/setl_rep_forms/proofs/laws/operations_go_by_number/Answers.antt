use Rattle.setl_rep_forms.proofs.Numbers.{unions, meets, differences, symmetric_differences, inserts_go, removes_go}
use Rattle.setl_rep_forms.proofs.laws.operations_go_by_number.Goals as goal

pub returns-clause-union : goal.returns-clause-union
returns-clause-union c = unions c.rising_lists_agree.ensures c.tests_are_exact.ensures.membership c.operations_have_their_members.ensures.gather c.operations_have_their_members.ensures.union

pub returns-clause-meet : goal.returns-clause-meet
returns-clause-meet c = meets c.rising_lists_agree.ensures c.tests_are_exact.ensures.membership c.operations_have_their_members.ensures.gather c.operations_have_their_members.ensures.meet

pub returns-clause-minus : goal.returns-clause-minus
returns-clause-minus c = differences c.rising_lists_agree.ensures c.tests_are_exact.ensures.membership c.operations_have_their_members.ensures.gather c.operations_have_their_members.ensures.minus

pub returns-clause-symm : goal.returns-clause-symm
returns-clause-symm c = symmetric_differences c.rising_lists_agree.ensures c.tests_are_exact.ensures.membership c.operations_have_their_members.ensures.gather c.operations_have_their_members.ensures.union c.operations_have_their_members.ensures.minus

pub returns-clause-insert : goal.returns-clause-insert
returns-clause-insert c = inserts_go c.rising_lists_agree.ensures c.tests_are_exact.ensures.membership c.operations_have_their_members.ensures.gather c.operations_have_their_members.ensures.insert

pub returns-clause-remove : goal.returns-clause-remove
returns-clause-remove c = removes_go c.rising_lists_agree.ensures c.tests_are_exact.ensures.membership c.operations_have_their_members.ensures.gather c.operations_have_their_members.ensures.remove
