use Rattle.setl_rep_forms.proofs.Counting.{tested_at, inserts_at, removes_at, counts}
use Rattle.setl_rep_forms.proofs.laws.numbers_stand_for_members.Goals as goal

pub returns-clause-tested : goal.returns-clause-tested
returns-clause-tested c = tested_at c.sets_have_their_members.ensures.tested

pub returns-clause-insert : goal.returns-clause-insert
returns-clause-insert c = inserts_at c.operations_go_by_number.ensures.insert

pub returns-clause-remove : goal.returns-clause-remove
returns-clause-remove c = removes_at c.operations_go_by_number.ensures.remove

pub returns-clause-count : goal.returns-clause-count
returns-clause-count c = counts c.sets_have_their_members.ensures.members (tested_at c.sets_have_their_members.ensures.tested) (inserts_at c.operations_go_by_number.ensures.insert)
