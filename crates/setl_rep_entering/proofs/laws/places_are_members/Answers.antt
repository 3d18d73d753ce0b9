use Rattle.setl_rep_entering.proofs.Lengthened.{places_are_members, blocks_are_kept, members_change_nothing, members_lengthen_nothing}
use Rattle.setl_rep_entering.proofs.laws.places_are_members.Goals as goal

pub returns-clause-found : goal.returns-clause-found
returns-clause-found c =
    places_are_members c.tests_are_exact.ensures.membership c.operations_have_their_members.ensures.gather c.places_are_named.ensures c.instances_are_read.ensures.names

pub returns-clause-kept : goal.returns-clause-kept
returns-clause-kept c = blocks_are_kept

pub returns-clause-nothing : goal.returns-clause-nothing
returns-clause-nothing c =
    members_change_nothing c.tests_are_exact.ensures.membership c.operations_have_their_members.ensures.gather c.instances_are_read.ensures.names c.instances_are_read.ensures.agree

pub returns-clause-already : goal.returns-clause-already
returns-clause-already c = members_lengthen_nothing c.tests_are_exact.ensures.membership c.operations_have_their_members.ensures.gather c.instances_are_read.ensures.names
