use Rattle.setl_rep_entering.proofs.Lengthened.{members_are_lengthened, others_stay, names_stay}
use Rattle.setl_rep_entering.proofs.laws.bases_are_lengthened.Goals as goal

pub returns-clause-members : goal.returns-clause-members
returns-clause-members c = members_are_lengthened c.places_are_named.ensures c.instances_are_read.ensures.names

pub returns-clause-others : goal.returns-clause-others
returns-clause-others c = others_stay c.places_are_named.ensures

pub returns-clause-names : goal.returns-clause-names
returns-clause-names c = names_stay
