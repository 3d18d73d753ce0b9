use Rattle.setl_machine_layout.proofs.Entering.{members_are_entered, stay_as_many}
use Rattle.setl_machine_layout.proofs.bases_are_entered.Goals as goal

pub returns : goal.returns
returns c = record { entered = members_are_entered c.places_are_named.ensures; many = stay_as_many }
