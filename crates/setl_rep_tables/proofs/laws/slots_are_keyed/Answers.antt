use Rattle.setl_rep_tables.proofs.Slots.{slots_are_keyed}
use Rattle.setl_rep_tables.proofs.laws.slots_are_keyed.Goals as goal

pub returns : goal.returns
returns c = slots_are_keyed
