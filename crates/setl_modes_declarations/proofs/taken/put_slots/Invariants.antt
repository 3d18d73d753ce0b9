use Rattle.std.proofs.Common.{◌≡◌, drop}
use Rattle.setl_names.specs.Names.{with_names}
use Rattle.setl_modes_declarations.proofs.taken.put_slots.Given as goal

abbrev pub invariant-loop-slot : goal.invariant-loop-slot
invariant-loop-slot l = with_names l.names (drop l.slot-index l.slots) ≡ with_names l.initial.names l.slots
