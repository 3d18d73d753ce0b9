use Rattle.std.proofs.Common.{◌≡◌, ◌+◌, ◌-◌, ◌≤◌, ◌++◌, length}
use Rattle.setl_store_environment.proofs.Parts.{with_slots, room_of_slots}
use Rattle.setl_store_environment.proofs.environment.Environment.push_slots.Given as goal

-- the values so far are added
abbrev pub invariant-loop-value : goal.invariant-loop-value
invariant-loop-value g l =
    let was = l.fn.self in
    let is = l.self in
    record {
      now : is.now ≡ with_slots was.now (was.now.slots ++ l.yielded);
      kept : is.kept ≡ was.kept;
      ready : was.ready ≤ is.ready + length l.yielded;
      room : is.room ≡ room_of_slots was.room (was.room.slots - length l.yielded);
    }
