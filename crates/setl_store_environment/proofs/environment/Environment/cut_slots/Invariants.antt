use Rattle.std.proofs.Common.{◌≡◌, ◌+◌, ◌-◌, ◌≤◌, length, take}
use Rattle.setl_store_environment.proofs.Parts.{with_slots, room_of_slots}
use Rattle.setl_store_environment.proofs.environment.Environment.cut_slots.Given as goal

-- so many are off, one by one
abbrev pub invariant-loop-i : goal.invariant-loop-i
invariant-loop-i g l =
    let was = l.fn.self in
    let is = l.self in
    record {
      now : is.now ≡ with_slots was.now (take (length was.now.slots - l._i) was.now.slots);
      kept : is.kept ≡ was.kept;
      ready : was.ready ≤ is.ready + l._i;
      room : is.room ≡ room_of_slots was.room (was.room.slots + l._i);
    }
