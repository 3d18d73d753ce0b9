use Rattle.std.proofs.Common.{◌≡◌, ◌+◌, ◌-◌, ◌≤◌, length, take}
use Rattle.setl_store_environment.proofs.Parts.{with_members, room_of_members}
use Rattle.setl_store_environment.proofs.environment.Environment.cut_members.Given as goal

-- so many are off, one by one
abbrev pub invariant-loop-i : goal.invariant-loop-i
invariant-loop-i g l =
    let was = l.fn.self in
    let is = l.self in
    record {
      now : is.now ≡ with_members was.now (take (length was.now.members - l._i) was.now.members);
      kept : is.kept ≡ was.kept;
      ready : was.ready ≤ is.ready + l._i;
      room : is.room ≡ room_of_members was.room (was.room.members + l._i);
    }
