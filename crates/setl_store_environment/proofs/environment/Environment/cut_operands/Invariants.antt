use Rattle.std.proofs.Common.{◌≡◌, ◌+◌, ◌-◌, ◌≤◌, length, take}
use Rattle.setl_store_environment.proofs.Parts.{with_operands, room_of_operands}
use Rattle.setl_store_environment.proofs.environment.Environment.cut_operands.Given as goal

-- so many are off, one by one
abbrev pub invariant-loop-i : goal.invariant-loop-i
invariant-loop-i g l =
    let was = l.fn.self in
    let is = l.self in
    record {
      now : is.now ≡ with_operands was.now (take (length was.now.operands - l._i) was.now.operands);
      kept : is.kept ≡ was.kept;
      ready : was.ready ≤ is.ready + l._i;
      room : is.room ≡ room_of_operands was.room (was.room.operands + l._i);
    }
