use Rattle.std.proofs.Common.{rules, refl, [], length, ◌≤◌}
use Rattle.std.proofs.KnownBytes.{Consumes-trans, Consumes-kept, Consumes-all}
use Rattle.setl_debug_input.proofs.whole.read_whole.Goals as goal

pub returns-then-is_err-clause-bytes : goal.returns-then-is_err-clause-bytes
returns-then-is_err-clause-bytes g c = (_, Consumes-trans _ _ _ _ _ c.loop-room.invariant.taken c.in-Bytes.ensures.bytes.2)

pub returns-in-End-clause-bytes : goal.returns-in-End-clause-bytes
returns-in-End-clause-bytes g c =
    let few : length c.loop-room.taken.items ≤ c.args.limit = search rules in
    (Consumes-all _ _ c.loop-room.taken.items [] c.loop-room.taken.items c.loop-room.invariant.taken c.in-End.ensures.bytes.0 refl, Consumes-kept _ _ _ _ c.loop-room.invariant.taken c.in-End.ensures.bytes.1, few)
