use Rattle.std.proofs.Common.{◌-◌, ◌≤◌, length, reverse, take}
use Rattle.setl_store_operands.specs.Operands.{HasMembers}
use Rattle.setl_store.proofs.activations.members_of_lower.Given as goal

-- those of the operands that are left, from the top down
abbrev pub invariant-loop-i : goal.invariant-loop-i
invariant-loop-i l =
    let e = l.environment.now in
    record {
      has : HasMembers (reverse (take (length e.operands - l.i) e.operands)) l.members;
      fewer : l.members ≤ length e.members;
    }
