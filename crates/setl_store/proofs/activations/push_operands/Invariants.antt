use Rattle.std.proofs.Common.{◌≡◌, ◌+◌, ◌-◌, ◌≤◌, ◌++◌, length, map}
use Rattle.setl_store_operands.specs.Operands.{operand_by}
use Rattle.setl_store.proofs.activations.push_operands.Given as goal

-- the values so far are added
abbrev pub invariant-loop-value : goal.invariant-loop-value
invariant-loop-value l =
    let was = l.fn.environment in
    let is = l.environment in
    record {
      now : is.now ≡ record was.now { operands = was.now.operands ++ map operand_by l.yielded };
      kept : is.kept ≡ was.kept;
      ready : was.ready ≤ is.ready + length l.yielded;
      room : is.room ≡ record was.room { operands = was.room.operands - length l.yielded };
    }
