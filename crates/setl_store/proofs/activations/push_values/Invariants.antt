use Rattle.std.proofs.Common.{◌≡◌, ◌+◌, ◌-◌, ◌≤◌, ◌++◌, length, map}
use Rattle.setl_store.specs.Returning.{held_by}
use Rattle.setl_store.proofs.activations.push_values.Given as goal

-- the values so far are added
abbrev pub invariant-loop-value : goal.invariant-loop-value
invariant-loop-value l =
    let was = l.fn.environment in
    let is = l.environment in
    record {
      slots : is.now.slots ≡ was.now.slots ++ map held_by l.yielded;
      rest : is.now ≡ record was.now { slots = is.now.slots };
      kept : is.kept ≡ was.kept;
      ready : was.ready ≤ is.ready + length l.yielded;
      room : is.room ≡ record was.room { slots = was.room.slots - length l.yielded };
    }
