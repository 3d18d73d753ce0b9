use Rattle.std.proofs.Common.{◌≡◌, ◌+◌, ◌-◌, ◌≤◌, ◌++◌, replicate}
use Rattle.setl_store_slots.specs.declared.cells.Held.TheVariants as slot
use Rattle.setl_store.proofs.activations.push_cleared.Given as goal

-- so many are added
abbrev pub invariant-loop-i : goal.invariant-loop-i
invariant-loop-i l =
    let was = l.fn.environment in
    let is = l.environment in
    record {
      slots : is.now.slots ≡ was.now.slots ++ replicate l._i slot.Om;
      rest : is.now ≡ record was.now { slots = is.now.slots };
      kept : is.kept ≡ was.kept;
      ready : was.ready ≤ is.ready + l._i;
      room : is.room ≡ record was.room { slots = was.room.slots - l._i };
    }
