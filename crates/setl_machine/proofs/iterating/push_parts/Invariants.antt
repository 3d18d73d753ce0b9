use Rattle.std.proofs.Common.{◌≡◌, ◌-◌, drop}
use Rattle.setl_code.specs.Machine.{first_parts}
use Rattle.setl_store.specs.Standing.{over}
use Rattle.setl_machine.proofs.iterating.push_parts.Given as goal

abbrev pub invariant-loop-at : goal.invariant-loop-at
invariant-loop-at l = l.store ≡ record l.fn.store { core = over (first_parts (l.count - l.at) (drop l.at l.tuple) l.fn.store.core.now.operands) l.fn.store.core }
