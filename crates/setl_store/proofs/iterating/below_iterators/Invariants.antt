use Rattle.std.proofs.Common.{◌≤◌, drop}
use Rattle.setl_store.specs.Iterating.{AreIterators}
use Rattle.setl_store.proofs.iterating.below_iterators.Given as goal

abbrev pub invariant-loop-at : goal.invariant-loop-at
invariant-loop-at l = record { within : l.above ≤ l.at; passed : AreIterators (drop l.at l.environment.now.operands) }
