use Rattle.std.proofs.Common.{◌≡◌, ◌-◌, drop}
use Rattle.setl_store.specs.HasValues.{has_values}
use Rattle.setl_store.proofs.store.Store.has_values.Given as goal

abbrev pub invariant-loop-k : goal.invariant-loop-k
invariant-loop-k l = has_values l.count l.fn.self.core.now.operands ≡ has_values (l.count - l.k) (drop l.k l.fn.self.core.now.operands)
