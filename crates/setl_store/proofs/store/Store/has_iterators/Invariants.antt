use Rattle.std.proofs.Common.{◌≡◌, ◌-◌, drop}
use Rattle.setl_code.specs.CodeCore.{without_iterators}
use Rattle.setl_store.proofs.store.Store.has_iterators.Given as goal

abbrev pub invariant-loop-k : goal.invariant-loop-k
invariant-loop-k l = without_iterators l.count l.fn.self.core.now.operands ≡ without_iterators (l.count - l.k) (drop l.k l.fn.self.core.now.operands)
