use Rattle.std.proofs.Common.{◌≡◌, ◌-◌, [], drop, map, reverse}
use Rattle.setl_value.specs.code.DatumOf.{part}
use Rattle.setl_code.specs.CodeCore.{popped}
use Rattle.setl_store.proofs.store.Store.top_values.Given as goal

-- the values so far are those of the topmost operands, the top first
abbrev pub invariant-loop-k : goal.invariant-loop-k
invariant-loop-k l = popped l.count [] l.fn.self.core.now.operands ≡ popped (l.count - l.k) (reverse (map part l.values.items)) (drop l.k l.fn.self.core.now.operands)
