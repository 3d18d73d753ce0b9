use Rattle.std.proofs.Common.{◌≡◌, ◌++◌, map, take}
use Rattle.setl_names.specs.Names.{has}
use Rattle.setl_live.proofs.slots.put_parameters.Given as goal

abbrev pub invariant-loop-param : goal.invariant-loop-param
invariant-loop-param l = l.table.items ≡ l.initial.table.items ++ map (λ p. has l.names p.name) (take l.param-index l.params)
