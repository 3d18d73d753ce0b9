use Rattle.std.proofs.Common.{◌≡◌, ◌++◌, map, take}
use Rattle.setl_live.specs.Slots.{is_named}
use Rattle.setl_live.proofs.slots.put_names.Given as goal

abbrev pub invariant-loop-name : goal.invariant-loop-name
invariant-loop-name l = l.table.items ≡ l.initial.table.items ++ map (is_named l.names) (take l.name-index l.own)
