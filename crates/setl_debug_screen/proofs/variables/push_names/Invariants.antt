use Rattle.std.proofs.Common.{◌≡◌, ◌+◌, ◌++◌, map, drop}
use Rattle.setl_code.specs.Plain.{plain_name}
use Rattle.setl_debug_screen.specs.code.Standing.{held_lines}
use Rattle.setl_debug_screen.proofs.variables.push_names.Given as goal

abbrev pub invariant-loop-name : goal.invariant-loop-name
invariant-loop-name l = record {
  at : l.at ≡ l.params + l.name-index;
  added : l.into.items ++ held_lines (map (plain_name l.store.core.now.body) (drop l.name-index l.names)) l.store.core ≡ l.initial.into.items ++ held_lines (map (plain_name l.store.core.now.body) l.names) l.store.core;
}
