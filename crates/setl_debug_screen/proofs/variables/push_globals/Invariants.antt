use Rattle.std.proofs.Common.{◌≡◌, ◌++◌, map, drop}
use Rattle.setl_model_runs.specs.Variable.{Global}
use Rattle.setl_debug_screen.specs.code.Standing.{held_lines}
use Rattle.setl_debug_screen.proofs.variables.push_globals.Given as goal

abbrev pub invariant-loop-name : goal.invariant-loop-name
invariant-loop-name l = record {
  at : l.at ≡ l.name-index;
  added : l.into.items ++ held_lines (map Global (drop l.name-index l.names)) l.store.core ≡ l.initial.into.items ++ held_lines (map Global l.names) l.store.core;
}
