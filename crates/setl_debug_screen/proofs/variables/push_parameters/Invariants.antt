use Rattle.std.proofs.Common.{◌≡◌, ◌++◌, map, drop}
use Rattle.setl_model_runs.specs.Variable.{Own}
use Rattle.setl_debug_screen.specs.code.Standing.{held_lines}
use Rattle.setl_debug_screen.proofs.variables.push_parameters.Given as goal

abbrev pub invariant-loop-param : goal.invariant-loop-param
invariant-loop-param l = record {
  at : l.at ≡ l.param-index;
  added : l.into.items ++ held_lines (map (λ p. Own l.store.core.now.body p.name) (drop l.param-index l.params)) l.store.core ≡ l.initial.into.items ++ held_lines (map (λ p. Own l.store.core.now.body p.name) l.params) l.store.core;
}
