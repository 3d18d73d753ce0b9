use Rattle.std.proofs.Common.{◌≡◌, ◌++◌, ℕ, map, drop, take}
use Rattle.setl_model_runs.specs.Variable.{Own}
use Rattle.setl_image_names.specs.Once.{variables_seen, are_new}
use Rattle.setl_image_names.proofs.differing.put_parameters.Given as goal

abbrev pub invariant-loop-param : goal.invariant-loop-param
invariant-loop-param l = (n : ℕ) → record {
  rest : are_new (variables_seen n l.seen.keys) (map (λ p. Own n p.name) (drop l.param-index l.params)) ≡ are_new (variables_seen n l.fn.seen.keys) (map (λ p. Own n p.name) l.params);
  put : variables_seen n l.seen.keys ≡ variables_seen n l.fn.seen.keys ++ map (λ p. Own n p.name) (take l.param-index l.params);
}
