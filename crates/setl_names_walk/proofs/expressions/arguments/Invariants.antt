use Rattle.std.proofs.Common.{◌≡◌, ◌++◌, drop, map}
use Rattle.setl_names.specs.Occurrences as spec
use Rattle.setl_names_walk.specs.Scopes.{place}
use Rattle.setl_names_walk.proofs.expressions.arguments.Given as goal

abbrev pub invariant-loop-x : goal.invariant-loop-x
invariant-loop-x l = l.all ++ spec.arguments (map spec.part (drop l.x-index l.xs)) (place l.line l.scope) ≡ spec.arguments (map spec.part l.xs) (place l.line l.scope)
