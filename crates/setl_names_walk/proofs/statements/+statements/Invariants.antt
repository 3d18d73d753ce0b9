use Rattle.std.proofs.Common.{◌≡◌, drop, map}
use Rattle.setl_names_walk.specs.Scopes.{no_scope}
use Rattle.setl_names.specs.Statements as spec
use Rattle.setl_names_walk.specs.Walks.{here, after}
use Rattle.setl_names_walk.proofs.statements.+statements.Given as goal

abbrev pub invariant-stmts-loop-x : goal.invariant-stmts-loop-x
invariant-stmts-loop-x l = record {
  told : after (spec.told (drop l.x-index l.xs) l.around) l.walk ≡ after (spec.told l.xs l.around) l.initial.walk;
  outside : l.walk.scope ≡ no_scope;
}

abbrev pub invariant-branches-loop-x : goal.invariant-branches-loop-x
invariant-branches-loop-x l = record {
  told : after (spec.all_branches (map spec.branch_told (drop l.x-index l.xs)) (here l.line l.walk) l.around) l.walk ≡ after (spec.all_branches (map spec.branch_told l.xs) (here l.line l.initial.walk) l.around) l.initial.walk;
  outside : l.walk.scope ≡ no_scope;
}
