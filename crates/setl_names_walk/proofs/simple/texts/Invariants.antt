use Rattle.std.proofs.Common.{◌≡◌, drop}
use Rattle.setl_names.specs.Occurrences as spec
use Rattle.setl_names_walk.specs.Walks.{here, after}
use Rattle.setl_names_walk.proofs.simple.texts.Given as goal

abbrev pub invariant-loop-name : goal.invariant-loop-name
invariant-loop-name l = after (spec.all_named (drop l.name-index l.names) (here l.line l.walk)) l.walk ≡ after (spec.all_named l.names (here l.line l.initial.walk)) l.initial.walk
