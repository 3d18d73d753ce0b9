use Rattle.std.proofs.Common.{◌≡◌, [], drop}
use Rattle.setl_names_walk.specs.Breaking as spec
use Rattle.setl_names_walk.proofs.breaking.repeated.Given as goal

abbrev pub invariant-loop-name : goal.invariant-loop-name
invariant-loop-name l = spec.repeated l.seen (drop l.name-index l.names) ≡ spec.repeated [] l.names
