use Rattle.std.proofs.Common.{◌≡◌, drop}
use Rattle.setl_names.specs.Names.{repeats_after}
use Rattle.setl_names.proofs.names.repeats_after.Given as goal

abbrev pub invariant-loop-name : goal.invariant-loop-name
invariant-loop-name l = repeats_after l.seen (drop l.name-index l.names) ≡ repeats_after l.initial.seen l.names
