use Rattle.std.proofs.Common.{◌≡◌, ◌++◌, not, if◌then◌else◌, map}
use Rattle.std.specs.List.{filter}
use Rattle.setl_value.specs.code.Body.{Members}
use Rattle.setl_value.specs.code.DatumOf.{datum}
use Rattle.setl_set.specs.Sets.{has_datum}
use Rattle.setl_set.proofs.searching.chosen.Given as goal

abbrev pub invariant-loop-v : goal.invariant-loop-v
invariant-loop-v l = map datum l.kept.items ++ filter (λ x. if l.there then has_datum x (Members l.large) else not (has_datum x (Members l.large))) l.v-iterator
    ≡ filter (λ x. if l.there then has_datum x (Members l.large) else not (has_datum x (Members l.large))) l.initial.v-iterator
