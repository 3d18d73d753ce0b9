use Rattle.std.proofs.Common.{◌≡◌, ◌++◌, map, None, replicate}
use Rattle.setl_value.specs.code.DatumOf.{part}
use Rattle.setl_tuple.proofs.lists.push_om.Given as goal

abbrev pub invariant-loop : goal.invariant-loop
invariant-loop l = map part l.parts.items ≡ map part l.initial.parts.items ++ replicate l.counter None
