use Rattle.std.proofs.Common.{◌≡◌, map}
use Rattle.setl_value.specs.code.DatumOf.{part}
use Rattle.setl_value.specs.Copies.{copies}
use Rattle.setl_tuple.proofs.lists.copied.Given as goal

abbrev pub invariant-loop : goal.invariant-loop
invariant-loop l = map part l.parts.items ≡ copies l.counter l.a
