use Rattle.std.proofs.Common.{◌≡◌}
use Rattle.setl_value.specs.Copies.{copies}
use Rattle.setl_scalar.proofs.texts.copied.Given as goal

abbrev pub invariant-loop : goal.invariant-loop
invariant-loop l = l.all.items ≡ copies l.counter l.bytes
