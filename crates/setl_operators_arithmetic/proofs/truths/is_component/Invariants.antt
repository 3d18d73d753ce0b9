use Rattle.std.proofs.Common.{◌≡◌, false, take}
use Rattle.std.specs.List.{list_any}
use Rattle.setl_value.specs.code.DatumOf.{datum}
use Rattle.setl_value.specs.Pairs.{is_datum}
use Rattle.setl_operators_arithmetic.proofs.truths.is_component.Given as goal

abbrev pub invariant-loop-i : goal.invariant-loop-i
invariant-loop-i l = list_any (λ p. is_datum (datum l.v) p) (take l.i l.t) ≡ false
