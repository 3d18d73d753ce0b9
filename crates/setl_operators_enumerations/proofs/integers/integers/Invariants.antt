use Rattle.std.proofs.Common.{◌≡◌, ◌-◌, map}
use Rattle.setl_value.specs.Datum.{elements_depth, elements_of}
use Rattle.setl_value.specs.code.DatumOf.{datum}
use Rattle.setl_operators_enumerations.proofs.Spreads.{IsOnWay}
use Rattle.setl_operators_enumerations.proofs.integers.integers.Given as goal

abbrev pub invariant-loop-i : goal.invariant-loop-i
invariant-loop-i l = record {
  on_way : IsOnWay l.a l.step l.n (map datum l.values.items) l.next (l.n - l.i);
  shallow : elements_depth (elements_of (map datum l.values.items)) ≡ 0;
}
