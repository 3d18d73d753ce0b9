use Rattle.std.proofs.Common.{◌≡◌}
use Rattle.setl_store.specs.Flat.{AreUncut}
use Rattle.setl_store.proofs.calls.empty_bases.Given as goal

-- none is told, and none was cut
abbrev pub invariant-loop-base : goal.invariant-loop-base
invariant-loop-base l = record {
  none : l.bases.count ≡ 0;
  uncut : AreUncut l.bases;
}
