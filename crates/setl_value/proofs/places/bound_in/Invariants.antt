use Rattle.std.proofs.Common.{◌-◌, map}
use Rattle.setl_value.specs.code.DatumOf.{datum}
use Rattle.setl_value.specs.code.Sought.{sought}
use Rattle.setl_value.specs.code.Places.{IsBetween}
use Rattle.setl_value.proofs.places.bound_in.Given as goal

abbrev pub invariant-loop-low : goal.invariant-loop-low
invariant-loop-low l = IsBetween (sought l.what) (map datum l.members) l.low l.high

abbrev pub decreases-loop-low : goal.decreases-loop-low
decreases-loop-low l = l.high - l.low
