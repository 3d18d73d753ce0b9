use Rattle.std.proofs.Common.{◌≡◌, map, take}
use Rattle.setl_value.specs.code.DatumOf.{datum}
use Rattle.setl_set.specs.code.Choice.{members_at}
use Rattle.setl_set.proofs.power.copies_at.Given as goal

abbrev pub invariant-loop-i : goal.invariant-loop-i
invariant-loop-i l = map datum l.subset.items ≡ members_at (map datum l.members) (take l.i-index l.places)
