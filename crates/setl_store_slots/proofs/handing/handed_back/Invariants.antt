use Rattle.std.proofs.Common.{◌≡◌, ◌-◌, length, map, drop, Some}
use Rattle.setl_value.specs.code.DatumOf.{part}
use Rattle.setl_store_slots.specs.Handed.{handed}
use Rattle.setl_store_slots.proofs.handing.handed_back.Given as goal

-- what the parameters from here on hand back
abbrev pub invariant-loop-i : goal.invariant-loop-i
invariant-loop-i g l =
    let n = length l.parameters - l.i in
    handed l.bases (drop n l.parameters) (drop n (drop l.lowest l.environment.now.slots)) (part l.fn.value) ≡ Some (map part l.all.items)
