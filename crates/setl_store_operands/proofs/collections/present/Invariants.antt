use Rattle.std.proofs.Common.{◌≡◌, map}
use Rattle.setl_value.specs.code.DatumOf.{datum}
use Rattle.setl_store_operands.specs.Operands.{member_of, present}
use Rattle.setl_store_operands.proofs.collections.present.Given as goal

abbrev pub invariant-loop-member : goal.invariant-loop-member
invariant-loop-member l = map datum l.values.items ≡ present (map member_of l.yielded)
