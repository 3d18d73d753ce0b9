use Rattle.std.proofs.Common.{◌≡◌, Some, map, take}
use Rattle.setl_value.specs.code.DatumOf.{datum, part}
use Rattle.setl_operators_table.specs.Outcome.{all_values}
use Rattle.setl_operators_enumerations.proofs.enumerations.all_values.Given as goal

abbrev pub invariant-loop-operand : goal.invariant-loop-operand
invariant-loop-operand l = all_values (map part (take l.operand-index l.operands)) ≡ Some (map datum l.values.items)
