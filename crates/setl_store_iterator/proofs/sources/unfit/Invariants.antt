use Rattle.std.proofs.Common.{◌≡◌, drop, map}
use Rattle.setl_value.specs.code.DatumOf.{part}
use Rattle.setl_operators_table.specs.Outcome.{all_values}
use Rattle.setl_store_iterator.specs.Operands.{fault_of}
use Rattle.setl_store_iterator.proofs.sources.unfit.Given as goal

abbrev pub invariant-loop-source : goal.invariant-loop-source
invariant-loop-source l = fault_of (all_values (map part (drop l.source-index l.sources))) ≡ fault_of (all_values (map part l.sources))
