-- The data of a vector of values.
use Rattle.std.specs.Prelude.{List, map, Vec}
use Rattle.std.proofs.Common.{Global}
use Rattle.setl_value.specs.Datum.{Datum}
use Rattle.setl_value.specs.declared.Value.{Value}
use Rattle.setl_value.specs.code.DatumOf.{datum}

abbrev pub value_data : Vec Value Global → List Datum
value_data vs = map datum vs.items
