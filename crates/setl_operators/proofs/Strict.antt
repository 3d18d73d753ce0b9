-- Operators that tell Om where an operand is `om`.
use Rattle.std.proofs.Common.{◌≡◌, ℕ, List, Option, None, refl}
use Rattle.std.specs.Bool.{IsTrue}
use Rattle.setl_value.specs.Datum.{Datum}
use Rattle.setl_operators_table.specs.declared.Operator.{Operator}
use Rattle.setl_operators_table.specs.declared.Operator.TheVariants.{IsInteger, IsString, IsBoolean, IsAtom, IsTuple, IsSet, IsMap, Equal, NotEqual, TupleOf, Put}
use Rattle.setl_operators_table.specs.Operators.{op_of}
use Rattle.setl_operators_table.specs.Outcome.{Fails, OmFault, all_values}
use Rattle.setl_operators.specs.Readers.{reads_two}

pub om_is_told : (what : Operator) (vs : List (Option Datum)) (left : ℕ) → IsTrue (reads_two what) → all_values vs ≡ None → op_of what vs left ≡ Fails OmFault
om_is_told IsInteger vs left r om = absurd (cc)
om_is_told IsString vs left r om = absurd (cc)
om_is_told IsBoolean vs left r om = absurd (cc)
om_is_told IsAtom vs left r om = absurd (cc)
om_is_told IsTuple vs left r om = absurd (cc)
om_is_told IsSet vs left r om = absurd (cc)
om_is_told IsMap vs left r om = absurd (cc)
om_is_told Equal vs left r om = absurd (cc)
om_is_told NotEqual vs left r om = absurd (cc)
om_is_told TupleOf vs left r om = absurd (cc)
om_is_told Put vs left r om = absurd (cc)
om_is_told what vs left r om = rw om refl
