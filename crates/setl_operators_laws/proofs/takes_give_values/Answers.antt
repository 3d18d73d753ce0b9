use Rattle.setl_operators_laws.proofs.Takes.{least_is_value, first_is_value, last_is_value}
use Rattle.setl_operators_laws.proofs.takes_give_values.Goals as goal

pub returns : goal.returns
returns c = record { least = least_is_value; first = first_is_value; last = last_is_value }
