use Rattle.std.proofs.Common.{arith, ap, map}
use Rattle.setl_value.specs.Datum.{elements_depth, elements_of}
use Rattle.setl_value.specs.code.DatumOf.{datum}
use Rattle.setl_text.proofs.Shallow.{depth_set_from}
use Rattle.setl_text.proofs.place.make_set.Goals as goal

pub from_rising-requires-clause-shallow : goal.from_rising-requires-clause-shallow
from_rising-requires-clause-shallow c =
    omega (arith, c.requires, ap (λ ds. elements_depth (elements_of ds)) c.in_ok-members.ensures, depth_set_from (map datum c.args.values.items))
