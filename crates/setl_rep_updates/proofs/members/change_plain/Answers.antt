use Rattle.std.proofs.Common.{subst}
use Rattle.setl_value.specs.Datum.{element_list-elements_of}
use Rattle.setl_value.specs.Order.{IsRising}
use Rattle.setl_value.specs.code.Body.{Members}
use Rattle.setl_value.specs.code.DatumOf.{datum}
use Rattle.setl_rep_updates.proofs.Adding.{in_plain}
use Rattle.setl_rep_updates.proofs.members.change_plain.Goals as goal

pub returns-clause-put : goal.returns-clause-put
returns-clause-put c = λ bs.
    in_plain bs c.args.on (datum c.args.y.now) c.args.members.now c.put_in_plain.new.members c.in_ok-put_in_plain.ensures.put (subst IsRising (element_list-elements_of (Members c.put_in_plain.new.members)) c.learn.ensures.0.1)
