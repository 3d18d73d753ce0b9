use Rattle.setl_value.specs.code.DatumOf.{datum}
use Rattle.setl_rep_updates.proofs.Adding.{in_remote}
use Rattle.setl_rep_updates.proofs.members.change_remote.Goals as goal

pub returns-clause-put : goal.returns-clause-put
returns-clause-put c = in_remote c.operations_have_their_members.ensures.gather c.args.bases.now c.args.b c.args.on (datum c.args.y.now) c.args.bits.now c.put_in_remote.new.bits c.requires.there c.in_ok-put_in_remote.ensures.put
