use Rattle.setl_value.specs.code.DatumOf.{datum}
use Rattle.setl_rep_updates.proofs.Adding.{in_sparse}
use Rattle.setl_rep_updates.proofs.members.change_sparse.Goals as goal

pub returns-clause-put : goal.returns-clause-put
returns-clause-put c = in_sparse c.operations_have_their_members.ensures.gather c.args.bases.now c.args.b c.args.on (datum c.args.y.now) c.args.shared.now c.put_in_sparse.new.shared c.requires.there c.in_ok-put_in_sparse.ensures.put
