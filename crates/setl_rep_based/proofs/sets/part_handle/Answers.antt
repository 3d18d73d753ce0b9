use Rattle.setl_value.specs.code.DatumOf.{datum}
use Rattle.setl_rep_based.proofs.Handling.{here}
use Rattle.setl_rep_based.proofs.sets.part_handle.Goals as goal

pub handle-requires : goal.handle-requires
handle-requires c = here c.args.base.now c.args.i c.args.t.now (datum c.in-Some.v.now) c.in-Some.ensures c.requires.found
