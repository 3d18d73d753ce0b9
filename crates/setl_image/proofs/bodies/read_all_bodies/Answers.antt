use Rattle.std.proofs.Common.{length}
use Rattle.setl_image.proofs.Dependent.{bodies_seen}
use Rattle.setl_image.proofs.bodies.read_all_bodies.Goals as goal

pub returns : goal.returns
returns c = bodies_seen c.len.result (length c.args.vars.now) c.args.bytes.now c.read_list.result c.len.ensures c.read_list.ensures
