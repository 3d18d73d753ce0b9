use Rattle.setl_rep_bases.proofs.Tabled.{gone_dropped}
use Rattle.setl_rep_bases.proofs.bases.Bases.drop_gone.Goals as goal

pub returns : goal.returns
returns c = gone_dropped c.self.inside.count c.self.inside.instances.entries c.drop_gone.new.table.entries c.args.self.now c.self.view_is c.drop_gone.ensures
