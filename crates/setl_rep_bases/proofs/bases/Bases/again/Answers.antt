use Rattle.std.proofs.Common.{false}
use Rattle.setl_rep_bases.proofs.Tabled.{altered, gone_is_there}
use Rattle.setl_rep_bases.proofs.bases.Bases.again.Goals as goal

pub returns : goal.returns
returns c = altered c.self.inside.count c.self.inside.instances.entries c.set_gone.new.table.entries c.args.self.now c.self.view_is (λ b. b) (λ t. false) c.args.i (gone_is_there c.args.self.now c.args.i c.requires) c.set_gone.ensures
