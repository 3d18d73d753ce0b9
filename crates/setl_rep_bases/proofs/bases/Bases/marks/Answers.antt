use Rattle.setl_rep_bases.proofs.Bringing.{marks_made}
use Rattle.setl_rep_bases.proofs.bases.Bases.marks.Goals as goal

pub returns : goal.returns
returns c = marks_made c.self.inside.count c.self.inside.instances.entries c.in_ok-table.table.entries c.args.self.now c.self.view_is c.in_ok-table.ensures
