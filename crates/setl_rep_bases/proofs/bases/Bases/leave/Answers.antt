use Rattle.std.proofs.Common.{true}
use Rattle.setl_rep_bases.proofs.Tabled.{removed, altered}
use Rattle.setl_rep_bases.proofs.bases.Bases.leave.Goals as goal

pub returns-then-kept : goal.returns-then-kept
returns-then-kept c = rw c.if-kept.true (altered c.self.inside.count c.self.inside.instances.entries c.set_gone.new.table.entries c.args.self.now c.self.view_is (λ b. b) (λ t. true) c.args.i c.requires c.set_gone.ensures)

pub returns-else-kept : goal.returns-else-kept
returns-else-kept c = rw c.if-kept.false (removed c.self.inside.count c.self.inside.instances.entries c.remove.new.table.entries c.args.self.now c.self.view_is c.args.i c.remove.ensures)
