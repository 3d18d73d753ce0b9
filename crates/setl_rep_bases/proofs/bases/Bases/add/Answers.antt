use Rattle.std.proofs.lemmas.Result.{on_ok_weaker, on_err_weaker}
use Rattle.setl_rep_bases.specs.Bases.{fresh}
use Rattle.setl_rep_bases.proofs.Tabled.{added, stays}
use Rattle.setl_rep_bases.proofs.bases.Bases.add.Goals as goal

pub returns-clause-added : goal.returns-clause-added
returns-clause-added c = on_ok_weaker c.add.result (λ h. added c.self.inside.count c.self.inside.instances.entries c.add.new.table.entries c.args.self.now c.self.view_is c.args.i fresh h) c.add.ensures.added

pub returns-clause-refused : goal.returns-clause-refused
returns-clause-refused c = on_err_weaker c.add.result (λ h. stays c.self.inside.count c.self.inside.instances.entries c.add.new.table.entries c.args.self.now c.self.view_is h) c.add.ensures.refused
