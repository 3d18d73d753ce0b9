use Rattle.setl_store.proofs.MainProgram.{told}
use Rattle.setl_store.proofs.store.Store.told_bases.Goals as goal

pub returns : goal.returns
returns c = told c.self.inside.code.now c.self.inside.bases c.self.inside.at c.self.inside.environment.now c.self.inside.environment.kept c.args.self.now c.self.view_is
