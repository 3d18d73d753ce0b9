use Rattle.setl_store.proofs.MainProgram.{main_lacks}
use Rattle.setl_store.proofs.store.Store.learn_main.Goals as goal

pub returns : goal.returns
returns c x = main_lacks c.self.inside.code.now c.self.inside.bases c.self.inside.at c.self.inside.environment.now c.self.inside.environment.kept c.args.self.now c.self.view_is x c.self.invariant.1
