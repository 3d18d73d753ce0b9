use Rattle.std.proofs.Common.{sym, ap}
use Rattle.setl_store.specs.Flat.{body_in}
use Rattle.setl_store.proofs.Steps.{at_work}
use Rattle.setl_store.proofs.store.Store.body.Goals as goal

pub returns-clause-variables : goal.returns-clause-variables
returns-clause-variables c =
    at_work c.self.inside.code.now c.self.inside.bases c.self.inside.at c.self.inside.environment.now c.self.inside.environment.kept c.args.self.now c.innermost.result.body c.self.invariant.1 c.self.view_is (sym (ap body_in c.innermost.ensures))
