use Rattle.setl_store.proofs.HeldOperands.{held_at, held_stands}
use Rattle.setl_store.proofs.store.Store.one_held.Goals as goal

pub returns-clause-value : goal.returns-clause-value
returns-clause-value c =
    held_at c.self.inside.code.now c.self.inside.bases c.self.inside.at c.self.inside.environment.now c.self.inside.environment.kept c.args.self.now c.self.invariant.1 c.self.view_is
    0 c.in-Some.held c.in-Some.ensures

pub returns-clause-over : goal.returns-clause-over
returns-clause-over c =
    held_stands c.self.inside.code.now c.self.inside.bases c.self.inside.at c.self.inside.environment.now c.self.inside.environment.kept c.args.self.now c.self.invariant.1 c.self.view_is
    0 c.in-Some.held c.in-Some.ensures
