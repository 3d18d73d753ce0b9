use Rattle.setl_store.proofs.HeldOperands.{both_held, held_stands}
use Rattle.setl_store.proofs.store.Store.two_held.Goals as goal

pub returns-clause-values : goal.returns-clause-values
returns-clause-values c =
    both_held c.self.inside.code.now c.self.inside.bases c.self.inside.at c.self.inside.environment.now c.self.inside.environment.kept c.args.self.now c.self.invariant.1 c.self.view_is
    c.in-Some-held_below.lower c.in-Some.upper c.in-Some.ensures c.in-Some-held_below.ensures

pub returns-clause-lower : goal.returns-clause-lower
returns-clause-lower c =
    held_stands c.self.inside.code.now c.self.inside.bases c.self.inside.at c.self.inside.environment.now c.self.inside.environment.kept c.args.self.now c.self.invariant.1 c.self.view_is
    1 c.in-Some-held_below.lower c.in-Some-held_below.ensures

pub returns-clause-upper : goal.returns-clause-upper
returns-clause-upper c =
    held_stands c.self.inside.code.now c.self.inside.bases c.self.inside.at c.self.inside.environment.now c.self.inside.environment.kept c.args.self.now c.self.invariant.1 c.self.view_is
    0 c.in-Some.upper c.in-Some.ensures
