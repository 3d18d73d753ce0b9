use Rattle.std.proofs.Common.{◌<◌, length, sym, subst}
use Rattle.setl_store.proofs.Grown.{again}
use Rattle.setl_store.proofs.Slots.{place_within}
use Rattle.setl_store.proofs.store.Store.make_plain.Goals as goal

pub place-at-requires-clause-there : goal.place-at-requires-clause-there
place-at-requires-clause-there c = place_within c.self.inside.code.now c.self.inside.bases c.self.inside.at c.self.inside.environment.now c.self.inside.environment.kept c.args.self.now c.args.slot c.self.invariant.1 c.self.view_is c.requires

pub plain_at-requires-clause-slot : goal.plain_at-requires-clause-slot
plain_at-requires-clause-slot c =
    subst (λ n. n < length c.self.inside.environment.now.slots) (sym c.place-at.ensures)
    (place_within c.self.inside.code.now c.self.inside.bases c.self.inside.at c.self.inside.environment.now c.self.inside.environment.kept c.args.self.now c.args.slot c.self.invariant.1 c.self.view_is c.requires)

pub invariant_of-self : goal.invariant_of-self
invariant_of-self c =
    (again c.self.inside.code.now c.self.inside.bases c.self.inside.keeps c.self.inside.at c.self.inside.environment.now c.plain_at.new.environment.now c.self.inside.environment.kept c.plain_at.new.environment.kept c.args.self.now c.args.slot c.place-at.result
    c.self.invariant c.self.view_is c.requires c.place-at.ensures c.plain_at.ensures.again c.plain_at.ensures.kept).1

pub returns : goal.returns
returns c =
    (again c.self.inside.code.now c.self.inside.bases c.self.inside.keeps c.self.inside.at c.self.inside.environment.now c.plain_at.new.environment.now c.self.inside.environment.kept c.plain_at.new.environment.kept c.args.self.now c.args.slot c.place-at.result
    c.self.invariant c.self.view_is c.requires c.place-at.ensures c.plain_at.ensures.again c.plain_at.ensures.kept).0
