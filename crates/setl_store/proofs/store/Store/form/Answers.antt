use Rattle.std.proofs.Common.{◌∙◌, ◌+◌, ◌<◌, length, sym, ap, subst}
use Rattle.setl_store.specs.Flat.{held_of}
use Rattle.setl_store.specs.Operands.{IsThere}
use Rattle.setl_store.proofs.Slots.{place_within, slot_at}
use Rattle.setl_store.proofs.store.Store.form.Goals as goal

pub place-requires-clause-there : goal.place-requires-clause-there
place-requires-clause-there c = place_within c.self.inside.code.now c.self.inside.bases c.self.inside.at c.self.inside.environment.now c.self.inside.environment.kept c.args.self.now c.args.slot c.self.invariant.1 c.self.view_is c.requires

pub slot-requires : goal.slot-requires
slot-requires c =
    subst (λ n. n < length c.self.inside.environment.now.slots) (sym c.place.ensures)
    (place_within c.self.inside.code.now c.self.inside.bases c.self.inside.at c.self.inside.environment.now c.self.inside.environment.kept c.args.self.now c.args.slot c.self.invariant.1 c.self.view_is c.requires)

pub returns-in-Based : goal.returns-in-Based
returns-in-Based c =
    subst IsThere (sym (slot_at c.self.inside.code.now c.self.inside.bases c.self.inside.keeps c.self.inside.at c.self.inside.environment.now c.self.inside.environment.kept c.args.self.now c.args.slot c.place.result c.slot.result.now c.self.invariant c.self.view_is c.requires c.place.ensures c.slot.ensures ∙ ap (held_of c.self.inside.bases) c.in-Based.is)) tt
