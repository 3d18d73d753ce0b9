use Rattle.std.proofs.Common.{◌∙◌, ◌+◌, ◌<◌, length, refl, sym, ap, subst}
use Rattle.setl_store.specs.declared.store.Content.TheVariants as content
use Rattle.setl_store.specs.Flat.{held_of}
use Rattle.setl_store.specs.Standing.{IsHeld}
use Rattle.setl_store.proofs.Slots.{place_within, slot_at}
use Rattle.setl_store.proofs.store.Store.slot.Goals as goal

pub place-requires-clause-there : goal.place-requires-clause-there
place-requires-clause-there c = place_within c.self.inside.code.now c.self.inside.bases c.self.inside.at c.self.inside.environment.now c.self.inside.environment.kept c.args.self.now c.args.slot c.self.invariant.1 c.self.view_is c.requires

pub slot-requires : goal.slot-requires
slot-requires c =
    subst (λ n. n < length c.self.inside.environment.now.slots) (sym c.place.ensures)
    (place_within c.self.inside.code.now c.self.inside.bases c.self.inside.at c.self.inside.environment.now c.self.inside.environment.kept c.args.self.now c.args.slot c.self.invariant.1 c.self.view_is c.requires)

pub returns-in-Om : goal.returns-in-Om
returns-in-Om c =
    subst (λ h. IsHeld h content.Om) (sym (slot_at c.self.inside.code.now c.self.inside.bases c.self.inside.keeps c.self.inside.at c.self.inside.environment.now c.self.inside.environment.kept c.args.self.now c.args.slot c.place.result c.slot.result.now c.self.invariant c.self.view_is c.requires c.place.ensures c.slot.ensures ∙ ap (held_of c.self.inside.bases) c.in-Om.is)) tt

pub returns-in-Value : goal.returns-in-Value
returns-in-Value c =
    subst (λ h. IsHeld h (content.Value (record { ref_ptr = (c.slot.result.ref_ptr.0, c.slot.result.ref_ptr.1 + 16); now = c.in-Value.value }))) (sym (slot_at c.self.inside.code.now c.self.inside.bases c.self.inside.keeps c.self.inside.at c.self.inside.environment.now c.self.inside.environment.kept c.args.self.now c.args.slot c.place.result c.slot.result.now c.self.invariant c.self.view_is c.requires c.place.ensures c.slot.ensures ∙ ap (held_of c.self.inside.bases) c.in-Value.is)) refl

pub returns-in-Taken : goal.returns-in-Taken
returns-in-Taken c =
    subst (λ h. IsHeld h content.Taken) (sym (slot_at c.self.inside.code.now c.self.inside.bases c.self.inside.keeps c.self.inside.at c.self.inside.environment.now c.self.inside.environment.kept c.args.self.now c.args.slot c.place.result c.slot.result.now c.self.invariant c.self.view_is c.requires c.place.ensures c.slot.ensures ∙ ap (held_of c.self.inside.bases) c.in-Taken.is)) tt

pub returns-in-Based : goal.returns-in-Based
returns-in-Based c =
    subst (λ h. IsHeld h content.Based) (sym (slot_at c.self.inside.code.now c.self.inside.bases c.self.inside.keeps c.self.inside.at c.self.inside.environment.now c.self.inside.environment.kept c.args.self.now c.args.slot c.place.result c.slot.result.now c.self.invariant c.self.view_is c.requires c.place.ensures c.slot.ensures ∙ ap (held_of c.self.inside.bases) c.in-Based.is)) tt
