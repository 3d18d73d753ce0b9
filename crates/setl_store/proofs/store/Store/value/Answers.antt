use Rattle.std.proofs.Common.{◌∙◌, ◌<◌, length, sym, subst}
use Rattle.setl_value.specs.code.DatumOf.{part}
use Rattle.setl_store.specs.Operands.{IsThere}
use Rattle.setl_store.proofs.Slots.{place_within, slot_at}
use Rattle.setl_store.proofs.StandingSlots.{standing_at, there_by_content, gone_by_content}
use Rattle.setl_store.proofs.store.Store.value.Goals as goal

pub place-at-requires-clause-there : goal.place-at-requires-clause-there
place-at-requires-clause-there c = place_within c.self.inside.code.now c.self.inside.bases c.self.inside.at c.self.inside.environment.now c.self.inside.environment.kept c.args.self.now c.args.slot c.self.invariant.1 c.self.view_is c.requires.slot

pub slot-requires : goal.slot-requires
slot-requires c =
    subst (λ n. n < length c.self.inside.environment.now.slots) (sym c.place-at.ensures)
    (place_within c.self.inside.code.now c.self.inside.bases c.self.inside.at c.self.inside.environment.now c.self.inside.environment.kept c.args.self.now c.args.slot c.self.invariant.1 c.self.view_is c.requires.slot)

pub content-requires : goal.content-requires
content-requires c = standing_at c.self.inside.bases c.self.inside.environment.now.slots c.place-at.result c.slot.result.now c.self.invariant.2.standing c.slot.ensures

pub returns-in-Some : goal.returns-in-Some
returns-in-Some c =
    slot_at c.self.inside.code.now c.self.inside.bases c.self.inside.keeps c.self.inside.at c.self.inside.environment.now c.self.inside.environment.kept c.args.self.now c.args.slot c.place-at.result c.slot.result.now
    c.self.invariant c.self.view_is c.requires.slot c.place-at.ensures c.slot.ensures
    ∙ there_by_content c.self.inside.bases c.slot.result.now (part c.in-Some.value) (rw c.in-Some.is at c.in_ok-value.ensures)

pub returns-in-None : goal.returns-in-None
returns-in-None c =
    absurd (subst IsThere
    (slot_at c.self.inside.code.now c.self.inside.bases c.self.inside.keeps c.self.inside.at c.self.inside.environment.now c.self.inside.environment.kept c.args.self.now c.args.slot c.place-at.result c.slot.result.now
    c.self.invariant c.self.view_is c.requires.slot c.place-at.ensures c.slot.ensures
    ∙ gone_by_content c.self.inside.bases c.slot.result.now (rw c.in-None.is at c.in_ok-value.ensures))
    c.requires.there)
