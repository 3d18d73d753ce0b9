use Rattle.std.proofs.Common.{◌∙◌, ap, refl, sym, subst}
use Rattle.std.specs.Prelude.{Some}
use Rattle.setl_rep_plain.specs.Standing.{held_value, IsHeldOver}
use Rattle.setl_store_slots.specs.Slots.{content_of, IsStanding}
use Rattle.setl_store.proofs.StandingSlots.{standing_at, value_content, value_standing}
use Rattle.setl_store.proofs.Updating.{left_again, plain_again}
use Rattle.setl_store.proofs.putting.plain_at.Goals as goal

pub returns-in_default : goal.returns-in_default
returns-in_default c = record {
  again = left_again c.args.bases.now c.args.at c.args.environment.now.now c.args.environment.now.now c.slot.result.now c.slot.ensures refl (standing_at c.args.bases.now c.args.environment.now.now.slots c.args.at c.slot.result.now c.requires.standing c.slot.ensures);
  kept = refl;
}

pub plain-requires-clause-over : goal.plain-requires-clause-over
plain-requires-clause-over c =
    (subst (IsHeldOver c.args.bases.now) (sym c.get.ensures) (subst (IsStanding c.args.bases.now) c.in-Based.is (standing_at c.args.bases.now c.args.environment.now.now.slots c.args.at c.slot.result.now c.requires.standing c.slot.ensures)).0).over

pub plain-requires-clause-shallow : goal.plain-requires-clause-shallow
plain-requires-clause-shallow c =
    (subst (IsHeldOver c.args.bases.now) (sym c.get.ensures) (subst (IsStanding c.args.bases.now) c.in-Based.is (standing_at c.args.bases.now c.args.environment.now.now.slots c.args.at c.slot.result.now c.requires.standing c.slot.ensures)).0).shallow

pub returns-in_err-value-clause-again : goal.returns-in_err-value-clause-again
returns-in_err-value-clause-again c =
    left_again c.args.bases.now c.args.at c.args.environment.now.now c.args.environment.now.now c.slot.result.now c.slot.ensures refl (standing_at c.args.bases.now c.args.environment.now.now.slots c.args.at c.slot.result.now c.requires.standing c.slot.ensures)

pub returns-in_err-reserve-clause-again : goal.returns-in_err-reserve-clause-again
returns-in_err-reserve-clause-again c =
    left_again c.args.bases.now c.args.at c.args.environment.now.now c.reserve.new.self.now c.slot.result.now c.slot.ensures c.reserve.ensures.now (standing_at c.args.bases.now c.args.environment.now.now.slots c.args.at c.slot.result.now c.requires.standing c.slot.ensures)

pub returns-clause-again : goal.returns-clause-again
returns-clause-again c =
    plain_again c.args.bases.now c.args.at c.args.environment.now.now c.reserve.new.self.now c.set_slot.new.self.now c.slot.result.now c.held.result c.slot.ensures c.reserve.ensures.now c.set_slot.ensures.now
    (subst (IsStanding c.args.bases.now) (sym c.held.ensures) (value_standing c.args.bases.now c.in_ok-value.value))
    (ap (content_of c.args.bases.now) c.held.ensures
    ∙ value_content c.args.bases.now c.in_ok-value.value
    ∙ ap (λ v. Some v) (c.in_ok-value.ensures ∙ ap (held_value c.args.bases.now) c.get.ensures)
    ∙ sym (ap (content_of c.args.bases.now) c.in-Based.is))
