use Rattle.std.proofs.Common.{sym, subst}
use Rattle.setl_value.specs.code.DatumOf.{datum}
use Rattle.setl_modes.specs.declared.mode.Mode.{Mode}
use Rattle.setl_rep_forms.specs.declared.held.Held.{Held as Form}
use Rattle.setl_store_slots.specs.declared.cells.Held.TheVariants as held
use Rattle.setl_store_slots.specs.Slots.{IsStanding}
use Rattle.setl_store_slots.proofs.InSlots.{formed_standing}
use Rattle.setl_store_slots.proofs.forming.in_slot.Goals as goal

pub returns-clause-standing : goal.returns-clause-standing
returns-clause-standing c =
    subst (λ (p : Mode × Form). IsStanding c.args.bases.now (held.Based p.0 p.1)) (λ i. (sym c.in_ok-beside.ensures i, sym c.in_ok-held.ensures i))
    (formed_standing c.args.bases.now c.args.mode.now c.in_ok-own.own (datum c.args.value.now) c.in_ok-form.form c.requires.there c.requires.fits c.learn.ensures c.requires.found
    c.in_ok-form.ensures.over c.in_ok-form.ensures.stands c.in_ok-form.ensures.form c.in_ok-own.ensures)
