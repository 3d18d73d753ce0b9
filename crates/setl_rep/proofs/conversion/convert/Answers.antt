use Rattle.std.proofs.Common.{◌≡◌, ◌∙◌, Some, ap, sym, subst}
use Rattle.setl_value.specs.code.DatumOf.{datum, part}
use Rattle.setl_modes.specs.Modes.{mode_of}
use Rattle.setl_rep_bases.specs.Bases.{named}
use Rattle.setl_rep_forms.specs.FormOf.{form}
use Rattle.setl_rep_plain.specs.Standing.{held_value}
use Rattle.setl_rep.specs.Standing.{AreLengthenedBy}
use Rattle.setl_rep.proofs.Converting.{om_has, has_form_or_om}
use Rattle.setl_rep.proofs.Ready.{stay_as_they_are}
use Rattle.setl_rep.proofs.conversion.convert.Goals as goal

pub returns-in-None-clause-form : goal.returns-in-None-clause-form
returns-in-None-clause-form c = om_has (named c.args.bases.now c.args.instance) (mode_of c.args.mode.now)

pub returns-in_ok-entered-in-Some-clause-form : goal.returns-in_ok-entered-in-Some-clause-form
returns-in_ok-entered-in-Some-clause-form c =
    has_form_or_om (named c.args.bases.now c.args.instance) (mode_of c.args.mode.now) (form c.in_ok-entered-in-Some.field-0) c.in_ok-entered-in-Some.ensures.form

pub returns-in_ok-entered-in-Some-clause-lengthened : goal.returns-in_ok-entered-in-Some-clause-lengthened
returns-in_ok-entered-in-Some-clause-lengthened c =
    let same : Some (datum c.in-Some.v) ≡ held_value c.args.bases.now c.args.h.now = ap part (sym c.in-Some.is) ∙ c.in_ok-v.ensures in
    subst (λ o. AreLengthenedBy (mode_of c.args.mode.now) o c.args.instance c.args.bases.now c.entered.new.bases) same c.in_ok-entered-in-Some.ensures.lengthened

pub returns-then-branch-clause-lengthened : goal.returns-then-branch-clause-lengthened
returns-then-branch-clause-lengthened c =
    let ready = c.in_ok-is_ready.ensures c.if-branch.true in
    subst (λ o. AreLengthenedBy (mode_of c.args.mode.now) o c.args.instance c.args.bases.now c.args.bases.now) (sym ready.stood)
    (stay_as_they_are c.parts_lengthen_alike.ensures (mode_of c.args.mode.now) ready.value c.args.instance c.args.bases.now ready.found)
