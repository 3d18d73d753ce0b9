use Rattle.std.proofs.Common.{◌∙◌, ap}
use Rattle.setl_value.specs.code.DatumOf.{datum}
use Rattle.setl_rep_forms.specs.Form.{plain}
use Rattle.setl_rep_forms.specs.FormOf.{form, of_plain}
use Rattle.setl_rep_updates.proofs.Excluding.{excluded}
use Rattle.setl_rep_updates.proofs.sets.exclude.Goals as goal

pub returns-in-Ok-clause-update : goal.returns-in-Ok-clause-update
returns-in-Ok-clause-update c = λ m n h.
    excluded c.parts_decide.ensures.combined c.parts_lengthen_alike.ensures m n (datum c.args.x.now) c.args.bases.now (form c.args.s.now) (form c.change.new.s) _ c.in-Ok.done h
    (of_plain c.in_ok-own.own ∙ ap (λ v. plain (datum v)) c.in_ok-own.ensures.same)
    (rw c.in-Ok.is at c.change.ensures.kernel) c.change.ensures.form c.change.ensures.over (rw c.in-Ok.is at c.change.ensures.none) (rw c.in-Ok.is at c.change.ensures.value)
