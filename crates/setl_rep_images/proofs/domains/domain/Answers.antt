use Rattle.std.proofs.lemmas.Result.{IfOk-weaker}
use Rattle.setl_rep_forms.specs.FormOf.{form}
use Rattle.setl_rep_images.proofs.Points.{told, stays_over}
use Rattle.setl_rep_images.proofs.domains.domain.Goals as goal

pub returns-clause-value : goal.returns-clause-value
returns-clause-value c =
    IfOk-weaker c.points.result _ _ (told c.numbers_are_domains.ensures c.args.bases.now (form c.args.f.now) c.requires c.learn.ensures) c.points.ensures.form

pub returns-clause-over : goal.returns-clause-over
returns-clause-over c =
    IfOk-weaker c.points.result _ _ (stays_over c.numbers_are_domains.ensures c.args.bases.now (form c.args.f.now) c.requires c.learn.ensures) c.points.ensures.form
