use Rattle.std.proofs.Common.{◌∙◌, Some, ap, sym}
use Rattle.setl_value.specs.code.DatumOf.{datum}
use Rattle.setl_value.specs.Datum.{set_of}
use Rattle.setl_rep_forms.specs.FormOf.{form}
use Rattle.setl_rep_plain.specs.Standing.{held_value}
use Rattle.setl_rep_images.proofs.Selected.{selects}
use Rattle.setl_rep_images.proofs.selecting.images.Goals as goal

pub returns-in_ok-no_images-in-None-clause-value : goal.returns-in_ok-no_images-in-None-clause-value
returns-in_ok-no_images-in-None-clause-value c =
    selects c.args.bases.now (form c.args.f.now) c.in-Some.b c.in-Some.many (sym c.table_of.ensures ∙ c.in-Some.is) (datum c.args.x.now)
    (held_value c.args.bases.now c.in_ok-no_images-in-None.field-0)
    (c.in_ok-no_images-in-None.ensures.value c.args.bases.now ∙ ap (λ l. Some (set_of l)) (sym c.in-None.ensures.images))

pub returns-in_ok-all_of-in-Some-point_content-clause-value : goal.returns-in_ok-all_of-in-Some-point_content-clause-value
returns-in_ok-all_of-in-Some-point_content-clause-value c =
    selects c.args.bases.now (form c.args.f.now) c.in-Some.b c.in-Some.many (sym c.table_of.ensures ∙ c.in-Some.is) (datum c.args.x.now)
    (held_value c.args.bases.now c.in_ok-all_of-in-Some-point_content.field-0)
    (c.in_ok-all_of-in-Some-point_content.ensures.value ∙ ap (λ l. Some (set_of l)) (sym c.in-Some-point_content.ensures.images))
