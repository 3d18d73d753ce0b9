use Rattle.std.proofs.Common.{◌∙◌, ap, sym}
use Rattle.setl_value.specs.code.DatumOf.{datum}
use Rattle.setl_map.specs.Maps.{only}
use Rattle.setl_rep_forms.specs.FormOf.{form}
use Rattle.setl_rep_plain.specs.Standing.{held_value}
use Rattle.setl_rep_images.proofs.Selected.{gets, gets_nothing}
use Rattle.setl_rep_images.proofs.selecting.image.Goals as goal

pub returns-in-None-clause-value : goal.returns-in-None-clause-value
returns-in-None-clause-value c =
    gets_nothing c.args.bases.now (form c.args.f.now) c.in-Some.b c.in-Some.many (sym c.table_of.ensures ∙ c.in-Some.is) (datum c.args.x.now) c.in-None.ensures.images

pub returns-in_ok-one_of-in-Some-point_content-clause-value : goal.returns-in_ok-one_of-in-Some-point_content-clause-value
returns-in_ok-one_of-in-Some-point_content-clause-value c =
    gets c.args.bases.now (form c.args.f.now) c.in-Some.b c.in-Some.many (sym c.table_of.ensures ∙ c.in-Some.is) (datum c.args.x.now)
    (held_value c.args.bases.now c.in_ok-one_of-in-Some-point_content.field-0)
    (c.in_ok-one_of-in-Some-point_content.ensures.value ∙ ap only (sym c.in-Some-point_content.ensures.images))
