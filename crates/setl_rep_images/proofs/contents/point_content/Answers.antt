use Rattle.std.proofs.Common.{◌≡◌, ◌∙◌, Some, sym, ap}
use Rattle.setl_value.specs.code.DatumOf.{datum}
use Rattle.setl_rep_bases.specs.Bases.{base_at}
use Rattle.setl_rep_forms.specs.FormOf.{form}
use Rattle.setl_rep_forms.specs.Stands.{value_at}
use Rattle.setl_rep_maps.specs.Contents.{images_from}
use Rattle.setl_rep_maps.specs.code.Lent.{lent_form}
use Rattle.setl_rep_images.proofs.Selected.{images_at, images_in_content, is_content, is_readable, is_shallow}
use Rattle.setl_rep_images.proofs.contents.point_content.Goals as goal

pub returns-in-Some-clause-images : goal.returns-in-Some-clause-images
returns-in-Some-clause-images c =
    let bs = c.args.bases.now in
    let f = form c.args.f.now in
    let at : value_at (base_at bs c.args.b) c.in-Some.n ≡ Some (datum c.args.x.now) = ap (λ b. value_at b c.in-Some.n) (sym c.at.ensures.base) ∙ c.in-Some.ensures.known in
    images_at bs f c.args.b c.args.many c.requires.table c.contents_stand_for_images.ensures.images c.requires.held.over c.learn.ensures c.at.ensures.known c.in-Some.n (datum c.args.x.now) at
    ∙ ap (images_from bs f) (sym c.content.ensures)
    ∙ images_in_content bs f c.args.b c.args.many c.requires.table (lent_form c.content.result)

pub returns-in-Some-clause-over : goal.returns-in-Some-clause-over
returns-in-Some-clause-over c =
    let bs = c.args.bases.now in
    let f = form c.args.f.now in
    let at : value_at (base_at bs c.args.b) c.in-Some.n ≡ Some (datum c.args.x.now) = ap (λ b. value_at b c.in-Some.n) (sym c.at.ensures.base) ∙ c.in-Some.ensures.known in
    is_readable bs f c.args.b c.args.many c.requires.table c.in-Some.n (datum c.args.x.now) c.content.result c.requires.held.shallow c.content.ensures
    (images_at bs f c.args.b c.args.many c.requires.table c.contents_stand_for_images.ensures.images c.requires.held.over c.learn.ensures c.at.ensures.known c.in-Some.n (datum c.args.x.now) at)
    c.requires.held.over

pub returns-in-Some-clause-shallow : goal.returns-in-Some-clause-shallow
returns-in-Some-clause-shallow c =
    let bs = c.args.bases.now in
    let f = form c.args.f.now in
    let at : value_at (base_at bs c.args.b) c.in-Some.n ≡ Some (datum c.args.x.now) = ap (λ b. value_at b c.in-Some.n) (sym c.at.ensures.base) ∙ c.in-Some.ensures.known in
    is_shallow bs f c.args.b c.args.many c.requires.table c.in-Some.n (datum c.args.x.now) c.content.result c.requires.held.shallow c.content.ensures
    (images_at bs f c.args.b c.args.many c.requires.table c.contents_stand_for_images.ensures.images c.requires.held.over c.learn.ensures c.at.ensures.known c.in-Some.n (datum c.args.x.now) at)

pub returns-in-Some-clause-content : goal.returns-in-Some-clause-content
returns-in-Some-clause-content c =
    is_content c.args.bases.now (form c.args.f.now) c.args.b c.args.many c.requires.table c.in-Some.n c.content.result c.requires.held.over c.content.ensures
