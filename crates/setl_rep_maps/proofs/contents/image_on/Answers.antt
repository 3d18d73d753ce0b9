use Rattle.std.proofs.Common.{◌≡◌, ◌∙◌, Some, sym, ap}
use Rattle.setl_value.specs.code.DatumOf.{datum}
use Rattle.setl_base.specs.Base.{find}
use Rattle.setl_rep_bases.specs.Bases.{base_at}
use Rattle.setl_rep_forms.specs.FormOf.{form}
use Rattle.setl_rep_forms.specs.Stands.{value_at}
use Rattle.setl_rep_maps.specs.Contents.{images_from}
use Rattle.setl_rep_maps.proofs.Tabled.{base_there, has_base, is_point, no_images}
use Rattle.setl_rep_maps.proofs.contents.image_on.Goals as goal

pub at-requires : goal.at-requires
at-requires c = base_there c.args.bases.now (form c.args.map.now) c.args.base c.args.many c.requires.table c.requires.over

pub returns-in-None : goal.returns-in-None
returns-in-None c =
    let bs = c.args.bases.now in
    let f = form c.args.map.now in
    let x = datum c.args.x.now in
    c.contents_stand_for_images.ensures.none bs f c.args.base c.args.many x c.requires.table c.learn.ensures (has_base bs f c.args.base c.args.many c.requires.table c.at.ensures.known)
    (ap (λ b. find b x) (sym c.at.ensures.base) ∙ c.in-None.ensures.none)
    ∙ no_images bs f

pub returns-in-Some : goal.returns-in-Some
returns-in-Some c =
    let bs = c.args.bases.now in
    let f = form c.args.map.now in
    let x = datum c.args.x.now in
    let at : value_at (base_at bs c.args.base) c.in-Some.n ≡ Some x = ap (λ b. value_at b c.in-Some.n) (sym c.at.ensures.base) ∙ c.in-Some.ensures.known in
    c.contents_stand_for_images.ensures.images bs f c.in-Some.n x c.requires.over c.learn.ensures (has_base bs f c.args.base c.args.many c.requires.table c.at.ensures.known) (is_point bs f c.args.base c.args.many c.in-Some.n x c.requires.table at)
    ∙ ap (images_from bs f) (sym c.content.ensures)
