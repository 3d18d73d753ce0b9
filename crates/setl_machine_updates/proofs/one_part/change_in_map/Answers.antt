use Rattle.setl_value.specs.code.Body.{Members}
use Rattle.setl_value.specs.code.DatumOf.{datum}
use Rattle.setl_machine_updates.proofs.Image.{image_changed}
use Rattle.setl_machine_updates.proofs.Parts.{answered}
use Rattle.setl_machine_updates.proofs.one_part.change_in_map.Goals as goal

pub change_image-requires-clause-grows : goal.change_image-requires-clause-grows
change_image-requires-clause-grows g c = λ d there small. c.requires.grows d small

pub returns-in-Some-clause-changed : goal.returns-in-Some-clause-changed
returns-in-Some-clause-changed g c =
    let k = answered _ c.in_ok-change_image.field-0 c.in-Some.answer c.in-Some.is c.in_ok-change_image.ensures.changed in
    image_changed _ _ (Members c.args.f.now) (Members c.change_image.new.f) (datum c.args.x.now) c.in-Some.answer _ k c.learn.ensures.1
