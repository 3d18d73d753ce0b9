use Rattle.std.proofs.Common.{◌∙◌, ap}
use Rattle.setl_image_sound.specs.SoundImage.{main_names}
use Rattle.setl_image_sound.proofs.Assembling.{stand_by}
use Rattle.setl_image_sound.proofs.verifying.all_stand.Goals as goal

pub returns : goal.returns
returns c =
    stand_by c.stand_once.result c.args.vars.now c.main_own-main.result.now (main_names c.args.image.now.code.bodies) c.as_slice-2.result.now c.args.image.now.modes.vars (c.main_own-main.ensures ∙ ap main_names c.as_slice.ensures) c.as_slice-2.ensures c.stand_once.ensures
