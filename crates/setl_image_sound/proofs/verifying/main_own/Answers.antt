use Rattle.setl_image_sound.proofs.Assembling.{main_none, main_some}
use Rattle.setl_image_sound.proofs.verifying.main_own.Goals as goal

pub returns-in-None : goal.returns-in-None
returns-in-None c = main_none c.args.bodies.now c.in-None.ensures.value

pub returns-in-Some : goal.returns-in-Some
returns-in-Some c = main_some c.args.bodies.now c.in-Some.main.now c.as_slice.result.now c.in-Some.ensures.value c.as_slice.ensures
