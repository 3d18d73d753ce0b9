use Rattle.setl_image_sound.proofs.Assembling.{not_so}
use Rattle.setl_image_sound.proofs.verifying.verify.Goals as goal

pub returns-then-so-clause-sound : goal.returns-then-so-clause-sound
returns-then-so-clause-sound c = c.in_ok-so.ensures.0 c.if-so.true

pub returns-else-so-clause-unsound : goal.returns-else-so-clause-unsound
returns-else-so-clause-unsound c = not_so c.in_ok-so.so c.in_ok-so.ensures c.if-so.false
