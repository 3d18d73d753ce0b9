use Rattle.setl_image_sound.proofs.verifying.own_of.Goals as goal
use Rattle.setl_image_sound.proofs.Assembling.{not_so, own_found_by}

pub returns-then-not-stand : goal.returns-then-not-stand
returns-then-not-stand c = not_so c.in_ok-stand.stand c.in_ok-stand.ensures c.if-not-stand.true

pub returns : goal.returns
returns c = (c.in_ok-stand.ensures.0 c.if-not-stand.false, own_found_by c.args.image.now c.args.vars.now c.as_slice.result.now c.in_ok-own.own c.requires.vars c.as_slice.ensures c.in_ok-own.ensures)
