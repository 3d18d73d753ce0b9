use Rattle.std.proofs.Common.{◌∙◌}
use Rattle.setl_image_sound.proofs.Assembling.{none_of, some_of, names_none, names_some, differ_of}
use Rattle.setl_image_sound.proofs.verifying.sound_names.Goals as goal

pub returns-in-None : goal.returns-in-None
returns-in-None c = names_none c.args.image.now c.as_slice.result.now c.as_slice.ensures (none_of _ _ c.in_ok-found.found c.in-None.is c.in_ok-found.ensures)

pub own_of-requires : goal.own_of-requires
own_of-requires c = record { vars = (some_of _ _ c.in_ok-found.found c.in-Some.vars c.in-Some.is c.in_ok-found.ensures).0 ∙ c.as_slice.ensures }

pub returns-in-Some : goal.returns-in-Some
returns-in-Some c =
    names_some c.own_of.result c.args.image.now (differ_of c.as_slice.result.now c.args.image.now.code.vars c.as_slice.ensures (some_of _ _ c.in_ok-found.found c.in-Some.vars c.in-Some.is c.in_ok-found.ensures).1) _ c.own_of.ensures
