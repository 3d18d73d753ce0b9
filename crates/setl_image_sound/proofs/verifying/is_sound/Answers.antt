use Rattle.std.proofs.Common.{subst}
use Rattle.std.specs.Prelude.{MatchOption}
use Rattle.setl_image.specs.Views.{image_of}
use Rattle.setl_image_sound.proofs.Assembling.{refuse, refuse_by, last_by, none_of, some_of, counts_tell, few_of_sound, names_of_sound, parts_of_sound, sound_of_parts}
use Rattle.setl_image_sound.proofs.verifying.is_sound.Goals as goal

pub returns-then-not-are_few : goal.returns-then-not-are_few
returns-then-not-are_few c = refuse c.are_few.result (counts_tell c.args.image.now c.are_few.result c.are_few.ensures) c.if-not-are_few.true (few_of_sound c.args.image.now)

pub returns-then-not-modes_are_sound : goal.returns-then-not-modes_are_sound
returns-then-not-modes_are_sound c = refuse c.modes_are_sound.result c.modes_are_sound.ensures c.if-not-modes_are_sound.true (λ s. s.modes)

pub returns-in-None : goal.returns-in-None
returns-in-None c = refuse_by (none_of _ _ c.in_ok-found.found c.in-None.is c.in_ok-found.ensures) (names_of_sound c.args.image.now)

pub are_sound-requires : goal.are_sound-requires
are_sound-requires c = record { own = (some_of _ _ c.in_ok-found.found c.in-Some.own c.in-Some.is c.in_ok-found.ensures).1 }

pub returns-in-Some : goal.returns-in-Some
returns-in-Some c =
    last_by c.are_sound.result
    (sound_of_parts c.args.image.now ((counts_tell c.args.image.now c.are_few.result c.are_few.ensures).0 c.if-not-are_few.false) (c.modes_are_sound.ensures.0 c.if-not-modes_are_sound.false) (some_of _ _ c.in_ok-found.found c.in-Some.own c.in-Some.is c.in_ok-found.ensures).0)
    (parts_of_sound c.args.image.now) c.are_sound.ensures
