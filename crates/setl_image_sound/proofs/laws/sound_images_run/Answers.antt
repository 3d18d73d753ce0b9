use Rattle.setl_code.specs.Plain.{plain_code}
use Rattle.setl_image_sound.specs.SoundImage.{declared_of, declarations_of}
use Rattle.setl_image_sound.proofs.Assembling.{only_main}
use Rattle.setl_image_sound.proofs.laws.sound_images_run.Goals as goal

pub returns-clause-ends : goal.returns-clause-ends
returns-clause-ends c i sound input turns based = c.every_run_of_sound_code_ends.ensures.ends (plain_code i.code) (declared_of i) sound.sound (declarations_of i) input turns based

pub returns-clause-not_stuck : goal.returns-clause-not_stuck
returns-clause-not_stuck c i sound input turns based out means = c.every_run_of_sound_code_ends.ensures.not_stuck (plain_code i.code) (declared_of i) sound.sound (declarations_of i) input turns based out means

pub returns-clause-only_main : goal.returns-clause-only_main
returns-clause-only_main c = only_main
