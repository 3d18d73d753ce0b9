use Rattle.setl_code_soundness.proofs.Bodies as bodies
use Rattle.setl_code_soundness.proofs.Closing as closing
use Rattle.setl_code_soundness.proofs.code_of_programs_is_sound.Goals as goal

pub returns-clause-sound : goal.returns-clause-sound
returns-clause-sound c = bodies.code_of_programs_is_sound

pub returns-clause-closed : goal.returns-clause-closed
returns-clause-closed c = closing.code_of_programs_is_closed
