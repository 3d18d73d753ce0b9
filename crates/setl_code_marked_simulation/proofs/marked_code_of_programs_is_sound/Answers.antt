use Rattle.setl_code_marked_simulation.proofs.Joining.{sound_of_programs}
use Rattle.setl_code_marked_simulation.proofs.marked_code_of_programs_is_sound.Goals as goal

pub returns : goal.returns
returns c = sound_of_programs c.code_of_programs_is_sound.ensures.sound c.marked_code_is_sound.ensures
