use Rattle.setl_code_marked.proofs.Soundness.{marked_is_sound}
use Rattle.setl_code_marked.proofs.marked_code_is_sound.Goals as goal

pub returns : goal.returns
returns c = marked_is_sound
