use Rattle.setl_top.proofs.Images.{files_alike}
use Rattle.setl_top.proofs.laws.code_files_run_alike.Goals as goal

pub returns : goal.returns
returns c = files_alike c.one_code.ensures.image c.accepted_is_formed.ensures.formed c.marked_code_means_what_the_program_means.ensures.ends c.marked_code_reaches_the_same_states.ensures.last c.code_lays_out_what_is_meant.ensures.marked
