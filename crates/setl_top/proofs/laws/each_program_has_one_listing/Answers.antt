use Rattle.setl_top.proofs.Marking.{one_listing}
use Rattle.setl_top.proofs.laws.each_program_has_one_listing.Goals as goal

pub returns : goal.returns
returns c = one_listing c.each_code_has_one_marked_code.ensures.there c.each_code_has_one_marked_code.ensures.one
