use Rattle.setl_top.proofs.Exclude.{code_refused_only}
use Rattle.setl_top.proofs.laws.code_refused_exactly.Goals as goal

pub returns : goal.returns
returns c = code_refused_only c.one_command.ensures c.one_code.ensures.flaw c.one_code.ensures.not_both
