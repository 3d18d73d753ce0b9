use Rattle.setl_code_few.proofs.Bytes.{tokens_are_few}
use Rattle.setl_code_few.proofs.tokens_are_few.Goals as goal

pub returns : goal.returns
returns c = tokens_are_few
