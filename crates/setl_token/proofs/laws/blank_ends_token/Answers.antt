use Rattle.setl_token.proofs.Separated.{token_apart}
use Rattle.setl_token.proofs.laws.blank_ends_token.Goals as goal

pub returns : goal.returns
returns c = token_apart
