use Rattle.setl_top_words.proofs.Commands.{one_command}
use Rattle.setl_top_words.proofs.laws.one_command.Goals as goal

pub returns : goal.returns
returns c = one_command
