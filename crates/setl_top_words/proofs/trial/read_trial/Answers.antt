use Rattle.std.proofs.Common.{map, string_bytes}
use Rattle.setl_top_words.proofs.Order.{always}
use Rattle.setl_top_words.proofs.Commands.{no_nodes}
use Rattle.setl_top_words.proofs.trial.read_trial.Goals as goal

pub returns-in_err-nodes-clause-none : goal.returns-in_err-nodes-clause-none
returns-in_err-nodes-clause-none c = always _ (no_nodes (map string_bytes c.args.between.now) c.args.last.now c.in_err-nodes.ensures.none)
