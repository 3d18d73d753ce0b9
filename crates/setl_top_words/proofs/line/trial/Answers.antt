use Rattle.std.proofs.Common.{codes, rules}
use Rattle.clap.specs.Words.{new_app}
use Rattle.setl_top_words.proofs.line.trial.Goals as goal

pub returns : goal.returns
returns c =
    let first = c.with_arg-command.ensures (new_app (codes "trial")) _ (search rules, search rules) c.seed.ensures.rule c.seed.ensures.local in
    c.with_arg.ensures _ _ first c.nodes.ensures.rule c.nodes.ensures.local
