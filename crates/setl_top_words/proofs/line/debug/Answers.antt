use Rattle.std.proofs.Common.{codes, rules}
use Rattle.clap.specs.Words.{new_app}
use Rattle.setl_top_words.proofs.line.debug.Goals as goal

pub returns : goal.returns
returns c =
    let first = c.with_arg-command.ensures (new_app (codes "debug")) _ (search rules, search rules) c.unbased.ensures.rule c.unbased.ensures.local in
    c.with_arg.ensures _ _ first c.file.ensures.rule c.file.ensures.local
