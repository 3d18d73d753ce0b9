use Rattle.setl_top_words.specs.Line.{told_app}
use Rattle.setl_top_words.proofs.line.explain.Goals as goal

pub returns : goal.returns
returns c =
    let first = c.with_arg-command.ensures told_app _ c.told.ensures c.stop.ensures.rule c.stop.ensures.local in
    c.with_arg.ensures _ _ first c.explained.ensures.rule c.explained.ensures.local
