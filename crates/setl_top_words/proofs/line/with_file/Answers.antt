use Rattle.std.proofs.Common.{rules}
use Rattle.clap.specs.Words.{new_app}
use Rattle.setl_top_words.proofs.line.with_file.Goals as goal

pub returns : goal.returns
returns c = c.with_arg.ensures (new_app c.args.name.now) _ (search rules, search rules) c.file.ensures.rule c.file.ensures.local
