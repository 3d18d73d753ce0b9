use Rattle.std.proofs.Common.{rules}
use Rattle.clap.specs.Words.{new_app}
use Rattle.setl_top_words.proofs.line.run.Goals as goal

pub returns : goal.returns
returns c =
    let first = c.with_arg-command.ensures (new_app c.args.name.now) _ (search rules, search rules) c.unbased.ensures.rule c.unbased.ensures.local in
    let second = c.with_arg-command-2.ensures _ _ first c.dump.ensures.rule c.dump.ensures.local in
    let third = c.with_arg-command-3.ensures _ _ second c.turns.ensures.rule c.turns.ensures.local in
    let fourth = c.with_arg-command-4.ensures _ _ third c.watch.ensures.rule c.watch.ensures.local in
    c.with_arg.ensures _ _ fourth c.file.ensures.rule c.file.ensures.local
