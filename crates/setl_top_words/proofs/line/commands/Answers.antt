use Rattle.std.proofs.lemmas.Result.{IfOk-weaker}
use Rattle.setl_top_words.proofs.line.commands.Goals as goal

pub returns : goal.returns
returns c =
    let first = c.with_command-command.ensures _ _ c.program.ensures c.run.ensures in
    let second = c.with_command-command-2.ensures _ _ first c.run-2.ensures in
    let third = c.with_command-command-3.ensures _ _ second c.with_file.ensures in
    let fourth = c.with_command-command-4.ensures _ _ third c.with_file-2.ensures in
    let fifth = c.with_command-command-5.ensures _ _ fourth c.with_file-3.ensures in
    let sixth = c.with_command-command-6.ensures _ _ fifth c.with_file-4.ensures in
    let seventh = c.with_command-command-7.ensures _ _ sixth c.explain.ensures in
    let eighth = c.with_command-command-8.ensures _ _ seventh c.debug.ensures in
    IfOk-weaker c.with_command.result _ _ (λ m h. h.0) (c.with_command.ensures _ _ eighth c.trial.ensures)
