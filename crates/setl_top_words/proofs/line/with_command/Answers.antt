use Rattle.setl_top_words.proofs.Building.{builds_command}
use Rattle.setl_top_words.proofs.line.with_command.Goals as goal

pub returns-in-Ok-Ok : goal.returns-in-Ok-Ok
returns-in-Ok-Ok c app sub above below =
    builds_command app sub c.in-Ok-Ok.upper c.in-Ok-Ok.lower c.subcommand.result c.subcommand.ensures (rw c.in-Ok-Ok.is-0 at above) (rw c.in-Ok-Ok.is-1 at below)
