use Rattle.setl_top_words.proofs.Building.{builds_arg}
use Rattle.setl_top_words.proofs.line.with_arg.Goals as goal

pub returns-in-Ok : goal.returns-in-Ok
returns-in-Ok c app rule so is local =
    builds_arg app rule c.in-Ok.command c.args.arg c.arg.result c.arg.ensures (rw c.in-Ok.is at so) is local
