use Rattle.std.proofs.Common.{◌∙◌, refl, sym}
use Rattle.setl_top.specs.code.CodeRuns.{put, no_room, no_dump}
use Rattle.setl_top.proofs.run.put_dump.Goals as goal

pub returns-then-not-is_own : goal.returns-then-not-is_own
returns-then-not-is_own c = no_dump (sym c.is_own.ensures ∙ c.if-not-is_own.true) refl

pub returns-in-Ok : goal.returns-in-Ok
returns-in-Ok c = put (sym c.is_own.ensures ∙ c.if-not-is_own.false) c.in-Ok.ensures.put

pub returns-in-Err : goal.returns-in-Err
returns-in-Err c = no_room (sym c.is_own.ensures ∙ c.if-not-is_own.false)
