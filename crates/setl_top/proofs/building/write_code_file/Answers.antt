use Rattle.std.proofs.Common.{refl}
use Rattle.setl_top.specs.code.Builds.{code_written, code_too_long, code_starved}
use Rattle.setl_top.proofs.building.write_code_file.Goals as goal

pub returns-in-Ok-Some : goal.returns-in-Ok-Some
returns-in-Ok-Some g c = code_written c.in-Ok-Some.bytes.items _ (rw c.in-Ok-Some.field-0-is at c.in-Ok-Some.ensures) (rw c.deref.ensures.value at c.write_text.ensures)

pub returns-in-Ok-None : goal.returns-in-Ok-None
returns-in-Ok-None g c = code_too_long _ (rw c.in-Ok-None.field-0-is at c.in-Ok-None.ensures) refl (rw c.flaw_line.ensures at c.tell.ensures.told)

pub returns-in-Err : goal.returns-in-Err
returns-in-Err g c = rw c.break_off.ensures.tried.0 (code_starved refl c.break_off.ensures.tried.1)
