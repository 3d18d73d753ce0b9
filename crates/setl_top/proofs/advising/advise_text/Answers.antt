use Rattle.std.proofs.Common.{refl}
use Rattle.setl_top.specs.code.Advises.{of_refused, not_read_through}
use Rattle.setl_top.proofs.advising.advise_text.Goals as goal

pub advise_program-requires : goal.advise_program-requires
advise_program-requires g c = c.in-Ok.ensures.read.is_program

pub returns-in-Err-Refused : goal.returns-in-Err-Refused
returns-in-Err-Refused g c = of_refused _ _ (rw c.in-Err-Refused.field-0-is at c.in-Err-Refused.ensures.why) refl c.refuse.ensures.told

pub returns-in-Err-NoMemory : goal.returns-in-Err-NoMemory
returns-in-Err-NoMemory g c = rw c.break_off.ensures.tried.0 (not_read_through refl c.break_off.ensures.tried.1)
