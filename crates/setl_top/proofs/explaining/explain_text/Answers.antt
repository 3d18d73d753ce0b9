use Rattle.std.proofs.Common.{refl}
use Rattle.setl_top.specs.code.Explains.{no_fault_in, refused_for, not_known}
use Rattle.setl_top.proofs.explaining.explain_text.Goals as goal

pub returns-in-Ok : goal.returns-in-Ok
returns-in-Ok g c = no_fault_in _ c.in-Ok.ensures.read.is_program refl refl

pub returns-in-Err-Refused : goal.returns-in-Err-Refused
returns-in-Err-Refused g c = refused_for _ _ (rw c.in-Err-Refused.field-0-is at c.in-Err-Refused.ensures.why) c.write_explanation.ensures

pub returns-in-Err-NoMemory : goal.returns-in-Err-NoMemory
returns-in-Err-NoMemory g c = rw c.break_off.ensures.tried.0 (not_known refl c.break_off.ensures.tried.1)
