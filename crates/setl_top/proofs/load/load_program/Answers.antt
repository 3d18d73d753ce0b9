use Rattle.setl_top.proofs.Loading.{not_loaded_by, not_accepted_then, no_room_then}
use Rattle.setl_top.proofs.load.load_program.Goals as goal

pub returns-in-Err-clause-not_loaded : goal.returns-in-Err-clause-not_loaded
returns-in-Err-clause-not_loaded g c = not_loaded_by _ _ _ _ _ _ c.in-Err.ensures.not_loaded

pub returns-in-Err-Refused-clause-not_loaded : goal.returns-in-Err-Refused-clause-not_loaded
returns-in-Err-Refused-clause-not_loaded g c =
    let known = c.in-Ok.ensures in
    let why = rw c.deref.ensures.value at (rw c.in-Err-Refused.field-0-is at c.in-Err-Refused.ensures.why) in
    not_accepted_then _ _ _ _ _ known.still _ c.in-Ok.source.items c.in-Err-Refused.reason _ known.loaded.text why c.refuse.ensures.told

pub returns-in-Err-NoMemory-clause-not_loaded : goal.returns-in-Err-NoMemory-clause-not_loaded
returns-in-Err-NoMemory-clause-not_loaded g c = rw c.break_off.ensures.tried.0 (no_room_then _ _ _ _ _ c.in-Ok.ensures.still _ c.break_off.ensures.tried.1)
