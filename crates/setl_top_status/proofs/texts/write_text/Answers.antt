use Rattle.std.proofs.Common.{refl}
use Rattle.setl_top_status.specs.code.Writes.{all_written, write_failed, write_starved}
use Rattle.setl_top_status.proofs.Tried.{one_by}
use Rattle.setl_top_status.proofs.texts.write_text.Goals as goal

pub returns-in-Ok : goal.returns-in-Ok
returns-in-Ok g c = all_written c.in-Ok.ensures.whole (one_by g.O.Sink.pieces _ _ _ c.in-Ok.ensures.uncalled c.in-Ok.ensures.piece) c.in-Ok.ensures.ok refl

pub returns-in-Err-Failed : goal.returns-in-Err-Failed
returns-in-Err-Failed g c =
    let known = rw c.in-Err-Failed.field-0-is at c.in-Err-Failed.ensures in
    rw c.break_off.ensures.tried.0 (write_failed known.part (known.failed refl) c.break_off.ensures.tried.1)

pub returns-in-Err-NoMemory : goal.returns-in-Err-NoMemory
returns-in-Err-NoMemory g c =
    let known = rw c.in-Err-NoMemory.field-0-is at c.in-Err-NoMemory.ensures in
    rw c.break_off-in-Err-NoMemory.ensures.tried.0 (write_starved known.part (known.no_memory refl) c.break_off-in-Err-NoMemory.ensures.tried.1)
