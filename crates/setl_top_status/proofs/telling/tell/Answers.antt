use Rattle.std.proofs.Common.{refl, ap, arith}
use Rattle.setl_top_status.specs.Seen.{seen}
use Rattle.setl_top_status.specs.code.Tells.{whole, failed, starved}
use Rattle.setl_top_status.proofs.Tried.{one_by}
use Rattle.setl_top_status.proofs.telling.tell.Goals as goal

pub returns-in-Ok : goal.returns-in-Ok
returns-in-Ok g c = record { told = whole c.in-Ok.ensures.whole (one_by g.E.Sink.pieces _ _ _ c.in-Ok.ensures.uncalled c.in-Ok.ensures.piece) c.in-Ok.ensures.ok (λ none. ap (seen g.E.Sink.held g.E.Sink.pieces g.E.Sink.faults) (c.in-Ok.ensures.uncalled none)) }

pub returns-in-Err-Failed : goal.returns-in-Err-Failed
returns-in-Err-Failed g c =
    let known = rw c.in-Err-Failed.field-0-is at c.in-Err-Failed.ensures in
    let then = seen g.E.Sink.held g.E.Sink.pieces g.E.Sink.faults c.write_all.new.sink in
    record { told = rw c.break_off.ensures.tried.0 (failed (record { then = then; piece = known.piece (omega (arith, known.part.1)); part = known.part; count = known.failed refl; tried = c.break_off.ensures.tried.1 })) }

pub returns-in-Err-NoMemory : goal.returns-in-Err-NoMemory
returns-in-Err-NoMemory g c =
    let known = rw c.in-Err-NoMemory.field-0-is at c.in-Err-NoMemory.ensures in
    let then = seen g.E.Sink.held g.E.Sink.pieces g.E.Sink.faults c.write_all.new.sink in
    let tried = c.break_off-in-Err-NoMemory.ensures.tried in
    record { told = rw tried.0 (starved (record { then = then; piece = known.piece (omega (arith, known.part.1)); part = known.part; count = known.no_memory refl; tried = tried.1 })) }
