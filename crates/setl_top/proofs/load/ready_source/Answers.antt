use Rattle.setl_top.proofs.Accepting.{is_accepted}
use Rattle.setl_top.proofs.Loading.{no_room_then}
use Rattle.setl_top.proofs.Readies.{source_held}
use Rattle.setl_top.proofs.load.ready_source.Goals as goal

pub ready_of_source-requires : goal.ready_of_source-requires
ready_of_source-requires g c =
    let l = c.in-Ok.ensures.loaded in
    record { modes = c.in-Ok.ensures.modes; accepted = is_accepted l.source c.in-Ok.source.tree l.is_program }

pub returns-in-Ok-ready_of_source-clause-ready : goal.returns-in-Ok-ready_of_source-clause-ready
returns-in-Ok-ready_of_source-clause-ready g c = source_held _ _ c.in-Ok.source.tree _ c.in-Ok.ensures.loaded c.in-Ok-ready_of_source.ensures

pub returns-in-Err-ready_of_source-clause-not_ready : goal.returns-in-Err-ready_of_source-clause-not_ready
returns-in-Err-ready_of_source-clause-not_ready g c = rw c.break_off.ensures.tried.0 (no_room_then _ _ _ _ _ c.in-Ok.ensures.still _ c.break_off.ensures.tried.1)
