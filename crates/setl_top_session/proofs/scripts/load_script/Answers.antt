use Rattle.setl_top_session.specs.code.Scripts.{unread_script, starved_script}
use Rattle.setl_top_session.proofs.Taken.{takes_whole, not_spelled_by, too_long}
use Rattle.setl_top_session.proofs.scripts.load_script.Goals as goal

pub returns-in-Bytes-clause-none : goal.returns-in-Bytes-clause-none
returns-in-Bytes-clause-none g c =
    let read = c.in-Bytes.ensures.bytes in
    not_spelled_by _ _ _ _ c.in-Bytes.bytes.items c.spelled.result (takes_whole _ _ _ read.0 read.1) c.in-Bytes.ensures.count (rw c.deref.ensures.value at c.spelled.ensures.none)

pub returns-in-TooLong-clause-none : goal.returns-in-TooLong-clause-none
returns-in-TooLong-clause-none g c =
    let read = c.in-TooLong.ensures.bytes in
    too_long _ _ _ _ read.0 read.1 read.2 c.in-TooLong.ensures.count _ c.tell.ensures.told

pub returns-in-Failed-clause-none : goal.returns-in-Failed-clause-none
returns-in-Failed-clause-none g c =
    let read = c.in-Failed.ensures.bytes in
    let tried = c.break_off.ensures.tried in
    rw tried.0 (unread_script read.0 read.1 c.in-Failed.ensures.count tried.1)

pub returns-in-NoMemory-clause-none : goal.returns-in-NoMemory-clause-none
returns-in-NoMemory-clause-none g c =
    let read = c.in-NoMemory.ensures.bytes in
    let tried = c.break_off-in-NoMemory.ensures.tried in
    rw tried.0 (starved_script read.0 read.1 c.in-NoMemory.ensures.count tried.1)
