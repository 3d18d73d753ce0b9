use Rattle.std.proofs.Common.{◌++◌, codes, decimal}
use Rattle.setl_top_session.specs.Sessions.{faulty_line}
use Rattle.setl_top_session.specs.code.Scripts.{refused_bytes, starved_of_script}
use Rattle.setl_top_session.proofs.scripts.spelled.Goals as goal

pub returns-in-Err-Line-clause-none : goal.returns-in-Err-Line-clause-none
returns-in-Err-Line-clause-none g c =
    let why = rw c.in-Err-Line.field-0-is at c.in-Err-Line.ensures.faulty in
    refused_bytes (codes "script line " ++ decimal c.in-Err-Line.n) _ (faulty_line c.in-Err-Line.n c.requires why) (c.tell_made.ensures.told _ c.faulty_line.ensures)

pub returns-in-Err-NoMemory-clause-none : goal.returns-in-Err-NoMemory-clause-none
returns-in-Err-NoMemory-clause-none g c = rw c.break_off.ensures.tried.0 (starved_of_script c.break_off.ensures.tried.1)
