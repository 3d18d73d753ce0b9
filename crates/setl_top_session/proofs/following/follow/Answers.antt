use Rattle.std.proofs.Common.{refl}
use Rattle.setl_top_session.proofs.Followed.{done_by, unwritten_by, starved_by}
use Rattle.setl_top_session.proofs.following.follow.Goals as goal

pub returns-in-Done : goal.returns-in-Done
returns-in-Done g c = done_by _ _ _ _ _ c.run_on_script-run.result c.run_on_script-run.ensures c.in-Done.ensures.ends c.in-Done.ensures.none refl

pub returns-in-WriteFault : goal.returns-in-WriteFault
returns-in-WriteFault g c =
    let tried = c.break_off.ensures.tried in
    rw tried.0 (unwritten_by _ _ _ _ _ c.run_on_script-run.result c.run_on_script-run.ensures c.in-WriteFault.ensures.ends c.in-WriteFault.ensures.none tried.1)

pub returns-in-NoMemory : goal.returns-in-NoMemory
returns-in-NoMemory g c =
    let tried = c.break_off-in-NoMemory.ensures.tried in
    rw tried.0 (starved_by _ _ _ _ _ c.run_on_script-run.result c.run_on_script-run.ensures c.in-NoMemory.ensures.ends c.in-NoMemory.ensures.none tried.1)
