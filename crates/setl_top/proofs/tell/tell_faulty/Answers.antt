use Rattle.std.proofs.Common.{◌++◌, ◌∷◌, [], codes}
use Rattle.setl_top_status.specs.code.Tells.{no_memory}
use Rattle.setl_top.proofs.Asked.{line_told}
use Rattle.setl_top.proofs.tell.tell_faulty.Goals as goal

pub returns-in-Err : goal.returns-in-Err
returns-in-Err g c = record { told = (codes "not of the plain form" ++ 10 ∷ [], line_told _, rw c.break_off.ensures.tried.0 (no_memory c.break_off.ensures.tried.1)) }
