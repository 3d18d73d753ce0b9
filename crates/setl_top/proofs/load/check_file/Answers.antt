use Rattle.setl_top.specs.code.Loads.{checked_so, not_checked}
use Rattle.setl_top.proofs.load.check_file.Goals as goal

pub returns-in-Err : goal.returns-in-Err
returns-in-Err g c = not_checked c.in-Err.status c.in-Err.ensures.not_loaded

pub returns : goal.returns
returns g c = checked_so c.in-Ok.source.tree c.in-Ok.ensures.loaded c.in-Ok.ensures.still
