use Rattle.setl_base.proofs.Tabled.{base_taken}
use Rattle.setl_base.proofs.Base.undo.Goals as goal

pub returns : goal.returns
returns c = rw (← c.self.view_is) (base_taken c.self.inside.table c.truncate.new.self c.args.m.now.count c.self.inside.cuts c.truncate.ensures.entries)
