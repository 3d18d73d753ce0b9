use Rattle.setl_base.proofs.Tabled.{is_base}
use Rattle.setl_base.proofs.Base.learn.Goals as goal

pub returns : goal.returns
returns c = rw (← c.self.view_is) (is_base _ _ c.self.invariant c.len-len.ensures.unique)
