use Rattle.std.proofs.Common.{sym, arith}
use Rattle.setl_base.proofs.Found.{entry_member}
use Rattle.setl_base.proofs.Base.member.Goals as goal

pub returns : goal.returns
returns c =
    rw (← c.self.view_is) (sym (entry_member c.self.inside.table.entries c.self.inside.cuts _ _ _ _ (omega (arith, c.in_ok-place.ensures)) (sym c.in_ok-value.ensures.entry)))
