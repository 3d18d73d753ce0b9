use Rattle.std.proofs.Common.{refl}
use Rattle.setl_top.specs.code.Explains.{explained_so, starved_of}
use Rattle.setl_top.proofs.explaining.write_explanation.Goals as goal

pub returns-in_default : goal.returns-in_default
returns-in_default g c = rw c.break_off.ensures.tried.0 (starved_of refl c.break_off.ensures.tried.1)

pub returns : goal.returns
returns g c = explained_so c.in-Ok.text.items c.write_text.result _ c.in-Ok.ensures (rw c.deref.ensures.value at c.write_text.ensures) c.refused_if_done.ensures
