use Rattle.std.proofs.Common.{refl}
use Rattle.setl_top.specs.code.Advises.{advised_so, starved_of_advice}
use Rattle.setl_top.proofs.advising.write_advice.Goals as goal

pub returns-in_default : goal.returns-in_default
returns-in_default g c = rw c.break_off.ensures.tried.0 (starved_of_advice refl c.break_off.ensures.tried.1)

pub returns : goal.returns
returns g c = advised_so c.in-Ok.text.items c.write_text.result c.in-Ok.ensures (rw c.deref.ensures.value at c.write_text.ensures)
