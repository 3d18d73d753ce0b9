use Rattle.std.proofs.Common.{sym, subst}
use Rattle.setl_store_slots.specs.Slots.{IsStanding}
use Rattle.setl_store.specs.declared.main_program.Stored.TheVariants as stored
use Rattle.setl_store.specs.Flat.{held_of}
use Rattle.setl_store.specs.MainProgram.{IsStored}
use Rattle.setl_store.proofs.MainProgram.{formed}
use Rattle.setl_store.proofs.main_program.as_stored.Goals as goal

pub returns-in-Based : goal.returns-in-Based
returns-in-Based c bs =
    subst (λ h. IsStanding bs h → IsStored bs (held_of bs h) (stored.Based c.get.result c.get-in-Based.result)) (sym c.in-Based.is)
    (formed bs c.in-Based.mode c.get.result.now c.in-Based.held c.get-in-Based.result.now c.get.ensures c.get-in-Based.ensures)
