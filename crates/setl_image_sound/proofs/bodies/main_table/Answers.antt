use Rattle.std.proofs.Common.{subst}
use Rattle.std.specs.Prelude.{IfOk, Option}
use Rattle.setl_code.specs.declared.code.Body.{Body}
use Rattle.setl_live.specs.Slots.{TellsDeclared}
use Rattle.setl_image_sound.proofs.bodies.main_table.Goals as goal

pub returns-in-Some : goal.returns-in-Some
returns-in-Some c declared only named =
    subst (λ (o : Option Body). IfOk c.declared_among.result (λ table. TellsDeclared declared o table.items)) c.in-Some.ensures.value (c.declared_among.ensures declared only named)
