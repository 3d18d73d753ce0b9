use Rattle.std.proofs.Common.{◌∙◌, List, ap}
use Rattle.std.specs.Prelude.{slice_get}
use Rattle.setl_code.specs.declared.code.Body.{Body}
use Rattle.setl_image_sound.proofs.Assembling.{bare_none, bare_some, none_by}
use Rattle.setl_image_sound.proofs.parts.is_bare.Goals as goal

pub returns-in-None : goal.returns-in-None
returns-in-None c = bare_none c.args.code.now.bodies (c.in-None.ensures.value ∙ ap (λ (bs : List Body). slice_get bs 0) c.as_slice.ensures)

pub returns-in-Some : goal.returns-in-Some
returns-in-Some c = bare_some c.args.code.now.bodies c.in-Some.main.now c.is_empty.result (c.in-Some.ensures.value ∙ ap (λ (bs : List Body). slice_get bs 0) c.as_slice.ensures) (none_by c.in-Some.main.now.parameters c.is_empty.result c.is_empty.ensures)
