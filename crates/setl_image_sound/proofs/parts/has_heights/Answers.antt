use Rattle.std.proofs.Common.{List, ℕ, map, subst}
use Rattle.std.specs.Prelude.{IsTrue, ◌↔◌, ◌≡◌}
use Rattle.std.proofs.Common.{◌∙◌, ap, sym}
use Rattle.setl_code.specs.declared.code.Step.{Step}
use Rattle.setl_code.specs.Plain.{plain_step}
use Rattle.setl_image_sound.specs.SoundImage.{HasHeights}
use Rattle.setl_image_sound.proofs.Assembling.{heights_so}
use Rattle.setl_image_sound.proofs.parts.has_heights.Goals as goal

pub returns : goal.returns
returns c xs =
    subst (λ (ss : List Step). IsTrue c.is_some.result ↔ HasHeights (map (plain_step xs) ss)) c.as_slice.ensures
    (heights_so c.in_ok-found.found (λ v. v.items) (map (plain_step xs) c.as_slice.result.now) c.is_some.result c.is_some.ensures (c.in_ok-found.ensures xs))
