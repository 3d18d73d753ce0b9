use Rattle.std.proofs.Common.{◌≡◌, ◌<◌, ℕ, Some}
use Rattle.std.specs.Prelude.{slice_get}
use Rattle.setl_code.specs.declared.code.Body.{Body}
use Rattle.setl_image.specs.Views.{image_of}
use Rattle.setl_image_sound.specs.SoundImage.{SoundPart, declared_of}
use Rattle.setl_image_sound.proofs.bodies.all_are_sound.Given as goal

abbrev pub invariant-bodies : goal.invariant-bodies
invariant-bodies l = (k : ℕ) (b : Body) → k < l.n → slice_get l.bodies k ≡ Some b → SoundPart l.image.code (declared_of (image_of l.image)) k b
