-- Laws of code files.
use Rattle.std.specs.Prelude.{◌≡◌, ℕ, List}
use Rattle.setl_image_format.specs.ImageCodec.{Image}
use Rattle.setl_top_images.specs.CodeFiles.{IsCodeFile, IsFlawed}
use Rattle.setl_top_images.specs.declared.images.Flaw.{Flaw}

-- bytes are the code file of one image
abbrev pub OneImage : Type 0
OneImage = (bytes : List ℕ) (i j : Image) → IsCodeFile bytes i → IsCodeFile bytes j → i ≡ j

-- and have one flaw
abbrev pub OneFlaw : Type 0
OneFlaw = (bytes : List ℕ) (f g : Flaw) → IsFlawed bytes f → IsFlawed bytes g → f ≡ g

-- and not both
abbrev pub NotCodeAndFlawed : Type 0
NotCodeAndFlawed = (bytes : List ℕ) (i : Image) (f : Flaw) → IsCodeFile bytes i → IsFlawed bytes f → ⊥
