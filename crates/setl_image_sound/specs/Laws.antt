-- What sound images give.
use Rattle.std.specs.Prelude.{ℕ, Bool, List}
use Rattle.setl_model_runs.specs.Variable.{Variable}
use Rattle.setl_model_runs.specs.Events.{Stuck}
use Rattle.setl_modes.specs.Modes.{Mode}
use Rattle.setl_code.specs.Plain.{plain_code}
use Rattle.setl_code.specs.CodeMeans.{CodeMeans}
use Rattle.setl_code_soundness.specs.Claims.{CodeEnding}
use Rattle.setl_live.specs.Slots.{OnlyMain}
use Rattle.setl_image_format.specs.ImageCodec.{Image}
use Rattle.setl_image_sound.specs.SoundImage.{SoundImage, declarations_of, declared_of}

-- every run of the code of a sound image ends
abbrev pub SoundImagesEnd : Type 0
SoundImagesEnd = (i : Image) → SoundImage i → (input : List ℕ) (turns : ℕ) (based : Bool) → CodeEnding (plain_code i.code) (declarations_of i) input turns based

-- and none is stuck
abbrev pub NoImageIsStuck : Type 0
NoImageIsStuck = (i : Image) → SoundImage i → (input : List ℕ) (turns : ℕ) (based : Bool) (out : List ℕ) → CodeMeans (plain_code i.code) (declarations_of i) input turns based out Stuck → ⊥

-- no variable of a procedure or a former is declared
abbrev pub OnlyMainIsDeclared : Type 0
OnlyMainIsDeclared = (i : Image) → OnlyMain (declared_of i)
