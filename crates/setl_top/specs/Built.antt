-- The code files of programs, and why a code file isn't run.
use Rattle.std.specs.Prelude.{◌≡◌, ◌<◌, ◌^◌, ℕ, List, length}
use Rattle.setl_code.specs.Plain.{plain_code}
use Rattle.setl_image_format.specs.ImageCodec.{Image, image}
use Rattle.setl_image_sound.specs.SoundImage.{declarations_of}
use Rattle.setl_modes.specs.Declarations.{bases_of, variables_of}
use Rattle.setl_program.specs.ProgramOf.{program_of}
use Rattle.setl_top_images.specs.CodeFiles.{IsCodeFile, IsFlawed, flaw_line}
use Rattle.setl_top_images.specs.declared.images.Flaw.{Flaw}
use Rattle.setl_top.specs.Listings.{IsMarked}
use Rattle.setl_tree.specs.declared.tree.Tree.{Tree}

-- the image has the code of the tree's program, in which the last uses of variables that aren't declared are takes, and its
-- bases and declared variables
pub record IsImageOf (tree : Tree) (i : Image) : Type 0 where
  pub marked : IsMarked (program_of tree) (plain_code i.code)
  pub declared : declarations_of i ≡ (program_of tree).modes
  pub bases : i.bases ≡ bases_of tree.modes
  pub vars : i.vars ≡ variables_of tree.modes

-- the bytes are a code file of the tree's program
pub record IsBuilt (tree : Tree) (bytes : List ℕ) : Type 0 where
  pub whole : Image
  pub of_tree : IsImageOf tree whole
  pub file : IsCodeFile bytes whole

-- the spelling of an image of the tree's program is too long for a code file
pub record IsLongCode (tree : Tree) : Type 0 where
  pub whole : Image
  pub of_tree : IsImageOf tree whole
  pub fits : image.Fits whole
  pub long : 2 ^ 26 < length (image.write whole)

-- the error line with which bytes are refused that are no code file
pub record CodeRefusal (bytes line : List ℕ) : Type 0 where
  pub flaw : Flaw
  pub flawed : IsFlawed bytes flaw
  pub tells : line ≡ flaw_line flaw
