-- Which bytes are code files, and why others aren't.
use Rattle.std.specs.Prelude.{◌<◌, ◌≤◌, ◌^◌, ℕ, List, length, codes, Result, Ok, Err, ⊤}
use Rattle.setl_image_codec.specs.Codec.{Spells}
use Rattle.setl_image_format.specs.ImageCodec.{Image, image}
use Rattle.setl_image_sound.specs.SoundImage.{SoundImage}
use Rattle.setl_top_images.specs.declared.images.Flaw.{Flaw}
use Rattle.setl_top_images.specs.declared.images.Flaw.TheVariants.{TooLong, Bad, Unsound}
use Rattle.setl_top_images.specs.declared.images.Unread.{Unread}
use Rattle.setl_top_images.specs.declared.images.Unread.TheVariants as unread

-- at most 2^26 bytes that spell a sound image
pub record IsCodeFile (bytes : List ℕ) (i : Image) : Type 0 where
  pub short : length bytes ≤ 2 ^ 26
  pub spelled : Spells image i bytes
  pub sound : SoundImage i

-- bytes that spell an image which isn't sound
pub record SpellsUnsound (bytes : List ℕ) : Type 0 where
  pub short : length bytes ≤ 2 ^ 26
  pub image_of : Image
  pub spelled : Spells image image_of bytes
  pub unsound : SoundImage image_of → ⊥

-- why bytes are no code file; each flaw leaves out those before it
abbrev pub IsFlawed : List ℕ → Flaw → Type 0
IsFlawed bytes TooLong = 2 ^ 26 < length bytes
IsFlawed bytes Bad = (length bytes ≤ 2 ^ 26) × ((i : Image) → Spells image i bytes → ⊥)
IsFlawed bytes Unsound = SpellsUnsound bytes

-- the line that tells a flaw
abbrev pub flaw_line : Flaw → List ℕ
flaw_line TooLong = codes "image too long"
flaw_line Bad = codes "bad image"
flaw_line Unsound = codes "unsound code"

-- why bytes weren't read: a flaw, or memory was refused
abbrev pub TellsFlaw : {X : Type 0} → List ℕ → Result X Unread → Type 0
TellsFlaw bytes (Ok x) = ⊤
TellsFlaw bytes (Err (unread.Flawed flaw)) = IsFlawed bytes flaw
TellsFlaw bytes (Err unread.NoMemory) = ⊤
