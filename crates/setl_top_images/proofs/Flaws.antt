-- Bytes have one image or one flaw.
use Rattle.std.proofs.Common.{◌≡◌, ◌∙◌, ◌<◌, ◌≤◌, ◌^◌, ◌++◌, ℕ, List, [], length, refl, sym, ap, subst, arith}
use Rattle.setl_image_codec.specs.Codec.{Spells}
use Rattle.setl_image_format.specs.CodecClaims.{OneSpelling}
use Rattle.setl_image_format.specs.ImageCodec.{Image, image}
use Rattle.setl_image_sound.specs.SoundImage.{SoundImage}
use Rattle.setl_top_images.specs.CodeFiles.{IsCodeFile, SpellsUnsound, IsFlawed}
use Rattle.setl_top_images.specs.Laws.{OneImage, OneFlaw, NotCodeAndFlawed}
use Rattle.setl_top_images.specs.declared.images.Flaw.{Flaw}
use Rattle.setl_top_images.specs.declared.images.Flaw.TheVariants.{TooLong, Bad, Unsound}

-- bytes spell one image
one_of : OneSpelling image → (bytes : List ℕ) (i j : Image) → Spells image i bytes → Spells image j bytes → i ≡ j
one_of one bytes i j s t = (one i j bytes bytes [] [] s t refl).0

pub one_image : OneSpelling image → OneImage
one_image one bytes i j s t = one_of one bytes i j s.spelled t.spelled

pub one_flaw : OneFlaw
one_flaw bytes TooLong TooLong f g = refl
one_flaw bytes TooLong Bad f g = absurd (omega (arith, f, g.0))
one_flaw bytes TooLong Unsound f g = absurd (omega (arith, f, g.short))
one_flaw bytes Bad TooLong f g = absurd (omega (arith, g, f.0))
one_flaw bytes Bad Bad f g = refl
one_flaw bytes Bad Unsound f g = absurd (f.1 g.image_of g.spelled)
one_flaw bytes Unsound TooLong f g = absurd (omega (arith, g, f.short))
one_flaw bytes Unsound Bad f g = absurd (g.1 f.image_of f.spelled)
one_flaw bytes Unsound Unsound f g = refl

pub not_both : OneSpelling image → NotCodeAndFlawed
not_both one bytes i TooLong s f = absurd (omega (arith, f, s.short))
not_both one bytes i Bad s f = f.1 i s.spelled
not_both one bytes i Unsound s f = f.unsound (subst SoundImage (one_of one bytes i f.image_of s.spelled f.spelled) s.sound)
