-- What is proved of images.
use Rattle.std.specs.Prelude.{◌≡◌, ℕ, List, [], ◌∷◌, Some, codes}
use Rattle.setl_code.specs.declared.code.Instr.TheVariants as i
use Rattle.setl_image_codec.specs.Codec.{IsExact}
use Rattle.setl_image_format.specs.CodecClaims.{DecodesExactly, OneSpelling}
use Rattle.setl_image_format.specs.ImageCodec.{Image, image}

-- what is spelled is read, whatever follows, and what is read is spelled so; and no image's spelling begins another
abbrev pub ImagesAreExact : Type 0
ImagesAreExact = IsExact image × OneSpelling image × DecodesExactly image

-- the image of `program p; end p;`
abbrev pub smallest : Image
smallest = record {
  code = record { vars = []; bodies = record { name = codes "p"; parameters = []; names = []; steps = record { line = 1; what = i.Stop } ∷ [] } ∷ [] };
  bases = [];
  vars = [];
}

abbrev pub smallest_bytes : List ℕ
smallest_bytes = 0x53 ∷ 0x45 ∷ 0x54 ∷ 0x4C ∷ 0x49 ∷ 0x4D ∷ 0x47 ∷ 0x31 ∷ 0 ∷ 0 ∷ 0 ∷ 1 ∷ 1 ∷ 0x70 ∷ 0 ∷ 0 ∷ 0 ∷ 0 ∷ 1 ∷ 1 ∷ 0x6F ∷ []

abbrev pub SmallestIsSpelled : Type 0
SmallestIsSpelled = (image.write smallest ≡ smallest_bytes) × (image.read smallest_bytes ≡ Some (smallest, []))
