-- Bytes behind a mark.
use Rattle.std.proofs.Common.{◌≡◌, ℕ, List, [], ◌∷◌, ◌++◌, Option, Some, None, refl, ap, inl, inr}
use Rattle.std.specs.Prelude.{nat_eq}
use Rattle.std.proofs.lemmas.Bool.{cases_Bool}
use Rattle.setl_image_codec.specs.Codec.{Codec}
use Rattle.setl_image_format.specs.ImageCodec.{marked}
use Rattle.setl_image.specs.Marks.{strip}

abbrev pub read_behind : {A : Type 0} → Codec A → Option (List ℕ) → Option (A × List ℕ)
read_behind c None = None
read_behind c (Some rest) = c.read rest

-- the mark is read first
pub marked_reads : {A : Type 0} (mark bytes : List ℕ) (c : Codec A) → (marked mark c).read bytes ≡ read_behind c (strip mark bytes)
marked_reads [] bytes c = refl
marked_reads (b ∷ mark) [] c = refl
marked_reads (b ∷ mark) (x ∷ bytes) c = elim (cases_Bool (nat_eq b x)) [
  | inl so ↦ rw so (marked_reads mark bytes c)
  | inr not ↦ rw not refl
]

-- and written first
pub marked_writes : {A : Type 0} (mark : List ℕ) (c : Codec A) (a : A) → (marked mark c).write a ≡ mark ++ c.write a
marked_writes [] c a = refl
marked_writes (b ∷ mark) c a = ap (λ t. b ∷ t) (marked_writes mark c a)
