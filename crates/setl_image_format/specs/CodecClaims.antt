-- What is proved of the codecs.
use Rattle.std.specs.Prelude.{◌≡◌, ℕ, List, ◌++◌, Some, None}
use Rattle.setl_image_codec.specs.Codec.{Codec, IsExact, Spells, decoded}
use Rattle.setl_image_codec.specs.Numbers.{number, integer}
use Rattle.setl_image_codec.specs.Texts.{name, text}

-- no spelling begins another, and each spells one value
abbrev pub OneSpelling : {A : Type 0} → Codec A → Type 0
OneSpelling {A} c = (a b : A) (x y front back : List ℕ) → Spells c a x → Spells c b y → x ++ front ≡ y ++ back → (a ≡ b) × (x ≡ y) × (front ≡ back)

abbrev pub NumbersAreExact : Type 0
NumbersAreExact = IsExact number × IsExact integer

abbrev pub TextsAreExact : Type 0
TextsAreExact = IsExact text × IsExact name

-- What is written is decoded again; what is decoded is spelled so; where nothing is decoded, the bytes spell nothing.
abbrev pub DecodesExactly : {A : Type 0} → Codec A → Type 0
DecodesExactly {A} c =
    ((a : A) → c.Fits a → decoded c (c.write a) ≡ Some a)
    × ((bytes : List ℕ) (a : A) → decoded c bytes ≡ Some a → Spells c a bytes)
    × ((bytes : List ℕ) → decoded c bytes ≡ None → (a : A) → Spells c a bytes → ⊥)
