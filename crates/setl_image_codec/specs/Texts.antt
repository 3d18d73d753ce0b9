-- Texts and names.
use Rattle.std.specs.Prelude.{◌≡◌, ℕ, true, false, Bool, not, ◌&&◌, ◌||◌, if◌then◌else◌, nat_lt, nat_le, nat_eq, List, [], ◌∷◌, length, take, drop, Option, Some, None}
use Rattle.setl_image_codec.specs.Codec.{Codec, checked}
use Rattle.setl_image_codec.specs.Numbers.{sized}

abbrev pub read_bytes : ℕ → List ℕ → Option (List ℕ × List ℕ)
read_bytes n bytes = if nat_lt (length bytes) n then None else Some (take n bytes, drop n bytes)

-- so many bytes
abbrev pub bytes_of : ℕ → Codec (List ℕ)
bytes_of n = record {
  write = λ bs. bs;
  Fits = λ bs. length bs ≡ n;
  read = read_bytes n;
}

-- the number of the bytes, and the bytes
abbrev pub counted : Codec (List ℕ)
counted = sized length bytes_of

abbrev pub all_are : (ℕ → Bool) → List ℕ → Bool
all_are test [] = true
all_are test (b ∷ bs) = test b && all_are test bs

-- any byte but 10
abbrev pub is_text_byte : ℕ → Bool
is_text_byte b = not (nat_eq b 10)

abbrev pub text : Codec (List ℕ)
text = checked (all_are is_text_byte) counted

-- a letter `a` to `z`
abbrev pub is_letter : ℕ → Bool
is_letter b = nat_le 97 b && nat_le b 122

-- a letter, a digit or `_`
abbrev pub is_name_byte : ℕ → Bool
is_name_byte b = is_letter b || (nat_le 48 b && nat_le b 57) || nat_eq b 95

abbrev pub is_name : List ℕ → Bool
is_name [] = false
is_name (b ∷ bs) = is_letter b && all_are is_name_byte bs

abbrev pub name : Codec (List ℕ)
name = checked is_name counted
