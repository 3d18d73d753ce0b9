-- Numbers in groups of 7 bits, the lowest first.
use Rattle.std.specs.Prelude.{⊤, ℕ, zero, suc, ◌+◌, ◌-◌, ◌*◌, ◌/◌, ◌%◌, ◌<◌, ◌^◌, if◌then◌else◌, nat_lt, List, [], ◌∷◌, length, Option, Some, None}
use Rattle.setl_image_codec.specs.Codec.{Codec, followed, repeated, then_read, through}

-- A number in at most so many groups. Each byte but the last has 128 added; the last one is 0 only where it is alone.
abbrev pub groups : (most : ℕ) → ℕ → List ℕ
groups zero n = []
groups (suc most) n = if nat_lt n 128 then (n ∷ []) else ((128 + n % 128) ∷ groups most (n / 128))

-- the group of a byte below the higher ones
abbrev pub put_low : (cap b high : ℕ) → List ℕ → Option (ℕ × List ℕ)
put_low cap b zero behind = None
put_low cap b (suc high) behind = if nat_lt (suc high) cap then Some (b - 128 + 128 * suc high, behind) else None

abbrev pub read_groups : (cap most : ℕ) → List ℕ → Option (ℕ × List ℕ)
read_groups cap zero bytes = None
read_groups cap (suc most) [] = None
read_groups cap (suc most) (b ∷ bytes) =
    if nat_lt b 128 then Some (b, bytes)
    else if nat_lt b 256 then then_read (read_groups cap most bytes) (put_low cap b)
    else None

-- numbers below 128 * cap, where `most` groups are enough for these
abbrev pub number_below : (cap most : ℕ) → Codec ℕ
number_below cap most = record {
  write = groups most;
  Fits = λ n. n < 128 * cap;
  read = read_groups cap most;
}

-- a number below 2^32
abbrev pub number : Codec ℕ
number = number_below (2 ^ 25) 5

-- a number below 2^127
abbrev pub integer : Codec ℕ
integer = number_below (2 ^ 120) 19

-- a size, and behind it what has that size
abbrev pub sized : {A : Type 0} → (A → ℕ) → (ℕ → Codec A) → Codec A
sized {A} size body = through {B = ℕ × A} (λ a. (size a, a)) (λ a. ⊤) (λ x. Some x.1) (followed number body)

-- a list: its count and its items
abbrev pub listed : {A : Type 0} → Codec A → Codec (List A)
listed c = sized length (repeated c)
