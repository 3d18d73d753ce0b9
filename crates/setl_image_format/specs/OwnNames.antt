-- How the own names of a body are spelled: `x`, and `x.3` where the third former has a variable `x`.
use Rattle.std.specs.Prelude.{◌≡◌, ℕ, ◌+◌, ◌-◌, ◌*◌, ◌<◌, ◌≤◌, ◌^◌, Bool, true, List, [], ◌∷◌, ◌++◌, Option, Some, None, nat_eq, nat_le, nat_lt, ◌&&◌, if◌then◌else◌, decimal}
use Rattle.std.specs.Option.{option_and_then}
use Rattle.setl_code.specs.declared.code.OwnName.{OwnName}
use Rattle.setl_code.specs.declared.code.OwnName.TheVariants as own
use Rattle.setl_image_codec.specs.Codec.{Codec, through}
use Rattle.setl_image_codec.specs.Texts.{counted, is_name}

abbrev pub own_text : OwnName → List ℕ
own_text (own.Body x) = x
own_text (own.Former k x) = x ++ 46 ∷ decimal k

-- a name, and formers are counted from 1
abbrev pub IsOwnName : OwnName → Type 0
IsOwnName (own.Body x) = is_name x ≡ true
IsOwnName (own.Former k x) = (is_name x ≡ true) × (1 ≤ k) × (k < 2 ^ 32)

-- ---- reading

-- before and behind the first `.`
abbrev pub split : List ℕ → List ℕ × List ℕ
split [] = ([], [])
split (b ∷ bs) = if nat_eq b 46 then ([], bs) else (b ∷ (split bs).0, (split bs).1)

abbrev pub is_digit : ℕ → Bool
is_digit b = nat_le 48 b && nat_le b 57

-- a number with one more digit, below 2^32
abbrev pub with_digit : ℕ → ℕ → Option ℕ
with_digit n b = if is_digit b && nat_lt (10 * n + (b - 48)) (2 ^ 32) then Some (10 * n + (b - 48)) else None

-- the number that digits write behind those of another
abbrev pub numeral_behind : ℕ → List ℕ → Option ℕ
numeral_behind n [] = Some n
numeral_behind n (b ∷ bs) = option_and_then (λ m. numeral_behind m bs) (with_digit n b)

-- a number from 1 on
abbrev pub numeral : List ℕ → Option ℕ
numeral [] = None
numeral (b ∷ bs) = if nat_eq b 48 then None else numeral_behind 0 (b ∷ bs)

abbrev pub former_of : List ℕ → Option ℕ → Option OwnName
former_of x None = None
former_of x (Some k) = if is_name x then Some (own.Former k x) else None

abbrev pub own_of : List ℕ → Option OwnName
own_of bytes = if is_name bytes then Some (own.Body bytes) else former_of (split bytes).0 (numeral (split bytes).1)

abbrev pub own_name : Codec OwnName
own_name = through own_text IsOwnName own_of counted
