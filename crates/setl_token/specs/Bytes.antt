-- The classes of bytes, upper case read as lower case, and the value of digits.
use Rattle.std.specs.Prelude.{ℕ, ◌+◌, ◌-◌, ◌*◌, Bool, not, ◌||◌, ◌==◌, List, map, fold}
use Rattle.std.specs.Char.{is_ascii_alphanumeric, to_ascii_lowercase}

-- tab, line feed, carriage return, space
abbrev pub is_blank : ℕ → Bool
is_blank b = b == 9 || b == 10 || b == 13 || b == 32

-- what follows the first letter of a word or a name: a letter, a digit or `_`
abbrev pub is_in_word : ℕ → Bool
is_in_word b = is_ascii_alphanumeric b || b == 95

-- any byte but a line feed
abbrev pub is_in_line : ℕ → Bool
is_in_line b = not (b == 10)

-- a text with its upper case letters read as lower case
abbrev pub lower : List ℕ → List ℕ
lower = map to_ascii_lowercase

-- a number with one more digit
abbrev pub with_digit : ℕ → ℕ → ℕ
with_digit n b = 10 * n + (b - 48)

-- the number that digits spell
abbrev pub value_of : List ℕ → ℕ
value_of = fold with_digit 0

-- the greatest number that a source can spell: 2 ^ 127 - 1
abbrev pub limit : ℕ
limit = 170141183460469231731687303715884105727
