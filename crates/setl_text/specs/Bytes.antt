-- The bytes of denotations.
use Rattle.std.specs.Prelude.{ℕ, ◌<◌, ◌+◌, ◌-◌, ◌*◌, ◌==◌, ◌&&◌, ◌||◌, Bool, true, false, List, [], ◌∷◌, nat_le, cond, ℤ, pos, neg_ℤ, if◌then◌else◌}

abbrev pub is_blank : ℕ → Bool
is_blank b = b == 9 || b == 10 || b == 13 || b == 32

-- inside a set or tuple a comma is a blank too
abbrev pub is_gap : ℕ → Bool
is_gap b = is_blank b || b == 44

abbrev pub is_digit : ℕ → Bool
is_digit b = nat_le 48 b && nat_le b 57

abbrev pub is_letter : ℕ → Bool
is_letter b = nat_le 65 b && nat_le b 90 || nat_le 97 b && nat_le b 122

-- a letter in lower case
abbrev pub IsLow : ℕ → Type 0
IsLow b = (96 < b) × (b < 123)

-- the letter in lower case
abbrev pub lower : ℕ → ℕ
lower b = if nat_le 65 b && nat_le b 90 then b + 32 else b

-- Whether a collection is a set or a tuple.
pub data Bracket : Type 0 where
  Brace Square : Bracket

abbrev pub opening : Bracket → ℕ
opening Brace = 123
opening Square = 91

abbrev pub closing : Bracket → ℕ
closing Brace = 125
closing Square = 93

-- a byte with which an integer, a word, a string, `*`, a set or a tuple begins
abbrev pub is_start : ℕ → Bool
is_start b = is_digit b || is_letter b || b == 45 || b == 39 || b == 42 || b == 123 || b == 91

-- the longest front whose bytes pass a test, and the bytes behind it
abbrev pub front : (ℕ → Bool) → List ℕ → List ℕ
front test [] = []
front test (b ∷ bs) = cond (test b) (b ∷ front test bs) []

abbrev pub behind : (ℕ → Bool) → List ℕ → List ℕ
behind test [] = []
behind test (b ∷ bs) = cond (test b) (behind test bs) (b ∷ bs)

-- the number that n's digits and these spell together
abbrev pub number_from : ℕ → List ℕ → ℕ
number_from n [] = n
number_from n (b ∷ bs) = number_from (n * 10 + (b - 48)) bs

-- the integer of this size, below 0 or not
abbrev pub signed : (negative : Bool) → ℕ → ℤ
signed true n = neg_ℤ (pos n)
signed false n = pos n
