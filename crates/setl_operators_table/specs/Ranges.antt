-- The integers of a range. Bounds and steps are mathematical integers: a step may lie outside 128 bits.
use Rattle.std.specs.Prelude.{◌≡◌, ℕ, zero, suc, ◌+◌, ◌/◌, ℤ, pos, ◌+ℤ◌, ◌-ℤ◌, Bool, List, [], ◌∷◌, int_lt, int_le, unsigned_abs, if◌then◌else◌, refl}
use Rattle.setl_value.specs.Datum.{Datum, int}

-- n integers from a on, each `by` more than the one before
abbrev pub spread : ℤ → ℤ → ℕ → List Datum
spread a by zero = []
spread a by (suc n) = int a ∷ spread (a +ℤ by) by n

-- how many integers there are from a to b
abbrev pub range_size : ℤ → ℤ → ℕ
range_size a b = if int_le a b then unsigned_abs (b -ℤ a) + 1 else 0

-- the integers from a to b
abbrev pub range_from : ℤ → ℤ → List Datum
range_from a b = spread a (pos 1) (range_size a b)

-- whether c lies on the other side of a than a step goes
abbrev pub is_past : ℤ → ℤ → ℤ → Bool
is_past a by c = if int_lt (pos 0) by then int_lt c a else int_lt a c

-- how many of a, b and on by the step b - a aren't past c, where a and b differ
abbrev pub step_size : ℤ → ℤ → ℤ → ℕ
step_size a b c = if is_past a (b -ℤ a) c then 0 else unsigned_abs (c -ℤ a) / unsigned_abs (b -ℤ a) + 1

-- these integers
abbrev pub step_from : ℤ → ℤ → ℤ → List Datum
step_from a b c = spread a (b -ℤ a) (step_size a b c)

-- ---- worked rows
abbrev number : ℕ → Datum
number n = int (pos n)

two_to_four : range_from (pos 2) (pos 4) ≡ number 2 ∷ number 3 ∷ number 4 ∷ []
two_to_four = refl

below_its_start : range_from (pos 2) (pos 1) ≡ []
below_its_start = refl

downwards : step_from (pos 5) (pos 3) (pos 0) ≡ number 5 ∷ number 3 ∷ number 1 ∷ []
downwards = refl

past_its_end : step_from (pos 5) (pos 7) (pos 4) ≡ []
past_its_end = refl
