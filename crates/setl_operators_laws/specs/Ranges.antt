-- Ranges of integers lie between their ends.
use Rattle.std.specs.Prelude.{◌≡◌, ◌==◌, ℕ, zero, suc, ◌+◌, ◌*◌, ◌/◌, ◌<◌, ◌≤◌, ◌^◌, ℤ, pos, negsuc, ◌+ℤ◌, ◌-ℤ◌, ◌<ℤ◌, ◌≤ℤ◌, Bool, true, false, List, map, Some, int_le, unsigned_abs, if◌then◌else◌, refl}
use Rattle.std.specs.Int.{w128}
use Rattle.std.specs.Int.RustNames.{FitsSigned}
use Rattle.std.specs.List.{AllByRecursion}
use Rattle.std.proofs.Common.{subst, arith}
use Rattle.std.proofs.Math.Nat.{mul-suc, mul-div-le}
use Rattle.std.proofs.lemmas.Int.{ints, by_lt_z}
use Rattle.setl_value.specs.Datum.{Datum, int}
use Rattle.setl_value.specs.WellFormed.{IsWide, IsValue}
use Rattle.setl_set.specs.Laws.{Gathers}
use Rattle.setl_set.specs.Sets.{set_from}
use Rattle.setl_operators_table.specs.Outcome.{Outcome, Fails, ZeroFault, charging}
use Rattle.setl_operators_table.specs.RangeRows.{as_set, as_tuple, range_of_integers, stepped_integers}
use Rattle.setl_operators_table.specs.Ranges.{spread, range_size, range_from, is_past, step_size, step_from}
use Rattle.setl_operators_laws.specs.Lists.{all_map}
use Rattle.setl_operators_laws.specs.Outcomes.{GivesValue, charging_gives}
use Rattle.setl_operators_laws.specs.SetValues.{Stands, set_is_value, all_set_from}
use Rattle.setl_operators_laws.specs.TupleValues.{PartStands, tuple_is_value, trimmed_some}

pub fits_from_wide : (z : ℤ) → IsWide z → FitsSigned w128 z
fits_from_wide (pos n) h = let k : n < 2 ^ 127 = h in record { sfits = k }
fits_from_wide (negsuc n) h = let k : n < 2 ^ 127 = h in record { sfits = k }

wide_from_fits : (z : ℤ) → FitsSigned w128 z → IsWide z
wide_from_fits (pos n) h = let k : n < 2 ^ 127 = h.sfits in k
wide_from_fits (negsuc n) h = let k : n < 2 ^ 127 = h.sfits in k

-- each is a value inside a set or a tuple
abbrev pub Stand : List Datum → Type 0
Stand ds = AllByRecursion (Stands 499) ds

pub a_number : (z : ℤ) → FitsSigned w128 z → Stands 499 (int z)
a_number z f = (wide_from_fits z f, omega arith)

rising : (a by c : ℤ) (n : ℕ) → FitsSigned w128 a → FitsSigned w128 c → pos 0 <ℤ by → a ≤ℤ c → unsigned_abs by * n ≤ unsigned_abs (c -ℤ a) → Stand (spread a by (suc n))
rising a by c zero fa fc p l h = (a_number a fa, tt)
rising a by c (suc n) fa fc p l h =
    let m = mul-suc (unsigned_abs by) n in
    (a_number a fa, rising (a +ℤ by) by c n (omega (arith, ints)) fc p (omega (arith, ints)) (omega (arith, ints)))

falling : (a by c : ℤ) (n : ℕ) → FitsSigned w128 a → FitsSigned w128 c → by <ℤ pos 0 → c ≤ℤ a → unsigned_abs by * n ≤ unsigned_abs (c -ℤ a) → Stand (spread a by (suc n))
falling a by c zero fa fc p l h = (a_number a fa, tt)
falling a by c (suc n) fa fc p l h =
    let m = mul-suc (unsigned_abs by) n in
    (a_number a fa, falling (a +ℤ by) by c n (omega (arith, ints)) fc p (omega (arith, ints)) (omega (arith, ints)))

stand_if : (t : Bool) (a by : ℤ) (n : ℕ) → (t ≡ true → Stand (spread a by (suc n))) → Stand (spread a by (if t then n + 1 else 0))
stand_if true a by n h = subst (λ k. Stand (spread a by k)) {x = suc n} {y = n + 1} (omega arith) (h refl)
stand_if false a by n h = tt

stand_unless : (t : Bool) (a by : ℤ) (n : ℕ) → (t ≡ false → Stand (spread a by (suc n))) → Stand (spread a by (if t then 0 else n + 1))
stand_unless true a by n h = tt
stand_unless false a by n h = subst (λ k. Stand (spread a by k)) {x = suc n} {y = n + 1} (omega arith) (h refl)

by_one : (a b : ℤ) → FitsSigned w128 a → FitsSigned w128 b → int_le a b ≡ true → Stand (spread a (pos 1) (suc (unsigned_abs (b -ℤ a))))
by_one a b f g h =
    let l : a ≤ℤ b = grind (arith, ints) in
    rising a (pos 1) b (unsigned_abs (b -ℤ a)) f g (omega (arith, ints)) l (omega (arith, ints))

pub range_stands : (a b : ℤ) → FitsSigned w128 a → FitsSigned w128 b → Stand (range_from a b)
range_stands a b f g = stand_if (int_le a b) a (pos 1) (unsigned_abs (b -ℤ a)) (by_one a b f g)

past_rising : (a by c : ℤ) → pos 0 <ℤ by → is_past a by c ≡ false → a ≤ℤ c
past_rising a by c p h = grind (arith, ints)

past_falling : (a by c : ℤ) → by ≤ℤ pos 0 → is_past a by c ≡ false → c ≤ℤ a
past_falling a by c p h = grind (arith, ints)

by_step : (a by c : ℤ) → FitsSigned w128 a → FitsSigned w128 c → (unsigned_abs by ≡ 0 → ⊥) → is_past a by c ≡ false → Stand (spread a by (suc (unsigned_abs (c -ℤ a) / unsigned_abs by)))
by_step a by c f g n h =
    let m = mul-div-le (unsigned_abs (c -ℤ a)) (unsigned_abs by) in
    by_lt_z (pos 0) by (λ p. rising a by c (unsigned_abs (c -ℤ a) / unsigned_abs by) f g p (past_rising a by c p h) m) (λ p. falling a by c (unsigned_abs (c -ℤ a) / unsigned_abs by) f g (below a by p n) (past_falling a by c p h) m)
  where
    below : (a by : ℤ) → by ≤ℤ pos 0 → (unsigned_abs by ≡ 0 → ⊥) → by <ℤ pos 0
    below a by p n = grind (arith, ints)

pub steps_stand : (a b c : ℤ) → FitsSigned w128 a → FitsSigned w128 c → (unsigned_abs (b -ℤ a) ≡ 0 → ⊥) → Stand (step_from a b c)
steps_stand a b c f g n = stand_unless (is_past a (b -ℤ a) c) a (b -ℤ a) (unsigned_abs (c -ℤ a) / unsigned_abs (b -ℤ a)) (by_step a (b -ℤ a) c f g n)

-- ---- what is made of them

-- it gives a value of numbers
abbrev MakesValues : (List Datum → Outcome) → Type 0
MakesValues make = (ds : List Datum) → Stand ds → GivesValue (make ds)

pub set_of_numbers : Gathers → MakesValues as_set
set_of_numbers g ds a = set_is_value (set_from ds) (all_set_from (Stands 499) ds a) (g ds).rising

pub tuple_of_numbers : MakesValues as_tuple
tuple_of_numbers ds a = tuple_is_value (map Some ds) (all_map (Stands 499) (PartStands 499) (λ d. Some d) ds (λ d h. h) a) (trimmed_some ds)

pub range_gives : (make : List Datum → Outcome) → MakesValues make → (left : ℕ) (d e : Datum) → IsValue d → IsValue e → GivesValue (range_of_integers make left d e)
range_gives make m left (int a) (int b) h k = charging_gives (range_size a b) left (make (range_from a b)) (m (range_from a b) (range_stands a b (fits_from_wide a h.0) (fits_from_wide b k.0)))
range_gives make m left d e h k = tt

pub step_gives : (make : List Datum → Outcome) → MakesValues make → (left : ℕ) (d e f : Datum) → IsValue d → IsValue e → IsValue f → GivesValue (stepped_integers make left d e f)
step_gives make m left (int a) (int b) (int c) h k l = go (unsigned_abs (b -ℤ a) == 0) refl
  where
    no_zero : (n : ℕ) → (n == 0) ≡ false → n ≡ 0 → ⊥
    no_zero zero e z = cc
    no_zero (suc n) e z = omega (arith, z)

    go : (t : Bool) → (unsigned_abs (b -ℤ a) == 0) ≡ t → GivesValue (if t then Fails ZeroFault else charging (step_size a b c) left (make (step_from a b c)))
    go true e = tt
    go false e = charging_gives (step_size a b c) left (make (step_from a b c)) (m (step_from a b c) (steps_stand a b c (fits_from_wide a h.0) (fits_from_wide c l.0) (no_zero (unsigned_abs (b -ℤ a)) e)))
step_gives make m left d e f h k l = tt
