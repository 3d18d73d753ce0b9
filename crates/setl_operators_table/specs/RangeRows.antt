-- The ranges, each of which charges the number of its members.
use Rattle.std.specs.Prelude.{ℕ, ◌==◌, ◌-ℤ◌, List, map, unsigned_abs, Some, if◌then◌else◌}
use Rattle.setl_value.specs.Datum.{Datum, int}
use Rattle.setl_set.specs.Sets.{set_from}
use Rattle.setl_operators_table.specs.Ranges.{range_size, range_from, step_size, step_from}
use Rattle.setl_operators_table.specs.Outcome.{Outcome, Fails, KindFault, ZeroFault, set_value, tuple_value, charging}

-- the set or the tuple of some integers
abbrev pub as_set : List Datum → Outcome
as_set ds = set_value (set_from ds)

abbrev pub as_tuple : List Datum → Outcome
as_tuple ds = tuple_value (map Some ds)

-- from a to b
abbrev pub range_of_integers : (List Datum → Outcome) → ℕ → Datum → Datum → Outcome
range_of_integers make left (int a) (int b) = charging (range_size a b) left (make (range_from a b))
range_of_integers make left a b = Fails KindFault

-- a, b and on up to c
abbrev pub stepped_integers : (List Datum → Outcome) → ℕ → Datum → Datum → Datum → Outcome
stepped_integers make left (int a) (int b) (int c) =
    if unsigned_abs (b -ℤ a) == 0 then Fails ZeroFault else charging (step_size a b c) left (make (step_from a b c))
stepped_integers make left a b c = Fails KindFault
