-- The charge of turns.
use Rattle.std.specs.Prelude.{◌≡◌, refl, ℕ, ◌-◌, Bool, true, false, nat_le, Option, Some, None}

abbrev left_if : Bool → ℕ → Option ℕ
left_if true n = Some n
left_if false n = None

-- the turns that are left after a charge; a charge above what is left spends the run before anything is done
abbrev pub left_after : ℕ → ℕ → Option ℕ
left_after charge left = left_if (nat_le charge left) (left - charge)

-- all turns may go, and no more
all_go : left_after 3 3 ≡ Some 0
all_go = refl

too_few : left_after 4 3 ≡ None
too_few = refl
