-- Worked rows: 10 and 30 are entered, 10 again, the base is cut back to one member, and 40 is entered.
use Rattle.std.specs.Prelude.{◌≡◌, ℕ, pos, Some, None, true, false, refl}
use Rattle.setl_value.specs.Datum.{Datum, int}
use Rattle.setl_base.specs.declared.Elt.{Elt}
use Rattle.setl_base.specs.Base.{BaseState, empty, entered, cut_back, undone, find, elt_at, value_of, is_above}

abbrev ten : Datum
ten = int (pos 10)

abbrev thirty : Datum
thirty = int (pos 30)

abbrev forty : Datum
forty = int (pos 40)

abbrev elt : ℕ → ℕ → Elt
elt n g = record { block = n; generation = g }

abbrev two_members : BaseState
two_members = entered (entered empty ten) thirty

abbrev cut : BaseState
cut = cut_back two_members 1

abbrev again : BaseState
again = entered cut forty

first : find (entered empty ten) ten ≡ Some (elt 1 0)
first = refl

second : find two_members thirty ≡ Some (elt 2 0)
second = refl

entered_again : entered two_members ten ≡ two_members
entered_again = refl

freed : elt_at cut 2 ≡ None
freed = refl

with_a_higher_generation : find again forty ≡ Some (elt 2 1)
with_a_higher_generation = refl

old_handle : value_of again (elt 2 0) ≡ None
old_handle = refl

new_handle : value_of again (elt 2 1) ≡ Some forty
new_handle = refl

-- what `undo` cut comes again with its generation
undone_again : find (entered (undone two_members 1) forty) forty ≡ Some (elt 2 0)
undone_again = refl

forty_above_ten : is_above again (Some (elt 1 0)) forty ≡ true
forty_above_ten = refl

ten_above_forty : is_above again (Some (elt 2 1)) ten ≡ false
ten_above_forty = refl
