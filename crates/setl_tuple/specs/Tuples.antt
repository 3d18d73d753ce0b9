-- What the operators on tuples give, over lists of components. A component is a value, or `None` for `om`.
use Rattle.std.specs.Prelude.{◌≡◌, ℕ, ℤ, pos, negsuc, ◌+◌, ◌-◌, if◌then◌else◌, List, [], ◌∷◌, ◌++◌, Option, Some, None, Result, Ok, Err, unsigned_abs, int_le, length, take, drop, replicate, slice_get, slice_range, refl}
use Rattle.std.specs.Option.{option_flatten}
use Rattle.setl_value.specs.Copies.{copies, are_places}
use Rattle.setl_value.specs.Datum.{Datum, int}
use Rattle.setl_value.specs.WellFormed.{trim}
use Rattle.setl_tuple.specs.declared.TupleFault.{TupleFault}
use Rattle.setl_tuple.specs.declared.TupleFault.TheVariants.{Range}

-- where place i, counted from 1, stands in a list
abbrev pub index_of : ℤ → ℕ
index_of i = unsigned_abs i - 1

-- the component at place i, which is `om` past the end
abbrev pub get_of : List (Option Datum) → ℤ → Result (Option Datum) TupleFault
get_of t i = if int_le (pos 1) i then Ok (option_flatten (slice_get t (index_of i))) else Err Range

-- the components before index i, `om` between the end of t and i, then p and the components after i
abbrev pub put_of : List (Option Datum) → ℕ → Option Datum → List (Option Datum)
put_of t i p = trim (take i t ++ replicate (i - length t) None ++ p ∷ drop (i + 1) t)

-- one component more
abbrev pub with_of : List (Option Datum) → Datum → List (Option Datum)
with_of t d = t ++ Some d ∷ []

-- n copies of t, one after another
abbrev pub repeat_of : List (Option Datum) → ℤ → Result (List (Option Datum)) TupleFault
repeat_of t (pos n) = Ok (copies n t)
repeat_of t (negsuc n) = Err Range

-- the components at places i to j
abbrev pub slice_of : List (Option Datum) → ℤ → ℤ → Result (List (Option Datum)) TupleFault
slice_of t i j = if are_places i j (length t) then Ok (trim (slice_range t (index_of i) (unsigned_abs j))) else Err Range

-- ---- examples

abbrev num : ℕ → Option Datum
num n = Some (int (pos n))

put_past_the_end : put_of (num 1 ∷ []) 2 (num 9) ≡ num 1 ∷ None ∷ num 9 ∷ []
put_past_the_end = refl

put_in_place : put_of (num 1 ∷ num 2 ∷ []) 0 (num 9) ≡ num 9 ∷ num 2 ∷ []
put_in_place = refl

put_om_at_the_end : put_of (num 1 ∷ None ∷ num 2 ∷ []) 2 None ≡ num 1 ∷ []
put_om_at_the_end = refl

put_om_past_the_end : put_of (num 1 ∷ []) 5 None ≡ num 1 ∷ []
put_om_past_the_end = refl

three_copies : repeat_of (num 1 ∷ []) (pos 3) ≡ Ok (num 1 ∷ num 1 ∷ num 1 ∷ [])
three_copies = refl

slice_before_a_value : slice_of (num 1 ∷ None ∷ num 3 ∷ []) (pos 1) (pos 2) ≡ Ok (num 1 ∷ [])
slice_before_a_value = refl

past_the_end : get_of (num 1 ∷ []) (pos 2) ≡ Ok None
past_the_end = refl
