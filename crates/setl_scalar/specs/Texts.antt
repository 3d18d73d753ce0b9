-- What the operators on strings give, over lists of bytes.
use Rattle.std.specs.Prelude.{◌≡◌, ℕ, ℤ, pos, negsuc, ◌-◌, if◌then◌else◌, List, [], ◌∷◌, Result, Ok, Err, unsigned_abs, length, slice_range, refl}
use Rattle.setl_value.specs.Copies.{copies, are_places}
use Rattle.setl_scalar.specs.declared.ScalarFault.{ScalarFault}
use Rattle.setl_scalar.specs.declared.ScalarFault.TheVariants.{Range}

-- n copies of t, one after another
abbrev pub repeat_of : List ℕ → ℤ → Result (List ℕ) ScalarFault
repeat_of t (pos n) = Ok (copies n t)
repeat_of t (negsuc n) = Err Range

-- the bytes at places i to j
abbrev pub slice_of : List ℕ → ℤ → ℤ → Result (List ℕ) ScalarFault
slice_of t i j = if are_places i j (length t) then Ok (slice_range t (unsigned_abs i - 1) (unsigned_abs j)) else Err Range

-- ---- examples

twice : repeat_of (97 ∷ 98 ∷ []) (pos 2) ≡ Ok (97 ∷ 98 ∷ 97 ∷ 98 ∷ [])
twice = refl

two_to_three : slice_of (97 ∷ 98 ∷ 99 ∷ []) (pos 2) (pos 3) ≡ Ok (98 ∷ 99 ∷ [])
two_to_three = refl

past_the_end : slice_of (97 ∷ 98 ∷ 99 ∷ []) (pos 3) (pos 5) ≡ Err Range
past_the_end = refl

no_place : slice_of (97 ∷ 98 ∷ 99 ∷ []) (pos 4) (pos 3) ≡ Ok []
no_place = refl
