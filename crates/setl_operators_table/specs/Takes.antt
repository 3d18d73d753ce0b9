-- Taking one part out of a set or a tuple, as `from`, `fromb` and `frome` do.
use Rattle.std.specs.Prelude.{◌≡◌, List, [], ◌∷◌, Option, Some, None, length, take, slice_get, refl, pos}
use Rattle.std.specs.Option.{unwrap_or}
use Rattle.setl_value.specs.Datum.{Datum, int, tuple, set, part_list, element_list, set_of, tuple_of}
use Rattle.setl_value.specs.WellFormed.{trim}
use Rattle.setl_operators_table.specs.Outcome.{Fault, KindFault}

-- what is left of a set or a tuple, and the part that is taken out, which may be `om`; or it has none; or why there is
-- none
pub data Takeout : Type 0 where
  TakesOut : (left : Datum) (taken : Option Datum) → Takeout
  IsEmpty : Takeout
  CannotTake : Fault → Takeout

-- the least member of a set
abbrev pub least_of : List Datum → Takeout
least_of [] = IsEmpty
least_of (d ∷ ds) = TakesOut (set_of ds) (Some d)

-- the first component of a tuple
abbrev pub first_of : List (Option Datum) → Takeout
first_of [] = IsEmpty
first_of (p ∷ ps) = TakesOut (tuple_of ps) p

-- the last component of a tuple; what is left doesn't end in `om`
abbrev pub last_of : List (Option Datum) → Takeout
last_of [] = IsEmpty
last_of (p ∷ ps) = TakesOut (tuple_of (trim (take (length ps) (p ∷ ps)))) (unwrap_or (slice_get (p ∷ ps) (length ps)) None)

abbrev pub take_least : Datum → Takeout
take_least (set ms) = least_of (element_list ms)
take_least d = CannotTake KindFault

abbrev pub take_first : Datum → Takeout
take_first (tuple ps) = first_of (part_list ps)
take_first d = CannotTake KindFault

abbrev pub take_last : Datum → Takeout
take_last (tuple ps) = last_of (part_list ps)
take_last d = CannotTake KindFault

-- ---- worked rows, with {1 2} and [1 om 2]
abbrev one : Datum
one = int (pos 1)

abbrev two : Datum
two = int (pos 2)

from_a_set : take_least (set_of (one ∷ two ∷ [])) ≡ TakesOut (set_of (two ∷ [])) (Some one)
from_a_set = refl

from_the_front : take_first (tuple_of (Some one ∷ None ∷ Some two ∷ [])) ≡ TakesOut (tuple_of (None ∷ Some two ∷ [])) (Some one)
from_the_front = refl

from_the_end : take_last (tuple_of (Some one ∷ None ∷ Some two ∷ [])) ≡ TakesOut (tuple_of (Some one ∷ [])) (Some two)
from_the_end = refl

from_the_empty : take_last (tuple_of []) ≡ IsEmpty
from_the_empty = refl
