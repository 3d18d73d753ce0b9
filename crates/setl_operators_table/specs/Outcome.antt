-- What an operator gives.
use Rattle.std.specs.Prelude.{ℕ, ◌+◌, ◌-◌, Bool, List, [], ◌∷◌, nat_le, Option, Some, None, if◌then◌else◌}
use Rattle.setl_value.specs.Datum.{Datum, bool, set_of, tuple_of, depth}

-- Why an operator fails.
pub data Fault : Type 0 where
  OmFault KindFault ZeroFault RangeFault WideFault DeepFault : Fault

-- What an operator gives: a value or `om` with the turns that it charges, a fault, or too few turns for its charge.
-- Of several causes the first in this order counts: `om`, kind, zero, range, too few turns, wide, deep.
pub data Outcome : Type 0 where
  Gives : (value : Option Datum) (charged : ℕ) → Outcome
  Fails : Fault → Outcome
  Overspends : Outcome

-- a value without a charge
abbrev pub value : Datum → Outcome
value d = Gives (Some d) 0

abbrev pub truth : Bool → Outcome
truth b = value (bool b)

-- a set or a tuple that is no deeper than the operands
abbrev pub set_value : List Datum → Outcome
set_value ds = value (set_of ds)

abbrev pub tuple_value : List (Option Datum) → Outcome
tuple_value ps = value (tuple_of ps)

-- a set or a tuple, if its depth is at most 500
abbrev pub within_depth : Datum → Outcome
within_depth d = if nat_le (depth d) 500 then value d else Fails DeepFault

-- the same with n turns more
abbrev pub adding : ℕ → Outcome → Outcome
adding n (Gives v m) = Gives v (n + m)
adding n (Fails f) = Fails f
adding n Overspends = Overspends

-- n turns, if they are left, then this
abbrev pub charging : ℕ → ℕ → Outcome → Outcome
charging n left o = if nat_le n left then adding n o else Overspends

-- what the first gives goes to the second with the turns that are then left
abbrev pub then_with : Outcome → ℕ → (Option Datum → ℕ → Outcome) → Outcome
then_with (Gives v n) left next = adding n (next v (left - n))
then_with (Fails f) left next = Fails f
then_with Overspends left next = Overspends

-- ---- operands

-- the values of operands of which none is `om`
abbrev pub one_more : Datum → Option (List Datum) → Option (List Datum)
one_more d None = None
one_more d (Some ds) = Some (d ∷ ds)

abbrev pub all_values : List (Option Datum) → Option (List Datum)
all_values [] = Some []
all_values (None ∷ vs) = None
all_values (Some d ∷ vs) = one_more d (all_values vs)

-- an operator over one, two or three values; it is never applied to another number of operands
abbrev pub unary : (Datum → Outcome) → Option (List Datum) → Outcome
unary f None = Fails OmFault
unary f (Some (a ∷ [])) = f a
unary f (Some ds) = Fails KindFault

abbrev pub binary : (Datum → Datum → Outcome) → Option (List Datum) → Outcome
binary f None = Fails OmFault
binary f (Some (a ∷ b ∷ [])) = f a b
binary f (Some ds) = Fails KindFault

abbrev pub ternary : (Datum → Datum → Datum → Outcome) → Option (List Datum) → Outcome
ternary f None = Fails OmFault
ternary f (Some (a ∷ b ∷ c ∷ [])) = f a b c
ternary f (Some ds) = Fails KindFault
