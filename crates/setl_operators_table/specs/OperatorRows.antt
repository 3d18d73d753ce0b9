-- Worked rows of the operators' table.
use Rattle.std.specs.Prelude.{◌≡◌, ℕ, ◌^◌, ◌-◌, Option, pos, negsuc, true, false, List, [], ◌∷◌, Some, None, refl}
use Rattle.setl_value.specs.Datum.{Datum, bool, int, text, set_of, tuple_of}
use Rattle.setl_value.specs.Pairs.{pair}
use Rattle.setl_operators_table.specs.declared.Operator.TheVariants.{Negate, Pow, Domain, Range, IsMap, Str, FoldAdd, FoldMax, FoldAnd, Add, Multiply, Power, Divide, Modulo, Lessf, Npow, Equal, NotIn, Get, Images, Slice, Tail, SetOf, TupleOf, SetRange, TupleRange, SetStep, Put, PutImages}
use Rattle.setl_operators_table.specs.Outcome.{Gives, Fails, Overspends, OmFault, KindFault, ZeroFault, RangeFault, WideFault, value, truth}
use Rattle.setl_operators_table.specs.Operators.{op_of}

abbrev number : ℕ → Datum
number n = int (pos n)

abbrev numbers : List ℕ → List Datum
numbers [] = []
numbers (n ∷ ns) = number n ∷ numbers ns

abbrev some : ℕ → Option Datum
some n = Some (number n)

-- {[1 2] [1 3] [2 5]}
abbrev f : Option Datum
f = Some (set_of (pair (number 1) (number 2) ∷ pair (number 1) (number 3) ∷ pair (number 2) (number 5) ∷ []))

-- {1}
abbrev one : Option Datum
one = Some (set_of (numbers (1 ∷ [])))

-- ---- numbers

least_negated : op_of Negate (Some (int (negsuc (2 ^ 127 - 1))) ∷ []) 9 ≡ Fails WideFault
least_negated = refl

quotient_towards_zero : op_of Divide (Some (int (negsuc 6)) ∷ some 2 ∷ []) 0 ≡ value (int (negsuc 2))
quotient_towards_zero = refl

remainder_never_negative : op_of Modulo (Some (int (negsuc 6)) ∷ some 2 ∷ []) 0 ≡ value (number 1)
remainder_never_negative = refl

division_by_zero : op_of Divide (some 1 ∷ some 0 ∷ []) 0 ≡ Fails ZeroFault
division_by_zero = refl

om_before_kind : op_of Add (Some (bool true) ∷ None ∷ []) 0 ≡ Fails OmFault
om_before_kind = refl

no_sum_of_kinds : op_of Add (some 1 ∷ one ∷ []) 0 ≡ Fails KindFault
no_sum_of_kinds = refl

negative_exponent : op_of Power (some 2 ∷ Some (int (negsuc 0)) ∷ []) 0 ≡ Fails RangeFault
negative_exponent = refl

copies_charge : op_of Multiply (some 2 ∷ Some (text (97 ∷ 98 ∷ [])) ∷ []) 2 ≡ Gives (Some (text (97 ∷ 98 ∷ 97 ∷ 98 ∷ []))) 2
copies_charge = refl

copies_beyond_the_turns : op_of Multiply (Some (tuple_of []) ∷ some 3 ∷ []) 2 ≡ Overspends
copies_beyond_the_turns = refl

-- ---- sets and maps

a_set_of_subsets : op_of Pow (one ∷ []) 2 ≡ Gives (Some (set_of (set_of [] ∷ set_of (numbers (1 ∷ [])) ∷ []))) 2
a_set_of_subsets = refl

some_subsets : op_of Npow (some 1 ∷ one ∷ []) 1 ≡ Gives (Some (set_of (set_of (numbers (1 ∷ [])) ∷ []))) 1
some_subsets = refl

the_domain : op_of Domain (f ∷ []) 0 ≡ value (set_of (numbers (1 ∷ 2 ∷ [])))
the_domain = refl

the_range : op_of Range (f ∷ []) 0 ≡ value (set_of (numbers (2 ∷ 3 ∷ 5 ∷ [])))
the_range = refl

no_domain : op_of Domain (one ∷ []) 0 ≡ Fails KindFault
no_domain = refl

without_one : op_of Lessf (f ∷ some 1 ∷ []) 0 ≡ value (set_of (pair (number 2) (number 5) ∷ []))
without_one = refl

no_map : op_of IsMap (one ∷ []) 0 ≡ truth false
no_map = refl

no_member : op_of NotIn (some 2 ∷ one ∷ []) 0 ≡ truth true
no_member = refl

om_equals_om : op_of Equal (None ∷ None ∷ []) 0 ≡ truth true
om_equals_om = refl

-- ---- selections

several_images : op_of Get (f ∷ some 1 ∷ []) 0 ≡ Gives None 0
several_images = refl

one_image : op_of Get (f ∷ some 2 ∷ []) 0 ≡ value (number 5)
one_image = refl

all_images : op_of Images (f ∷ some 1 ∷ []) 0 ≡ value (set_of (numbers (2 ∷ 3 ∷ [])))
all_images = refl

a_byte : op_of Get (Some (text (97 ∷ 98 ∷ [])) ∷ some 2 ∷ []) 0 ≡ value (text (98 ∷ []))
a_byte = refl

below_the_first : op_of Get (Some (text (97 ∷ [])) ∷ some 0 ∷ []) 0 ≡ Fails RangeFault
below_the_first = refl

a_slice : op_of Slice (Some (tuple_of (some 1 ∷ None ∷ some 3 ∷ [])) ∷ some 1 ∷ some 2 ∷ []) 0 ≡ value (tuple_of (some 1 ∷ []))
a_slice = refl

an_empty_tail : op_of Tail (Some (text (97 ∷ [])) ∷ some 2 ∷ []) 0 ≡ value (text [])
an_empty_tail = refl

-- ---- enumerations and ranges

repeats_dropped : op_of SetOf (some 3 ∷ some 1 ∷ some 3 ∷ []) 0 ≡ value (set_of (numbers (1 ∷ 3 ∷ [])))
repeats_dropped = refl

om_dropped_at_the_end : op_of TupleOf (some 1 ∷ None ∷ []) 0 ≡ value (tuple_of (some 1 ∷ []))
om_dropped_at_the_end = refl

a_range : op_of TupleRange (some 2 ∷ some 3 ∷ []) 5 ≡ Gives (Some (tuple_of (some 2 ∷ some 3 ∷ []))) 2
a_range = refl

a_range_beyond_the_turns : op_of SetRange (some 1 ∷ some 1000000 ∷ []) 10 ≡ Overspends
a_range_beyond_the_turns = refl

a_range_downwards : op_of SetStep (some 5 ∷ some 3 ∷ some 1 ∷ []) 3 ≡ Gives (Some (set_of (numbers (1 ∷ 3 ∷ 5 ∷ [])))) 3
a_range_downwards = refl

-- ---- puts

a_new_image : op_of Put (f ∷ some 1 ∷ some 7 ∷ []) 0 ≡ value (set_of (pair (number 1) (number 7) ∷ pair (number 2) (number 5) ∷ []))
a_new_image = refl

no_image : op_of PutImages (f ∷ some 1 ∷ Some (set_of []) ∷ []) 0 ≡ value (set_of (pair (number 2) (number 5) ∷ []))
no_image = refl

om_put_between : op_of Put (Some (tuple_of (some 1 ∷ [])) ∷ some 3 ∷ some 9 ∷ []) 1 ≡ Gives (Some (tuple_of (some 1 ∷ None ∷ some 9 ∷ []))) 1
om_put_between = refl

om_put_past_the_end : op_of Put (Some (tuple_of (some 1 ∷ [])) ∷ some 9 ∷ None ∷ []) 0 ≡ value (tuple_of (some 1 ∷ []))
om_put_past_the_end = refl

-- ---- folds

from_the_left : op_of FoldAdd (Some (tuple_of (some 1 ∷ some 2 ∷ some 3 ∷ [])) ∷ []) 0 ≡ value (number 6)
from_the_left = refl

of_none : op_of FoldMax (Some (set_of []) ∷ []) 0 ≡ Gives None 0
of_none = refl

one_alone : op_of FoldAnd (one ∷ []) 0 ≡ value (number 1)
one_alone = refl

om_in_between : op_of FoldAdd (Some (tuple_of (some 1 ∷ None ∷ some 3 ∷ [])) ∷ []) 0 ≡ Fails OmFault
om_in_between = refl

a_text : op_of Str (Some (bool true) ∷ []) 0 ≡ value (text (116 ∷ 114 ∷ 117 ∷ 101 ∷ []))
a_text = refl
