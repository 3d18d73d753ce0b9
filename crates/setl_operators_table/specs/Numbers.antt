-- The arithmetic operators, some of which serve sets, tuples and strings too.
use Rattle.std.specs.Prelude.{ℕ, ◌%◌, ◌==◌, ◌++◌, ℤ, pos, negsuc, int_le, unsigned_abs, Result, Ok, Err, if◌then◌else◌}
use Rattle.setl_value.specs.Copies.{copies}
use Rattle.setl_value.specs.Datum.{Datum, int, text, tuple, set, part_list, element_list}
use Rattle.setl_scalar.specs.declared.ScalarFault.{ScalarFault}
use Rattle.setl_scalar.specs.declared.ScalarFault.TheVariants.{Wide, Zero, Range, NoMemory}
use Rattle.setl_scalar.specs.Integers.{add_of, sub_of, mul_of, neg_of, abs_of, power_of, div_of, mod_of}
use Rattle.setl_set.specs.Sets.{union_of, minus_of, meet_of, symm_of}
use Rattle.setl_operators_table.specs.Outcome.{Outcome, Fails, KindFault, ZeroFault, RangeFault, WideFault, value, truth, set_value, tuple_value, charging}

-- what an operator on integers gives; its definition never answers NoMemory
abbrev pub whole : Result ℤ ScalarFault → Outcome
whole (Ok z) = value (int z)
whole (Err Zero) = Fails ZeroFault
whole (Err Range) = Fails RangeFault
whole (Err Wide) = Fails WideFault
whole (Err NoMemory) = Fails WideFault

abbrev pub negate : Datum → Outcome
negate (int z) = whole (neg_of z)
negate d = Fails KindFault

abbrev pub absolute : Datum → Outcome
absolute (int z) = whole (abs_of z)
absolute d = Fails KindFault

abbrev pub is_even : Datum → Outcome
is_even (int z) = truth (unsigned_abs z % 2 == 0)
is_even d = Fails KindFault

abbrev pub is_odd : Datum → Outcome
is_odd (int z) = truth (unsigned_abs z % 2 == 1)
is_odd d = Fails KindFault

abbrev pub raise : Datum → Datum → Outcome
raise (int a) (int b) = whole (power_of a b)
raise a b = Fails KindFault

abbrev pub divide : Datum → Datum → Outcome
divide (int a) (int b) = whole (div_of a b)
divide a b = Fails KindFault

abbrev pub greater : Datum → Datum → Outcome
greater (int a) (int b) = value (int (if int_le a b then b else a))
greater a b = Fails KindFault

abbrev pub lesser : Datum → Datum → Outcome
lesser (int a) (int b) = value (int (if int_le a b then a else b))
lesser a b = Fails KindFault

-- sum, union, concatenation
abbrev pub plus : Datum → Datum → Outcome
plus (int a) (int b) = whole (add_of a b)
plus (set a) (set b) = set_value (union_of (element_list a) (element_list b))
plus (tuple a) (tuple b) = tuple_value (part_list a ++ part_list b)
plus (text a) (text b) = value (text (a ++ b))
plus a b = Fails KindFault

-- difference
abbrev pub minus : Datum → Datum → Outcome
minus (int a) (int b) = whole (sub_of a b)
minus (set a) (set b) = set_value (minus_of (element_list a) (element_list b))
minus a b = Fails KindFault

-- n copies of a tuple or a string, which charge n
abbrev pub replicated : ℕ → ℤ → Datum → Outcome
replicated left (pos n) (tuple ps) = charging n left (tuple_value (copies n (part_list ps)))
replicated left (pos n) (text t) = charging n left (value (text (copies n t)))
replicated left (negsuc n) (tuple ps) = Fails RangeFault
replicated left (negsuc n) (text t) = Fails RangeFault
replicated left n d = Fails KindFault

-- product, intersection, copies
abbrev pub times : ℕ → Datum → Datum → Outcome
times left (int a) (int b) = whole (mul_of a b)
times left (set a) (set b) = set_value (meet_of (element_list a) (element_list b))
times left (int n) d = replicated left n d
times left d (int n) = replicated left n d
times left a b = Fails KindFault

-- the remainder from 0 to below the divisor's absolute value; the symmetric difference
abbrev pub modulo : Datum → Datum → Outcome
modulo (int a) (int b) = whole (mod_of a b)
modulo (set a) (set b) = set_value (symm_of (element_list a) (element_list b))
modulo a b = Fails KindFault
