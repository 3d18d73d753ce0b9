-- The operators on numbers, some of which serve sets, tuples and strings too.
use Rattle.std.specs.Prelude.{◌≡◌, ℕ, zero, suc, ◌<◌, ◌≤◌, ◌^◌, ◌++◌, ℤ, pos, negsuc, neg_ℤ, ◌+ℤ◌, ◌-ℤ◌, ◌*ℤ◌, int_div, not, Bool, true, false, int_le, unsigned_abs, Result, Ok, Err, if◌then◌else◌, refl}
use Rattle.std.specs.Int.{int_rem_euclid}
use Rattle.std.proofs.Common.{arith}
use Rattle.std.proofs.lemmas.Bool.{ltb-true}
use Rattle.std.proofs.lemmas.Nat.{mod_below}
use Rattle.setl_value.specs.Copies.{copies}
use Rattle.setl_value.specs.Datum.{Datum, bool, int, text, atom, tuple, set, part_list, element_list}
use Rattle.setl_value.specs.WellFormed.{IsTextByte, IsWide, IsValue}
use Rattle.setl_scalar.specs.declared.ScalarFault.{ScalarFault}
use Rattle.setl_scalar.specs.declared.ScalarFault.TheVariants.{Wide, Zero, Range, NoMemory}
use Rattle.setl_scalar.specs.Integers.{fits, narrow, power, power_of, div_of, mod_of, neg_of, abs_of}
use Rattle.setl_set.specs.Sets.{has_datum, union_of, minus_of, meet_of, symm_of}
use Rattle.setl_set.specs.Laws.{Gathers}
use Rattle.setl_operators_table.specs.Numbers.{whole, negate, absolute, is_even, is_odd, raise, divide, greater, lesser, plus, minus, replicated, times, modulo}
use Rattle.setl_operators_table.specs.Outcome.{value, tuple_value}
use Rattle.setl_operators_laws.specs.Lists.{all_append, all_copies, all_filter}
use Rattle.setl_operators_laws.specs.Outcomes.{GivesValue, a_boolean, text_value, charging_gives}
use Rattle.setl_operators_laws.specs.SetValues.{Stands, members, set_is_value, all_set_from, rising_filter, rising_members}
use Rattle.setl_operators_laws.specs.TupleValues.{PartStands, components, trimmed_components, tuple_is_value, trimmed_append, trimmed_copies}

-- a number in range, if there is one
abbrev IsWideResult : Result ℤ ScalarFault → Type 0
IsWideResult (Ok z) = IsWide z
IsWideResult (Err e) = Unit {0}

fits_wide : (z : ℤ) → fits z ≡ true → IsWide z
fits_wide (pos n) e = ltb-true n (2 ^ 127) e
fits_wide (negsuc n) e = ltb-true n (2 ^ 127) e

narrow_wide : (z : ℤ) → IsWideResult (narrow z)
narrow_wide z = go (fits z) refl
  where
    go : (b : Bool) → fits z ≡ b → IsWideResult (if b then Ok z else Err Wide)
    go true e = fits_wide z e
    go false e = tt

pub int_value : (z : ℤ) → IsWide z → IsValue (int z)
int_value z w = (w, omega arith)

whole_gives : (r : Result ℤ ScalarFault) → IsWideResult r → GivesValue (whole r)
whole_gives (Ok z) w = int_value z w
whole_gives (Err Zero) w = tt
whole_gives (Err Range) w = tt
whole_gives (Err Wide) w = tt
whole_gives (Err NoMemory) w = tt

narrowed : (z : ℤ) → GivesValue (whole (narrow z))
narrowed z = whole_gives (narrow z) (narrow_wide z)

pub negate_gives : (d : Datum) → IsValue d → GivesValue (negate d)
negate_gives (int z) h = whole_gives (neg_of z) (narrow_wide (neg_ℤ z))
negate_gives d h = tt

pub absolute_gives : (d : Datum) → IsValue d → GivesValue (absolute d)
absolute_gives (int z) h = whole_gives (abs_of z) (narrow_wide (pos (unsigned_abs z)))
absolute_gives d h = tt

pub even_gives : (d : Datum) → IsValue d → GivesValue (is_even d)
even_gives (int z) h = a_boolean
even_gives d h = tt

pub odd_gives : (d : Datum) → IsValue d → GivesValue (is_odd d)
odd_gives (int z) h = a_boolean
odd_gives d h = tt

power_wide : (a b : ℤ) → IsWideResult (power_of a b)
power_wide a (pos n) = narrow_wide (power a n)
power_wide a (negsuc n) = tt

pub raise_gives : (d e : Datum) → IsValue d → IsValue e → GivesValue (raise d e)
raise_gives (int a) (int b) h k = whole_gives (power_of a b) (power_wide a b)
raise_gives d e h k = tt

div_wide : (a b : ℤ) → IsWideResult (div_of a b)
div_wide a (pos zero) = tt
div_wide a (pos (suc n)) = narrow_wide (int_div a (pos (suc n)))
div_wide a (negsuc n) = narrow_wide (int_div a (negsuc n))

pub divide_gives : (d e : Datum) → IsValue d → IsValue e → GivesValue (divide d e)
divide_gives (int a) (int b) h k = whole_gives (div_of a b) (div_wide a b)
divide_gives d e h k = tt

-- a remainder is below the divisor's absolute value, which is at most 2^127
remainder_wide : (a b : ℤ) (n : ℕ) → unsigned_abs b ≡ n → 0 < n → n ≤ 2 ^ 127 → IsWide (int_rem_euclid a b)
remainder_wide (pos m) b n e p q = omega (arith, e, q, mod_below m (unsigned_abs b) (omega (arith, e, p)))
remainder_wide (negsuc m) b n e p q = omega (arith, e, p, q)

mod_wide : (a b : ℤ) → IsWide b → IsWideResult (mod_of a b)
mod_wide a (pos zero) w = tt
mod_wide a (pos (suc n)) w = remainder_wide a (pos (suc n)) (suc n) refl (omega arith) (omega (arith, w))
mod_wide a (negsuc n) w = remainder_wide a (negsuc n) (suc n) refl (omega arith) (omega (arith, w))

choice_wide : (b : Bool) (x y : ℤ) → IsWide x → IsWide y → IsWide (if b then x else y)
choice_wide true x y h k = h
choice_wide false x y h k = k

pub greater_gives : (d e : Datum) → IsValue d → IsValue e → GivesValue (greater d e)
greater_gives (int a) (int b) h k = int_value (if int_le a b then b else a) (choice_wide (int_le a b) b a k.0 h.0)
greater_gives d e h k = tt

pub lesser_gives : (d e : Datum) → IsValue d → IsValue e → GivesValue (lesser d e)
lesser_gives (int a) (int b) h k = int_value (if int_le a b then a else b) (choice_wide (int_le a b) a b h.0 k.0)
lesser_gives d e h k = tt

-- ---- those that serve other kinds too

pub plus_gives : Gathers → (d e : Datum) → IsValue d → IsValue e → GivesValue (plus d e)
plus_gives g (int a) (int b) h k = narrowed (a +ℤ b)
plus_gives g (set a) (set b) h k =
    let xs = element_list a in
    let ys = element_list b in
    set_is_value (union_of xs ys) (all_set_from (Stands 499) (xs ++ ys) (all_append (Stands 499) xs ys (members a h) (members b k))) (g (xs ++ ys)).rising
plus_gives g (tuple a) (tuple b) h k =
    let ps = part_list a in
    let qs = part_list b in
    tuple_is_value (ps ++ qs) (all_append (PartStands 499) ps qs (components a h) (components b k)) (trimmed_append ps qs (trimmed_components a h) (trimmed_components b k))
plus_gives g (text a) (text b) h k = text_value (a ++ b) (all_append IsTextByte a b h.0 k.0)
plus_gives g d e h k = tt

pub minus_gives : (d e : Datum) → IsValue d → IsValue e → GivesValue (minus d e)
minus_gives (int a) (int b) h k = narrowed (a -ℤ b)
minus_gives (set a) (set b) h k =
    let xs = element_list a in
    let kept = λ (x : Datum). not (has_datum x (element_list b)) in
    set_is_value (minus_of xs (element_list b)) (all_filter (Stands 499) kept xs (members a h)) (rising_filter kept xs (rising_members a h))
minus_gives d e h k = tt

replicated_gives : (left : ℕ) (n : ℤ) (d : Datum) → IsValue d → GivesValue (replicated left n d)
replicated_gives left (pos n) (tuple ps) h =
    charging_gives n left (tuple_value (copies n (part_list ps))) (tuple_is_value (copies n (part_list ps)) (all_copies (PartStands 499) n (part_list ps) (components ps h)) (trimmed_copies n (part_list ps) (trimmed_components ps h)))
replicated_gives left (pos n) (text t) h = charging_gives n left (value (text (copies n t))) (text_value (copies n t) (all_copies IsTextByte n t h.0))
replicated_gives left (negsuc n) (tuple ps) h = tt
replicated_gives left (negsuc n) (text t) h = tt
replicated_gives left n d h = tt

pub times_gives : (left : ℕ) (d e : Datum) → IsValue d → IsValue e → GivesValue (times left d e)
times_gives left (int a) (int b) h k = narrowed (a *ℤ b)
times_gives left (set a) (set b) h k =
    let xs = element_list a in
    let kept = λ (x : Datum). has_datum x (element_list b) in
    set_is_value (meet_of xs (element_list b)) (all_filter (Stands 499) kept xs (members a h)) (rising_filter kept xs (rising_members a h))
times_gives left (int n) (bool b) h k = replicated_gives left n (bool b) k
times_gives left (int n) (text t) h k = replicated_gives left n (text t) k
times_gives left (int n) (atom a) h k = replicated_gives left n (atom a) k
times_gives left (int n) (tuple ps) h k = replicated_gives left n (tuple ps) k
times_gives left (int n) (set ms) h k = replicated_gives left n (set ms) k
times_gives left (bool b) (int n) h k = replicated_gives left n (bool b) h
times_gives left (text t) (int n) h k = replicated_gives left n (text t) h
times_gives left (atom a) (int n) h k = replicated_gives left n (atom a) h
times_gives left (tuple ps) (int n) h k = replicated_gives left n (tuple ps) h
times_gives left (set ms) (int n) h k = replicated_gives left n (set ms) h
times_gives left d e h k = tt

pub modulo_gives : Gathers → (d e : Datum) → IsValue d → IsValue e → GivesValue (modulo d e)
modulo_gives g (int a) (int b) h k = whole_gives (mod_of a b) (mod_wide a b k.0)
modulo_gives g (set a) (set b) h k =
    let xs = element_list a in
    let ys = element_list b in
    set_is_value (symm_of xs ys) (all_set_from (Stands 499) (minus_of xs ys ++ minus_of ys xs)
    (all_append (Stands 499) (minus_of xs ys) (minus_of ys xs) (all_filter (Stands 499) (λ x. not (has_datum x ys)) xs (members a h)) (all_filter (Stands 499) (λ y. not (has_datum y xs)) ys (members b k))))
    (g (minus_of xs ys ++ minus_of ys xs)).rising
modulo_gives g d e h k = tt
