-- Wholes that were combined with a value, and what is left where a value was taken out.
use Rattle.std.specs.Prelude.{◌≡◌, ◌⊎◌, ℕ, ℤ, Bool, true, not, int_le, if◌then◌else◌, List, [], ◌∷◌, ◌++◌, reverse, Option, Some, None, Result, Ok, Err, refl}
use Rattle.std.specs.List.{filter}
use Rattle.std.specs.Ordering.{is_eq}
use Rattle.std.proofs.Common.{ap, sym, ◌∙◌, subst, inl, inr}
use Rattle.std.proofs.lemmas.Bool.{false≢true}
use Rattle.std.proofs.lemmas.List.{reverse-append}
use Rattle.setl_value.specs.Datum.{Datum, int, text, tuple, set, Elements, set_of, tuple_of, element_list, part_list}
use Rattle.setl_value.specs.Order.{datum_cmp, IsRising}
use Rattle.setl_value.specs.Pairs.{pair_parts, first_of, is_datum}
use Rattle.setl_value.specs.WellFormed.{trim}
use Rattle.setl_set.specs.Sets.{has_datum, insert_datum, union_of, minus_of, remove_datum}
use Rattle.setl_map.specs.Maps.{without_point}
use Rattle.setl_tuple.specs.Tuples.{with_of}
use Rattle.setl_modes.specs.Modes.{Mode, General, Integers, Strings, Booleans, Atoms, Elements as ElementsOf, Sets, Tuples, SingleMaps, MultiMaps}
use Rattle.setl_modes.specs.Fits.{part_fits, datum_fits, fits}
use Rattle.setl_operators_table.specs.Outcome.{Gives, value, set_value}
use Rattle.setl_operators_table.specs.Numbers.{whole, raise, divide, greater, lesser, plus, minus, times, modulo}
use Rattle.setl_scalar.specs.Integers.{add_of, sub_of, mul_of, power_of, div_of, mod_of}
use Rattle.setl_operators_table.specs.Collections.{with_datum, less_datum, lessf_datum}
use Rattle.setl_operators_table.specs.declared.Operator.TheVariants.{Add, Subtract, Multiply, Power, Divide, Modulo, Max, Min, With, Less, Lessf}
use Rattle.setl_scalar.specs.declared.ScalarFault.{ScalarFault}
use Rattle.setl_scalar.specs.declared.ScalarFault.TheVariants as fault
use Rattle.setl_modes_parts.specs.Parts.{takes_one, takes_all, takes_product, takes_remainder, takes_any}
use Rattle.setl_modes_parts.specs.Laws.{Fitting, CombinedFit, LeastTakenFits, FirstTakenFits, LastTakenFits}
use Rattle.setl_modes_parts.proofs.Lists.{Among, all_of, all_from, among_parts, among_filter, among_insert, among_set_from, rising_filter, rising_rest}
use Rattle.setl_modes_parts.proofs.Subsets.{of_list, of_set, any_fits, shrinks, part_of_set}
use Rattle.setl_modes_parts.proofs.Parts.{gives_same, map_gives}
use Rattle.setl_modes_parts.proofs.Puts.{within_gives, among_trim, tuple_fits}

-- ---- what takes everything

any_taken : (m : Mode) (w : Option Datum) → takes_any m ≡ true → fits m w ≡ true
any_taken General w h = any_fits w
any_taken (ElementsOf base m) w h = any_taken m w h
any_taken Integers w h = absurd (false≢true h)
any_taken Strings w h = absurd (false≢true h)
any_taken Booleans w h = absurd (false≢true h)
any_taken Atoms w h = absurd (false≢true h)
any_taken (Sets form m) w h = absurd (false≢true h)
any_taken (Tuples m) w h = absurd (false≢true h)
any_taken (SingleMaps form k r) w h = absurd (false≢true h)
any_taken (MultiMaps form k s) w h = absurd (false≢true h)

-- ---- one more

with_fits : (m : Mode) (d v : Datum) (w : Option Datum) (n : ℕ) → takes_one m (Some v) ≡ true → datum_fits m d ≡ true → with_datum d v ≡ Gives w n → fits m w ≡ true
with_fits General d v w n t h g = any_fits w
with_fits (ElementsOf base m) d v w n t h g = with_fits m d v w n t h g
with_fits (Sets form m) (set ms) v w n t h g =
    subst (λ o. fits (Sets form m) o ≡ true) (within_gives (set_of (insert_datum v (element_list ms))) w n g)
    (of_set (Sets form m) (insert_datum v (element_list ms)) ∙ all_from (datum_fits m) (insert_datum v (element_list ms)) (λ e a. go e (among_insert v (element_list ms) e a)))
  where
    go : (e : Datum) → (e ≡ v) ⊎ Among e (element_list ms) → datum_fits m e ≡ true
    go e (inl p) = ap (datum_fits m) p ∙ t
    go e (inr a) = all_of (datum_fits m) (element_list ms) h e a
with_fits (Sets form m) d v w n t h g = absurd (false≢true h)
with_fits (Tuples m) (tuple ps) v w n t h g =
    subst (λ o. fits (Tuples m) o ≡ true) (within_gives (tuple_of (with_of (part_list ps) v)) w n g)
    (tuple_fits m (with_of (part_list ps) v) ∙ all_from (part_fits (datum_fits m)) (with_of (part_list ps) v) (λ q a. go q (among_parts (part_list ps) (Some v ∷ []) q a)))
  where
    go : (q : Option Datum) → Among q (part_list ps) ⊎ Among q (Some v ∷ []) → part_fits (datum_fits m) q ≡ true
    go q (inl a) = all_of (part_fits (datum_fits m)) (part_list ps) h q a
    go q (inr (inl p)) = ap (part_fits (datum_fits m)) p ∙ t
    go q (inr (inr a)) = absurd a
with_fits (Tuples m) d v w n t h g = absurd (false≢true h)
with_fits Integers d v w n t h g = absurd (false≢true t)
with_fits Strings d v w n t h g = absurd (false≢true t)
with_fits Booleans d v w n t h g = absurd (false≢true t)
with_fits Atoms d v w n t h g = absurd (false≢true t)
with_fits (SingleMaps form k r) d v w n t h g = absurd (false≢true t)
with_fits (MultiMaps form k s) d v w n t h g = absurd (false≢true t)

-- ---- integers

integers_alike : (m : Mode) (a b : ℤ) → datum_fits m (int a) ≡ datum_fits m (int b)
integers_alike General a b = refl
integers_alike Integers a b = refl
integers_alike Strings a b = refl
integers_alike Booleans a b = refl
integers_alike Atoms a b = refl
integers_alike (ElementsOf base m) a b = integers_alike m a b
integers_alike (Sets form m) a b = refl
integers_alike (Tuples m) a b = refl
integers_alike (SingleMaps form k r) a b = refl
integers_alike (MultiMaps form k s) a b = refl

whole_fits : (m : Mode) (a : ℤ) (r : Result ℤ ScalarFault) (w : Option Datum) (n : ℕ) → datum_fits m (int a) ≡ true → whole r ≡ Gives w n → fits m w ≡ true
whole_fits m a (Ok z) w n h g = subst (λ o. fits m o ≡ true) (gives_same (Some (int z)) w 0 n g) (integers_alike m z a ∙ h)
whole_fits m a (Err fault.Wide) w n h g = absurd (cc)
whole_fits m a (Err fault.Zero) w n h g = absurd (cc)
whole_fits m a (Err fault.Range) w n h g = absurd (cc)
whole_fits m a (Err fault.NoMemory) w n h g = absurd (cc)

-- ---- all of another

plus_fits : (m : Mode) (d v : Datum) (w : Option Datum) (n : ℕ) → takes_all m (Some v) ≡ true → datum_fits m d ≡ true → plus d v ≡ Gives w n → fits m w ≡ true
plus_fits General d v w n t h g = any_fits w
plus_fits (ElementsOf base m) d v w n t h g = plus_fits m d v w n t h g
plus_fits Integers (int a) (int b) w n t h g = whole_fits Integers a (add_of a b) w n refl g
plus_fits Integers (int a) v w n t h g = absurd (cc)
plus_fits Integers d v w n t h g = absurd (false≢true h)
plus_fits Strings (text a) (text b) w n t h g = subst (λ o. fits Strings o ≡ true) (gives_same (Some (text (a ++ b))) w 0 n g) refl
plus_fits Strings (text a) v w n t h g = absurd (cc)
plus_fits Strings d v w n t h g = absurd (false≢true h)
plus_fits (Sets form m) (set a) (set b) w n t h g =
    subst (λ o. fits (Sets form m) o ≡ true) (gives_same (Some (set_of (union_of (element_list a) (element_list b)))) w 0 n g)
    (of_set (Sets form m) (union_of (element_list a) (element_list b))
    ∙ all_from (datum_fits m) (union_of (element_list a) (element_list b)) (λ e k. go e (among_parts (element_list a) (element_list b) e (among_set_from (element_list a ++ element_list b) e k))))
  where
    go : (e : Datum) → Among e (element_list a) ⊎ Among e (element_list b) → datum_fits m e ≡ true
    go e (inl k) = all_of (datum_fits m) (element_list a) h e k
    go e (inr k) = all_of (datum_fits m) (element_list b) t e k
plus_fits (Sets form m) (set a) v w n t h g = absurd (false≢true t)
plus_fits (Sets form m) d v w n t h g = absurd (false≢true h)
plus_fits (Tuples m) (tuple a) (tuple b) w n t h g =
    subst (λ o. fits (Tuples m) o ≡ true) (gives_same (Some (tuple_of (part_list a ++ part_list b))) w 0 n g)
    (tuple_fits m (part_list a ++ part_list b) ∙ all_from (part_fits (datum_fits m)) (part_list a ++ part_list b) (λ q k. go q (among_parts (part_list a) (part_list b) q k)))
  where
    go : (q : Option Datum) → Among q (part_list a) ⊎ Among q (part_list b) → part_fits (datum_fits m) q ≡ true
    go q (inl k) = all_of (part_fits (datum_fits m)) (part_list a) h q k
    go q (inr k) = all_of (part_fits (datum_fits m)) (part_list b) t q k
plus_fits (Tuples m) (tuple a) v w n t h g = absurd (false≢true t)
plus_fits (Tuples m) d v w n t h g = absurd (false≢true h)
plus_fits Booleans d v w n t h g = absurd (false≢true t)
plus_fits Atoms d v w n t h g = absurd (false≢true t)
plus_fits (SingleMaps form k r) d v w n t h g = absurd (false≢true t)
plus_fits (MultiMaps form k s) d v w n t h g = absurd (false≢true t)

-- ---- some less

-- what is left of a set by a test
cut_fits : (m : Mode) (p : Datum → Bool) (ms : Elements) → IsRising (element_list ms) → datum_fits m (set ms) ≡ true → fits m (Some (set_of (filter p (element_list ms)))) ≡ true
cut_fits m p ms r h =
    of_set m (filter p (element_list ms))
    ∙ shrinks m (element_list ms) (filter p (element_list ms)) (rising_filter p (element_list ms) r) (λ z a. (among_filter p (element_list ms) z a).0) (sym (of_list m ms) ∙ h)

less_fits : (m : Mode) (d v : Datum) (w : Option Datum) (n : ℕ) → Fitting m (Some d) → less_datum d v ≡ Gives w n → fits m w ≡ true
less_fits m (set ms) v w n h g =
    subst (λ o. fits m o ≡ true) (gives_same (Some (set_of (remove_datum v (element_list ms)))) w 0 n g)
    (cut_fits m (λ e. not (is_eq (datum_cmp v e))) ms h.0.1 h.1)
less_fits m d v w n h g = absurd (cc)

lessf_fits : (m : Mode) (d v : Datum) (w : Option Datum) (n : ℕ) → Fitting m (Some d) → lessf_datum d v ≡ Gives w n → fits m w ≡ true
lessf_fits m (set ms) v w n h g =
    subst (λ o. fits m o ≡ true) (gives_same (Some (set_of (without_point v (element_list ms)))) w 0 n (map_gives (λ f. set_value (without_point v f)) (element_list ms) w n g))
    (cut_fits m (λ e. not (is_datum v (first_of (pair_parts e)))) ms h.0.1 h.1)
lessf_fits m d v w n h g = absurd (cc)

minus_fits : (m : Mode) (d v : Datum) (w : Option Datum) (n : ℕ) → Fitting m (Some d) → minus d v ≡ Gives w n → fits m w ≡ true
minus_fits m (int a) (int b) w n h g = whole_fits m a (sub_of a b) w n h.1 g
minus_fits m (set a) (set b) w n h g =
    subst (λ o. fits m o ≡ true) (gives_same (Some (set_of (minus_of (element_list a) (element_list b)))) w 0 n g)
    (cut_fits m (λ x. not (has_datum x (element_list b))) a h.0.1 h.1)
minus_fits m d v w n h g = absurd (cc)

-- ---- numbers

times_fits : (m : Mode) (left : ℕ) (d v : Datum) (w : Option Datum) (n : ℕ) → takes_product m (Some v) ≡ true → datum_fits m d ≡ true → times left d v ≡ Gives w n → fits m w ≡ true
times_fits General left d v w n t h g = any_fits w
times_fits (ElementsOf base m) left d v w n t h g = times_fits m left d v w n t h g
times_fits Integers left (int a) (int b) w n t h g = whole_fits Integers a (mul_of a b) w n refl g
times_fits Integers left (int a) v w n t h g = absurd (false≢true t)
times_fits Integers left d v w n t h g = absurd (false≢true h)
times_fits Strings left d v w n t h g = absurd (false≢true t)
times_fits Booleans left d v w n t h g = absurd (false≢true t)
times_fits Atoms left d v w n t h g = absurd (false≢true t)
times_fits (Sets form m) left d v w n t h g = absurd (false≢true t)
times_fits (Tuples m) left d v w n t h g = absurd (false≢true t)
times_fits (SingleMaps form k r) left d v w n t h g = absurd (false≢true t)
times_fits (MultiMaps form k s) left d v w n t h g = absurd (false≢true t)

modulo_fits : (m : Mode) (d v : Datum) (w : Option Datum) (n : ℕ) → takes_remainder m ≡ true → datum_fits m d ≡ true → modulo d v ≡ Gives w n → fits m w ≡ true
modulo_fits General d v w n t h g = any_fits w
modulo_fits (ElementsOf base m) d v w n t h g = modulo_fits m d v w n t h g
modulo_fits Integers (int a) (int b) w n t h g = whole_fits Integers a (mod_of a b) w n refl g
modulo_fits Integers (int a) v w n t h g = absurd (cc)
modulo_fits Integers d v w n t h g = absurd (false≢true h)
modulo_fits Strings d v w n t h g = absurd (false≢true t)
modulo_fits Booleans d v w n t h g = absurd (false≢true t)
modulo_fits Atoms d v w n t h g = absurd (false≢true t)
modulo_fits (Sets form m) d v w n t h g = absurd (false≢true t)
modulo_fits (Tuples m) d v w n t h g = absurd (false≢true t)
modulo_fits (SingleMaps form k r) d v w n t h g = absurd (false≢true t)
modulo_fits (MultiMaps form k s) d v w n t h g = absurd (false≢true t)

raise_fits : (m : Mode) (d v : Datum) (w : Option Datum) (n : ℕ) → datum_fits m d ≡ true → raise d v ≡ Gives w n → fits m w ≡ true
raise_fits m (int a) (int b) w n h g = whole_fits m a (power_of a b) w n h g
raise_fits m d v w n h g = absurd (cc)

divide_fits : (m : Mode) (d v : Datum) (w : Option Datum) (n : ℕ) → datum_fits m d ≡ true → divide d v ≡ Gives w n → fits m w ≡ true
divide_fits m (int a) (int b) w n h g = whole_fits m a (div_of a b) w n h g
divide_fits m d v w n h g = absurd (cc)

number_fits : (m : Mode) (a z : ℤ) (w : Option Datum) (n : ℕ) → datum_fits m (int a) ≡ true → value (int z) ≡ Gives w n → fits m w ≡ true
number_fits m a z w n h g = subst (λ o. fits m o ≡ true) (gives_same (Some (int z)) w 0 n g) (integers_alike m z a ∙ h)

greater_fits : (m : Mode) (d v : Datum) (w : Option Datum) (n : ℕ) → datum_fits m d ≡ true → greater d v ≡ Gives w n → fits m w ≡ true
greater_fits m (int a) (int b) w n h g = number_fits m a (if int_le a b then b else a) w n h g
greater_fits m d v w n h g = absurd (cc)

lesser_fits : (m : Mode) (d v : Datum) (w : Option Datum) (n : ℕ) → datum_fits m d ≡ true → lesser d v ≡ Gives w n → fits m w ≡ true
lesser_fits m (int a) (int b) w n h g = number_fits m a (if int_le a b then a else b) w n h g
lesser_fits m d v w n h g = absurd (cc)

pub combined_fit : CombinedFit
combined_fit With m None None w left c t h g = absurd (cc)
combined_fit With m None (Some v) w left c t h g = absurd (cc)
combined_fit With m (Some d) None w left c t h g = absurd (cc)
combined_fit With m (Some d) (Some v) w left c t h g = with_fits m d v w c t h.1 g
combined_fit Add m None None w left c t h g = absurd (cc)
combined_fit Add m None (Some v) w left c t h g = absurd (cc)
combined_fit Add m (Some d) None w left c t h g = absurd (cc)
combined_fit Add m (Some d) (Some v) w left c t h g = plus_fits m d v w c t h.1 g
combined_fit Less m None None w left c t h g = absurd (cc)
combined_fit Less m None (Some v) w left c t h g = absurd (cc)
combined_fit Less m (Some d) None w left c t h g = absurd (cc)
combined_fit Less m (Some d) (Some v) w left c t h g = less_fits m d v w c h g
combined_fit Subtract m None None w left c t h g = absurd (cc)
combined_fit Subtract m None (Some v) w left c t h g = absurd (cc)
combined_fit Subtract m (Some d) None w left c t h g = absurd (cc)
combined_fit Subtract m (Some d) (Some v) w left c t h g = minus_fits m d v w c h g
combined_fit Lessf m None None w left c t h g = absurd (cc)
combined_fit Lessf m None (Some v) w left c t h g = absurd (cc)
combined_fit Lessf m (Some d) None w left c t h g = absurd (cc)
combined_fit Lessf m (Some d) (Some v) w left c t h g = lessf_fits m d v w c h g
combined_fit Multiply m None None w left c t h g = absurd (cc)
combined_fit Multiply m None (Some v) w left c t h g = absurd (cc)
combined_fit Multiply m (Some d) None w left c t h g = absurd (cc)
combined_fit Multiply m (Some d) (Some v) w left c t h g = times_fits m left d v w c t h.1 g
combined_fit Modulo m None None w left c t h g = absurd (cc)
combined_fit Modulo m None (Some v) w left c t h g = absurd (cc)
combined_fit Modulo m (Some d) None w left c t h g = absurd (cc)
combined_fit Modulo m (Some d) (Some v) w left c t h g = modulo_fits m d v w c t h.1 g
combined_fit Power m None None w left c t h g = absurd (cc)
combined_fit Power m None (Some v) w left c t h g = absurd (cc)
combined_fit Power m (Some d) None w left c t h g = absurd (cc)
combined_fit Power m (Some d) (Some v) w left c t h g = raise_fits m d v w c h.1 g
combined_fit Divide m None None w left c t h g = absurd (cc)
combined_fit Divide m None (Some v) w left c t h g = absurd (cc)
combined_fit Divide m (Some d) None w left c t h g = absurd (cc)
combined_fit Divide m (Some d) (Some v) w left c t h g = divide_fits m d v w c h.1 g
combined_fit Max m None None w left c t h g = absurd (cc)
combined_fit Max m None (Some v) w left c t h g = absurd (cc)
combined_fit Max m (Some d) None w left c t h g = absurd (cc)
combined_fit Max m (Some d) (Some v) w left c t h g = greater_fits m d v w c h.1 g
combined_fit Min m None None w left c t h g = absurd (cc)
combined_fit Min m None (Some v) w left c t h g = absurd (cc)
combined_fit Min m (Some d) None w left c t h g = absurd (cc)
combined_fit Min m (Some d) (Some v) w left c t h g = lesser_fits m d v w c h.1 g
combined_fit o m whole v w left c t h g = any_taken m w t

-- ---- one taken out

pub least_taken_fits : LeastTakenFits
least_taken_fits m d ds r h = part_of_set m (d ∷ ds) ds (rising_rest d ds r) (λ z a. inr a) h

-- the components of a tuple that are among those of another
parts_fit : (m : Mode) (ps qs : List (Option Datum)) → ((q : Option Datum) → Among q qs → Among q ps) → datum_fits m (tuple_of ps) ≡ true → datum_fits m (tuple_of qs) ≡ true
parts_fit General ps qs w h = refl
parts_fit (ElementsOf base m) ps qs w h = parts_fit m ps qs w h
parts_fit (Tuples m) ps qs w h =
    tuple_fits m qs ∙ all_from (part_fits (datum_fits m)) qs (λ q a. all_of (part_fits (datum_fits m)) ps (sym (tuple_fits m ps) ∙ h) q (w q a))
parts_fit Integers ps qs w h = absurd (false≢true h)
parts_fit Strings ps qs w h = absurd (false≢true h)
parts_fit Booleans ps qs w h = absurd (false≢true h)
parts_fit Atoms ps qs w h = absurd (false≢true h)
parts_fit (Sets form m) ps qs w h = absurd (false≢true h)
parts_fit (SingleMaps form k r) ps qs w h = absurd (false≢true h)
parts_fit (MultiMaps form k s) ps qs w h = absurd (false≢true h)

pub first_taken_fits : FirstTakenFits
first_taken_fits m p ps h = parts_fit m (p ∷ ps) (trim ps) (λ q a. inr (among_trim ps q a)) h

among_reverse : (ps : List (Option Datum)) (q : Option Datum) → Among q (reverse ps) → Among q ps
among_reverse [] q m = m
among_reverse (p ∷ ps) q m = go (among_reverse ps q) (among_parts (reverse ps) (p ∷ []) q (subst (Among q) (reverse-append (p ∷ []) ps) m))
  where
    go : (Among q (reverse ps) → Among q ps) → Among q (reverse ps) ⊎ Among q (p ∷ []) → Among q (p ∷ ps)
    go rest (inl n) = inr (rest n)
    go rest (inr (inl e)) = inl e
    go rest (inr (inr n)) = absurd n

pub last_taken_fits : LastTakenFits
last_taken_fits m p ps qs e h =
    parts_fit m ps (trim (reverse qs)) (λ q a. among_reverse ps q (subst (Among q) (sym e) (inr (among_reverse qs q (among_trim (reverse qs) q a))))) h
