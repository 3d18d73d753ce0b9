-- Integers that are one step apart, counted modulo 2^128, and in rising order.
use Rattle.std.specs.Prelude.{◌≡◌, ◌==◌, ℕ, zero, suc, ◌+◌, ◌-◌, ◌*◌, ◌/◌, ◌%◌, ◌<◌, ◌≤◌, ℤ, pos, negsuc, ◌+ℤ◌, ◌-ℤ◌, ◌<ℤ◌, ◌≤ℤ◌, true, false, List, [], ◌∷◌, Option, int_le, int_lt, unsigned_abs, refl}
use Rattle.std.specs.Bool.{if◌then◌else◌}
use Rattle.std.specs.Cmp.{int_cmp_is}
use Rattle.std.specs.Int.{int_wrap, saturate_signed, w128}
use Rattle.std.specs.Int.RustNames.{FitsSigned}
use Rattle.std.specs.declared.cmp.Ordering.TheVariants.{Less, Greater}
use Rattle.std.proofs.Common.{ap, sym, ◌∙◌, arith, subst}
use Rattle.std.proofs.Math.Nat.{mul-suc, suc-mul, mul-div-le, mul_comm}
use Rattle.std.proofs.lemmas.Bool.Decides.{nat_tests}
use Rattle.std.proofs.lemmas.Nat.{div-add-mod'}
use Rattle.std.proofs.lemmas.Int.{ints, by_lt_z, int_wrap_fits, int_wrap-add_right}
use Rattle.setl_value.specs.Datum.{Datum, int}
use Rattle.setl_set.specs.Sets.{insert_datum, insert_by, set_from}
use Rattle.setl_operators_table.specs.Ranges.{spread, range_from, is_past, step_size, step_from}
use Rattle.setl_operators_table.specs.Outcome.{all_values, ZeroFault}
use Rattle.setl_model.specs.Iterations.{Starts, Refuses, members, of_values, integers_stepped}
use Rattle.setl_store_iterator.specs.Operands.{AreBounds}
use Rattle.setl_store_iterator.specs.Integers.{counted}

-- ---- no integer of a range is wrapped

next_is : (a by step : ℤ) → step ≡ int_wrap w128 by → FitsSigned w128 (a +ℤ by) → int_wrap w128 (a +ℤ step) ≡ a +ℤ by
next_is a by step s f = ap (λ t. int_wrap w128 (a +ℤ t)) s ∙ int_wrap-add_right w128 a by ∙ int_wrap_fits w128 (a +ℤ by) f

pub rising : (a by c step : ℤ) (n : ℕ) → FitsSigned w128 a → FitsSigned w128 c → step ≡ int_wrap w128 by → pos 0 <ℤ by → a ≤ℤ c → unsigned_abs by * n ≤ unsigned_abs (c -ℤ a) → counted a step (suc n) ≡ spread a by (suc n)
rising a by c step zero fa fc s p l h = refl
rising a by c step (suc n) fa fc s p l h =
    let m = mul-suc (unsigned_abs by) n in
    let f : FitsSigned w128 (a +ℤ by) = omega (arith, ints) in
    ap (λ z. int a ∷ counted z step (suc n)) (next_is a by step s f)
    ∙ ap (λ l. int a ∷ l) (rising (a +ℤ by) by c step n f fc s p (omega (arith, ints)) (omega (arith, ints)))

pub falling : (a by c step : ℤ) (n : ℕ) → FitsSigned w128 a → FitsSigned w128 c → step ≡ int_wrap w128 by → by <ℤ pos 0 → c ≤ℤ a → unsigned_abs by * n ≤ unsigned_abs (c -ℤ a) → counted a step (suc n) ≡ spread a by (suc n)
falling a by c step zero fa fc s p l h = refl
falling a by c step (suc n) fa fc s p l h =
    let m = mul-suc (unsigned_abs by) n in
    let f : FitsSigned w128 (a +ℤ by) = omega (arith, ints) in
    ap (λ z. int a ∷ counted z step (suc n)) (next_is a by step s f)
    ∙ ap (λ l. int a ∷ l) (falling (a +ℤ by) by c step n f fc s p (omega (arith, ints)) (omega (arith, ints)))

-- ---- as sets

pub below_next : (a by : ℤ) (n : ℕ) → pos 0 <ℤ by → insert_datum (int a) (spread (a +ℤ by) by n) ≡ spread a by (suc n)
below_next a by zero p = refl
below_next a by (suc n) p =
    ap (λ o. insert_by o (int a) (int (a +ℤ by)) (spread ((a +ℤ by) +ℤ by) by n) (insert_datum (int a) (spread ((a +ℤ by) +ℤ by) by n)))
    (sym (int_cmp_is a (a +ℤ by) Less (omega (arith, ints))))

-- a rising range is a set as it stands
pub rising_set : (a by : ℤ) (n : ℕ) → pos 0 <ℤ by → set_from (spread a by n) ≡ spread a by n
rising_set a by zero p = refl
rising_set a by (suc n) p = ap (insert_datum (int a)) (rising_set (a +ℤ by) by n p) ∙ below_next a by n p

-- the integer behind a rising range comes last in the set
insert_last : (z e : ℤ) (d k : ℕ) → 0 < d → e ≡ z +ℤ pos (k * d) → insert_datum (int e) (spread z (pos d) k) ≡ spread z (pos d) (suc k)
insert_last z e d zero p h = ap (λ x. int x ∷ []) (omega (arith, ints))
insert_last z e d (suc k) p h =
    let m = suc-mul k d in
    ap (λ o. insert_by o (int e) (int z) (spread (z +ℤ pos d) (pos d) k) (insert_datum (int e) (spread (z +ℤ pos d) (pos d) k)))
    (sym (int_cmp_is e z Greater (omega (arith, ints))))
    ∙ ap (λ l. int z ∷ l) (insert_last (z +ℤ pos d) e d k p (omega (arith, ints)))

-- a falling range as a set is the rising one from its last integer on
pub falling_set : (a by last : ℤ) (d k : ℕ) → 0 < d → by +ℤ pos d ≡ pos 0 → a ≡ last +ℤ pos (k * d) → set_from (spread a by (suc k)) ≡ spread last (pos d) (suc k)
falling_set a by last d zero p b h = ap (λ x. int x ∷ []) (omega (arith, ints))
falling_set a by last d (suc k) p b h =
    let m = suc-mul k d in
    ap (insert_datum (int a)) (falling_set (a +ℤ by) by last d k p b (omega (arith, ints))) ∙ insert_last last a d (suc k) p h

-- ---- what the calls count, where a call's numbers are a's, b's and c's

unit_step : pos 1 ≡ int_wrap w128 (pos 1)
unit_step = sym (int_wrap_fits w128 (pos 1) (omega (arith, ints)))

between_is : (a b : ℤ) → FitsSigned w128 a → FitsSigned w128 b → int_lt b a ≡ false → counted a (pos 1) (suc (unsigned_abs (b -ℤ a))) ≡ range_from a b
between_is a b f g h =
    let l : a ≤ℤ b = grind (arith, ints) in
    let t : int_le a b ≡ true = grind (arith, ints) in
    rising a (pos 1) b (pos 1) (unsigned_abs (b -ℤ a)) f g unit_step (omega (arith, ints)) l (omega (arith, ints))
    ∙ ap (spread a (pos 1)) {x = suc (unsigned_abs (b -ℤ a))} {y = unsigned_abs (b -ℤ a) + 1} (omega arith)
    ∙ sym (ap (λ s. spread a (pos 1) (if s then unsigned_abs (b -ℤ a) + 1 else 0)) t)

pub told_between : (x y a b : ℤ) (n : ℕ) → x ≡ a → y ≡ b → FitsSigned w128 a → FitsSigned w128 b → int_lt y x ≡ false → n ≡ unsigned_abs (y -ℤ x) → counted x (pos 1) (suc n) ≡ range_from a b
told_between x y a b n p q f g h e =
    ap (λ k. counted x (pos 1) (suc k)) e
    ∙ between_is x y (subst (FitsSigned w128) (sym p) f) (subst (FitsSigned w128) (sym q) g) h ∙ (λ i. range_from (p i) (q i))

-- a step isn't 0
moves : (a b : ℤ) → (a ≡ b → ⊥) → unsigned_abs (b -ℤ a) ≡ 0 → ⊥
moves a b n e = n (omega (arith, ints))

by_step : (a by c step : ℤ) → FitsSigned w128 a → FitsSigned w128 c → step ≡ int_wrap w128 by → (unsigned_abs by ≡ 0 → ⊥) → is_past a by c ≡ false → counted a step (suc (unsigned_abs (c -ℤ a) / unsigned_abs by)) ≡ spread a by (suc (unsigned_abs (c -ℤ a) / unsigned_abs by))
by_step a by c step f g s n h =
    let m = mul-div-le (unsigned_abs (c -ℤ a)) (unsigned_abs by) in
    by_lt_z (pos 0) by (λ p. rising a by c step (unsigned_abs (c -ℤ a) / unsigned_abs by) f g s p (up p) m) (λ p. falling a by c step (unsigned_abs (c -ℤ a) / unsigned_abs by) f g s (below p) (down p) m)
  where
    below : by ≤ℤ pos 0 → by <ℤ pos 0
    below p = grind (arith, ints)

    up : pos 0 <ℤ by → a ≤ℤ c
    up p = grind (arith, ints)

    down : by ≤ℤ pos 0 → c ≤ℤ a
    down p = grind (arith, ints)

step_range : (a b c : ℤ) → is_past a (b -ℤ a) c ≡ false → step_from a b c ≡ spread a (b -ℤ a) (suc (unsigned_abs (c -ℤ a) / unsigned_abs (b -ℤ a)))
step_range a b c h =
    ap (λ t. spread a (b -ℤ a) (if t then 0 else unsigned_abs (c -ℤ a) / unsigned_abs (b -ℤ a) + 1)) h
    ∙ ap (spread a (b -ℤ a)) {x = unsigned_abs (c -ℤ a) / unsigned_abs (b -ℤ a) + 1} {y = suc (unsigned_abs (c -ℤ a) / unsigned_abs (b -ℤ a))} (omega arith)

steps_are : (a b c step : ℤ) (m d : ℕ) → FitsSigned w128 a → FitsSigned w128 c → (a ≡ b → ⊥) → step ≡ int_wrap w128 (b -ℤ a) → is_past a (b -ℤ a) c ≡ false → m ≡ unsigned_abs (c -ℤ a) → d ≡ unsigned_abs (b -ℤ a) → counted a step (suc (m / d)) ≡ step_from a b c
steps_are a b c step m d f g n s h e k =
    (λ i. counted a step (suc (e i / k i))) ∙ by_step a (b -ℤ a) c step f g s (moves a b n) h ∙ sym (step_range a b c h)

pub told_steps : (x y z a b c step : ℤ) (m d : ℕ) → x ≡ a → y ≡ b → z ≡ c → FitsSigned w128 a → FitsSigned w128 c → (a ≡ b → ⊥) → step ≡ int_wrap w128 (b -ℤ a) → is_past x (y -ℤ x) z ≡ false → m ≡ unsigned_abs (z -ℤ x) → d ≡ unsigned_abs (y -ℤ x) → counted x step (suc (m / d)) ≡ step_from a b c
told_steps x y z a b c step m d p q r f g n s h e k =
    (λ i. counted (p i) step (suc (m / d)))
    ∙ steps_are a b c step m d f g n s (sym (λ i. is_past (p i) (q i -ℤ p i) (r i)) ∙ h) (e ∙ (λ i. unsigned_abs (r i -ℤ p i))) (k ∙ (λ i. unsigned_abs (q i -ℤ p i)))

-- none is left where c lies on the other side
pub no_steps : (x y z a b c : ℤ) → x ≡ a → y ≡ b → z ≡ c → is_past x (y -ℤ x) z ≡ true → [] ≡ step_from a b c
no_steps x y z a b c p q r h =
    sym (ap (λ t. spread a (b -ℤ a) (if t then 0 else unsigned_abs (c -ℤ a) / unsigned_abs (b -ℤ a) + 1)) (sym (λ i. is_past (p i) (q i -ℤ p i) (r i)) ∙ h))

-- a rising range is a set as it stands
pub rising_steps : (a b c : ℤ) → a <ℤ b → set_from (step_from a b c) ≡ step_from a b c
rising_steps a b c l = rising_set a (b -ℤ a) (step_size a b c) (omega (arith, ints))

-- ---- down to c, the last one first

saturated : (z : ℤ) → FitsSigned w128 z → saturate_signed w128 z ≡ z
saturated (pos n) f = ap pos (omega (arith, ints))
saturated (negsuc n) f = ap negsuc (omega (arith, ints))

fits_between : (a c : ℤ) (m r : ℕ) → FitsSigned w128 a → FitsSigned w128 c → c ≤ℤ a → m ≡ unsigned_abs (a -ℤ c) → r ≤ m → FitsSigned w128 (c +ℤ pos r)
fits_between a c m r f g k e h = omega (arith, ints)

top_is : (a c last : ℤ) (m p r : ℕ) → c ≤ℤ a → m ≡ unsigned_abs (a -ℤ c) → last ≡ c +ℤ pos r → p + r ≡ m → a ≡ last +ℤ pos p
top_is a c last m p r k e i h = omega (arith, ints)

width_is : (a b : ℤ) (d : ℕ) → b <ℤ a → d ≡ unsigned_abs (a -ℤ b) → (a -ℤ b ≡ pos d) × ((b -ℤ a) +ℤ pos d ≡ pos 0) × (0 < d)
width_is a b d l e = (omega (arith, ints), omega (arith, ints), omega (arith, ints))

-- the other way round
back_side : (p q : ℤ) (n : ℕ) → n ≡ unsigned_abs (q -ℤ p) → unsigned_abs (p -ℤ q) ≡ n
back_side p q n e = omega (arith, ints)

not_past : (a b c : ℤ) → b <ℤ a → c ≤ℤ a → is_past a (b -ℤ a) c ≡ false
not_past a b c l k = grind (arith, ints)

back_from : (z a step : ℤ) (d q p : ℕ) → FitsSigned w128 z → FitsSigned w128 a → step ≡ int_wrap w128 (pos d) → 0 < d → d * q ≡ p → a ≡ z +ℤ pos p → counted z step (suc q) ≡ spread z (pos d) (suc q)
back_from z a step d q p f g s l e h =
    let up : z ≤ℤ a = omega (arith, ints, h) in
    let room : d * q ≤ unsigned_abs (a -ℤ z) = omega (arith, ints, e, h) in
    rising z (pos d) a step q f g s (omega (arith, ints)) up room

back_is : (a b c last step : ℤ) (m d : ℕ) → FitsSigned w128 a → FitsSigned w128 c → b <ℤ a → c ≤ℤ a → m ≡ unsigned_abs (a -ℤ c) → d ≡ unsigned_abs (a -ℤ b) → last ≡ saturate_signed w128 (c +ℤ pos (m % d)) → step ≡ int_wrap w128 (a -ℤ b) → counted last step (suc (m / d)) ≡ set_from (step_from a b c)
back_is a b c last step m d f g l k e h s t =
    let w = width_is a b d l h in
    let parts : m / d * d + m % d ≡ m = div-add-mod' m d in
    let fits = fits_between a c m (m % d) f g k e (omega (arith, parts)) in
    let is : last ≡ c +ℤ pos (m % d) = s ∙ saturated (c +ℤ pos (m % d)) fits in
    let top = top_is a c last m (m / d * d) (m % d) k e is parts in
    back_from last a step d (m / d) (m / d * d) (subst (FitsSigned w128) (sym is) fits) f (t ∙ ap (int_wrap w128) w.0) w.2 (mul_comm d (m / d)) top
    ∙ sym (falling_set a (b -ℤ a) last d (m / d) w.2 w.1 top)
    ∙ sym (λ i. set_from (spread a (b -ℤ a) (suc (back_side c a m e i / back_side b a d h i))))
    ∙ ap set_from (sym (step_range a b c (not_past a b c l k)))

pub told_back : (x y z a b c last step : ℤ) (m d : ℕ) → x ≡ a → y ≡ b → z ≡ c → FitsSigned w128 a → FitsSigned w128 c → b <ℤ a → int_lt x z ≡ false → m ≡ unsigned_abs (x -ℤ z) → d ≡ unsigned_abs (x -ℤ y) → last ≡ saturate_signed w128 (z +ℤ pos (m % d)) → step ≡ int_wrap w128 (a -ℤ b) → counted last step (suc (m / d)) ≡ set_from (step_from a b c)
told_back x y z a b c last step m d p q r f g l h e k s t =
    let below : z ≤ℤ x = grind (arith, ints) in
    back_is a b c last step m d f g l (omega (arith, ints, p, r)) (e ∙ (λ i. unsigned_abs (p i -ℤ r i))) (k ∙ (λ i. unsigned_abs (p i -ℤ q i))) (s ∙ (λ i. saturate_signed w128 (r i +ℤ pos (m % d)))) t

pub none_back : (x z a b c : ℤ) → x ≡ a → z ≡ c → b <ℤ a → int_lt x z ≡ true → [] ≡ set_from (step_from a b c)
none_back x z a b c p r l h =
    let past : is_past a (b -ℤ a) c ≡ true = grind (arith, ints) in
    ap set_from (sym (ap (λ t. spread a (b -ℤ a) (if t then 0 else unsigned_abs (c -ℤ a) / unsigned_abs (b -ℤ a) + 1)) past))

-- ---- behind the first

pub following_are : (z step next : ℤ) (n : ℕ) → (n ≡ 0 → ⊥) → next ≡ int_wrap w128 (z +ℤ step) → counted (int_wrap w128 (z +ℤ step)) step n ≡ counted next step (suc (n - 1))
following_are z step next n h e = (λ i. counted (sym e i) step n) ∙ ap (counted next step) {x = n} {y = suc (n - 1)} (omega arith)

-- ---- the items

pub started_steps : (order : List Datum → List Datum) (vs : List (Option Datum)) (a b c : ℤ) (ds : List Datum) → AreBounds a b c vs → ds ≡ order (step_from a b c) → of_values (integers_stepped order) (all_values vs) ≡ Starts (members ds)
started_steps order vs a b c ds are e =
    let moved : (unsigned_abs (b -ℤ a) == 0) ≡ false = tested (unsigned_abs (b -ℤ a)) (moves a b are.differ) in
    ap (λ l. of_values (integers_stepped order) (all_values l)) are.are
    ∙ ap (λ t. if t then Refuses ZeroFault else Starts (members (order (step_from a b c)))) moved ∙ ap (λ l. Starts (members l)) (sym e)
  where
    tested : (n : ℕ) → (n ≡ 0 → ⊥) → (n == 0) ≡ false
    tested n h = grind (arith, nat_tests)
