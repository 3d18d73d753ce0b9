-- Ranges of integers: their members fit 128 bits, and what is made of them with its charge is the operator's outcome.
use Rattle.std.specs.Prelude.{◌≡◌, ◌==◌, ℕ, suc, ◌+◌, ◌/◌, ◌<◌, ◌≤◌, ℤ, pos, ◌-ℤ◌, ◌<ℤ◌, ◌≤ℤ◌, Bool, true, false, List, Result, int_le, unsigned_abs, refl}
use Rattle.std.specs.Bool.{if◌then◌else◌}
use Rattle.std.specs.Int.{int_wrap, w128}
use Rattle.std.specs.Int.RustNames.{FitsSigned}
use Rattle.std.proofs.Common.{ap, sym, ◌∙◌, arith, subst}
use Rattle.std.proofs.Math.Nat.{mul-div-le}
use Rattle.std.proofs.lemmas.Bool.Decides.{nat_tests}
use Rattle.std.proofs.lemmas.Int.{ints, by_lt_z, int_wrap_fits}
use Rattle.setl_value.specs.Datum.{Datum, int}
use Rattle.setl_operators_table.specs.Outcome.{Outcome, Fails, Overspends, ZeroFault, adding, charging}
use Rattle.setl_operators_table.specs.OutcomeLaws.{paid, spent}
use Rattle.setl_operators_table.specs.Ranges.{spread, range_size, range_from, is_past, step_size, step_from}
use Rattle.setl_operators_table.specs.RangeRows.{range_of_integers, stepped_integers}
use Rattle.setl_operators_table.specs.declared.Answer.{Answer}
use Rattle.setl_operators_table.specs.declared.OpFault.{OpFault}
use Rattle.setl_operators_table.specs.code.Answers.{Tells}
use Rattle.setl_operators_enumerations.specs.Integers.{AreWide}
use Rattle.setl_operators_enumerations.proofs.Spreads.{rising, falling}

wide_if : (t : Bool) (a by : ℤ) (n : ℕ) → (t ≡ true → AreWide a by (suc n)) → AreWide a by (if t then n + 1 else 0)
wide_if true a by n h = subst (AreWide a by) {x = suc n} {y = n + 1} (omega arith) (h refl)
wide_if false a by n h = tt

wide_unless : (t : Bool) (a by : ℤ) (n : ℕ) → (t ≡ false → AreWide a by (suc n)) → AreWide a by (if t then 0 else n + 1)
wide_unless true a by n h = tt
wide_unless false a by n h = subst (AreWide a by) {x = suc n} {y = n + 1} (omega arith) (h refl)

by_one : (a b : ℤ) → FitsSigned w128 a → FitsSigned w128 b → int_le a b ≡ true → AreWide a (pos 1) (suc (unsigned_abs (b -ℤ a)))
by_one a b f g h =
    let l : a ≤ℤ b = grind (arith, ints) in
    rising a (pos 1) b (unsigned_abs (b -ℤ a)) f g (omega (arith, ints)) l (omega (arith, ints))

pub range_wide : (a b : ℤ) → FitsSigned w128 a → FitsSigned w128 b → AreWide a (pos 1) (range_size a b)
range_wide a b f g = wide_if (int_le a b) a (pos 1) (unsigned_abs (b -ℤ a)) (by_one a b f g)

past_rising : (a by c : ℤ) → pos 0 <ℤ by → is_past a by c ≡ false → a ≤ℤ c
past_rising a by c p h = grind (arith, ints)

past_falling : (a by c : ℤ) → by ≤ℤ pos 0 → is_past a by c ≡ false → c ≤ℤ a
past_falling a by c p h = grind (arith, ints)

by_step : (a by c : ℤ) → FitsSigned w128 a → FitsSigned w128 c → (unsigned_abs by ≡ 0 → ⊥) → is_past a by c ≡ false → AreWide a by (suc (unsigned_abs (c -ℤ a) / unsigned_abs by))
by_step a by c f g n h =
    let m = mul-div-le (unsigned_abs (c -ℤ a)) (unsigned_abs by) in
    by_lt_z (pos 0) by (λ p. rising a by c (unsigned_abs (c -ℤ a) / unsigned_abs by) f g p (past_rising a by c p h) m) (λ p. falling a by c (unsigned_abs (c -ℤ a) / unsigned_abs by) f g (below a by p n) (past_falling a by c p h) m)
  where
    below : (a by : ℤ) → by ≤ℤ pos 0 → (unsigned_abs by ≡ 0 → ⊥) → by <ℤ pos 0
    below a by p n = grind (arith, ints)

pub step_wide : (a b c : ℤ) → FitsSigned w128 a → FitsSigned w128 c → (a ≡ b → ⊥) → AreWide a (b -ℤ a) (step_size a b c)
step_wide a b c f g n = wide_unless (is_past a (b -ℤ a) c) a (b -ℤ a) (unsigned_abs (c -ℤ a) / unsigned_abs (b -ℤ a)) (by_step a (b -ℤ a) c f g (λ e. n (omega (arith, ints))))

pub unit_step : pos 1 ≡ int_wrap w128 (pos 1)
unit_step = sym (int_wrap_fits w128 (pos 1) (omega (arith, ints)))

-- ---- the operators' rows

pub in_range : (make : List Datum → Outcome) (left : ℕ) (a b : ℤ) (n : ℕ) → n ≡ range_size a b → range_size a b ≤ left → adding n (make (spread a (pos 1) n)) ≡ range_of_integers make left (int a) (int b)
in_range make left a b n e h = ap (λ k. adding k (make (spread a (pos 1) k))) e ∙ sym (paid (range_size a b) left (make (range_from a b)) h)

no_step : (make : List Datum → Outcome) (left : ℕ) (a b c : ℤ) (t : Bool) → (unsigned_abs (b -ℤ a) == 0) ≡ t → stepped_integers make left (int a) (int b) (int c) ≡ (if t then Fails ZeroFault else charging (step_size a b c) left (make (step_from a b c)))
no_step make left a b c t e = ap (λ s. if s then Fails ZeroFault else charging (step_size a b c) left (make (step_from a b c))) e

pub zero_step : (make : List Datum → Outcome) (left : ℕ) (a b c : ℤ) → a ≡ b → stepped_integers make left (int a) (int b) (int c) ≡ Fails ZeroFault
zero_step make left a b c e =
    let z : unsigned_abs (b -ℤ a) ≡ 0 = omega (arith, ints) in no_step make left a b c true (grind (arith, nat_tests))

a_step : (make : List Datum → Outcome) (left : ℕ) (a b c : ℤ) → (a ≡ b → ⊥) → stepped_integers make left (int a) (int b) (int c) ≡ charging (step_size a b c) left (make (step_from a b c))
a_step make left a b c n =
    let z : 0 < unsigned_abs (b -ℤ a) = positive in no_step make left a b c false (grind (arith, nat_tests))
  where
    positive : 0 < unsigned_abs (b -ℤ a)
    positive = grind (arith, ints)

pub spent_steps : (make : List Datum → Outcome) (left : ℕ) (a b c : ℤ) → (a ≡ b → ⊥) → left < step_size a b c → stepped_integers make left (int a) (int b) (int c) ≡ Overspends
spent_steps make left a b c n h = a_step make left a b c n ∙ spent (step_size a b c) left (make (step_from a b c)) h

pub in_steps : (make : List Datum → Outcome) (left : ℕ) (a b c : ℤ) (n : ℕ) → (a ≡ b → ⊥) → n ≡ step_size a b c → step_size a b c ≤ left
    → adding n (make (spread a (b -ℤ a) n)) ≡ stepped_integers make left (int a) (int b) (int c)
in_steps make left a b c n d e h = ap (λ k. adding k (make (spread a (b -ℤ a) k))) e ∙ sym (paid (step_size a b c) left (make (step_from a b c)) h) ∙ sym (a_step make left a b c d)

-- ---- what the calls tell, where a call's numbers are a's, b's and c's

-- what a call tells of n integers from a on
abbrev pub TellsSpread : (List Datum → Outcome) → Result Answer OpFault → ℤ → ℤ → ℕ → Type 0
TellsSpread make r a step n = (by : ℤ) → step ≡ int_wrap w128 by → AreWide a by n → Tells r (adding n (make (spread a by n)))

pub told_range : (make : List Datum → Outcome) (left : ℕ) (x y a b : ℤ) (n : ℕ) (r : Result Answer OpFault) → x ≡ a → y ≡ b → FitsSigned w128 a → FitsSigned w128 b → (n ≡ range_size x y) × (range_size x y ≤ left)
    → TellsSpread make r x (pos 1) n → Tells r (range_of_integers make left (int a) (int b))
told_range make left x y a b n r p q f g k h =
    let e : range_size x y ≡ range_size a b = λ i. range_size (p i) (q i) in
    let size : n ≡ range_size a b = k.0 ∙ e in
    let wide = subst (λ z. AreWide z (pos 1) n) (sym p) (subst (AreWide a (pos 1)) (sym size) (range_wide a b f g)) in
    subst (Tells r) (in_range make left a b n size (subst (λ s. s ≤ left) e k.1)) (subst (λ z. Tells r (adding n (make (spread z (pos 1) n)))) p (h (pos 1) unit_step wide))

pub told_steps : (make : List Datum → Outcome) (left : ℕ) (x y z a b c step : ℤ) (n : ℕ) (r : Result Answer OpFault) → x ≡ a → y ≡ b → z ≡ c → FitsSigned w128 a → FitsSigned w128 c → (a ≡ b → ⊥)
    → step ≡ int_wrap w128 (b -ℤ a) → (n ≡ step_size x y z) × (step_size x y z ≤ left) → TellsSpread make r x step n → Tells r (stepped_integers make left (int a) (int b) (int c))
told_steps make left x y z a b c step n r p q t f g d s k h =
    let e : step_size x y z ≡ step_size a b c = λ i. step_size (p i) (q i) (t i) in
    let size : n ≡ step_size a b c = k.0 ∙ e in
    let wide = subst (λ v. AreWide v (b -ℤ a) n) (sym p) (subst (AreWide a (b -ℤ a)) (sym size) (step_wide a b c f g d)) in
    subst (Tells r) (in_steps make left a b c n d size (subst (λ v. v ≤ left) e k.1)) (subst (λ v. Tells r (adding n (make (spread v (b -ℤ a) n)))) p (h (b -ℤ a) s wide))
