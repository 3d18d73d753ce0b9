-- Integers that are one step apart, and what the loop over them keeps.
use Rattle.std.specs.Prelude.{◌≡◌, ℕ, zero, suc, ◌+◌, ◌-◌, ◌*◌, ◌<◌, ◌≤◌, ℤ, pos, ◌+ℤ◌, ◌-ℤ◌, ◌<ℤ◌, ◌≤ℤ◌, List, [], ◌∷◌, ◌++◌, unsigned_abs, refl}
use Rattle.std.specs.Int.{int_wrap, w128}
use Rattle.std.specs.Int.RustNames.{FitsSigned}
use Rattle.std.proofs.Common.{ap, sym, ◌∙◌, arith, subst}
use Rattle.std.proofs.Math.Nat.{mul-suc}
use Rattle.std.proofs.lemmas.Int.{ints, int_wrap_fits, int_wrap-add_right}
use Rattle.setl_value.specs.Datum.{Datum, int, elements_depth, elements_of}
use Rattle.setl_operators_table.specs.Ranges.{spread}
use Rattle.setl_operators_enumerations.specs.Integers.{AreWide}

-- the next integer, if one is to come
next_of : (z by step next : ℤ) → step ≡ int_wrap w128 by → next ≡ int_wrap w128 (z +ℤ step) → FitsSigned w128 (z +ℤ by) → next ≡ z +ℤ by
next_of z by step next s e f = e ∙ ap (λ t. int_wrap w128 (z +ℤ t)) s ∙ int_wrap-add_right w128 z by ∙ int_wrap_fits w128 (z +ℤ by) f

stepped : (z by step next : ℤ) (k : ℕ) → step ≡ int_wrap w128 by → next ≡ int_wrap w128 (z +ℤ step) → AreWide (z +ℤ by) by k → (spread (z +ℤ by) by k ≡ spread next by k) × AreWide next by k
stepped z by step next zero s e w = (refl, tt)
stepped z by step next (suc k) s e w =
    let n = next_of z by step next s e w.0 in
    (ap (λ t. spread t by (suc k)) (sym n), subst (λ t. AreWide t by (suc k)) (sym n) w)

-- what is there and what is to come is the whole
abbrev pub IsOnWay : ℤ → ℤ → ℕ → List Datum → ℤ → ℕ → Type 0
IsOnWay a step n ds z k = (by : ℤ) → step ≡ int_wrap w128 by → AreWide a by n → (ds ++ spread z by k ≡ spread a by n) × AreWide z by k

append_one : (ds : List Datum) (d : Datum) (es : List Datum) → (ds ++ d ∷ []) ++ es ≡ ds ++ d ∷ es
append_one [] d es = refl
append_one (e ∷ ds) d es = ap (λ l. e ∷ l) (append_one ds d es)

on_way_suc : (a step : ℤ) (n : ℕ) (ds : List Datum) (z next : ℤ) (k : ℕ) → next ≡ int_wrap w128 (z +ℤ step) → IsOnWay a step n ds z (suc k) → IsOnWay a step n (ds ++ int z ∷ []) next k
on_way_suc a step n ds z next k e h by s w =
    let r = h by s w in
    let t = stepped z by step next k s e r.1.1 in
    (append_one ds (int z) (spread next by k) ∙ ap (λ l. ds ++ int z ∷ l) (sym t.0) ∙ r.0, t.1)

pub on_way_more : (a step : ℤ) (n : ℕ) (ds : List Datum) (z next : ℤ) (i : ℕ) → i < n → next ≡ int_wrap w128 (z +ℤ step) → IsOnWay a step n ds z (n - i) → IsOnWay a step n (ds ++ int z ∷ []) next (n - (i + 1))
on_way_more a step n ds z next i l e h = on_way_suc a step n ds z next (n - (i + 1)) e (subst (IsOnWay a step n ds z) {x = n - i} {y = suc (n - (i + 1))} (omega arith) h)

append_none : (ds : List Datum) → ds ++ [] ≡ ds
append_none [] = refl
append_none (d ∷ ds) = ap (λ l. d ∷ l) (append_none ds)

on_way_end : (a step : ℤ) (n : ℕ) (ds : List Datum) (z : ℤ) → IsOnWay a step n ds z 0 → (by : ℤ) → step ≡ int_wrap w128 by → AreWide a by n → ds ≡ spread a by n
on_way_end a step n ds z h by s w = sym (append_none ds) ∙ (h by s w).0

pub on_way_whole : (a step : ℤ) (n : ℕ) (ds : List Datum) (z : ℤ) (i : ℕ) → n ≤ i → IsOnWay a step n ds z (n - i) → (by : ℤ) → step ≡ int_wrap w128 by → AreWide a by n → ds ≡ spread a by n
on_way_whole a step n ds z i l h = on_way_end a step n ds z (subst (IsOnWay a step n ds z) {x = n - i} {y = 0} (omega arith) h)

-- ---- ranges lie between their ends

pub rising : (a by c : ℤ) (n : ℕ) → FitsSigned w128 a → FitsSigned w128 c → pos 0 <ℤ by → a ≤ℤ c → unsigned_abs by * n ≤ unsigned_abs (c -ℤ a) → AreWide a by (suc n)
rising a by c zero fa fc p l h = (fa, tt)
rising a by c (suc n) fa fc p l h =
    let m = mul-suc (unsigned_abs by) n in
    (fa, rising (a +ℤ by) by c n (omega (arith, ints)) fc p (omega (arith, ints)) (omega (arith, ints)))

pub falling : (a by c : ℤ) (n : ℕ) → FitsSigned w128 a → FitsSigned w128 c → by <ℤ pos 0 → c ≤ℤ a → unsigned_abs by * n ≤ unsigned_abs (c -ℤ a) → AreWide a by (suc n)
falling a by c zero fa fc p l h = (fa, tt)
falling a by c (suc n) fa fc p l h =
    let m = mul-suc (unsigned_abs by) n in
    (fa, falling (a +ℤ by) by c n (omega (arith, ints)) fc p (omega (arith, ints)) (omega (arith, ints)))

-- a list of integers has no depth
pub shallow_more : (ds : List Datum) (z : ℤ) → elements_depth (elements_of ds) ≡ 0 → elements_depth (elements_of (ds ++ int z ∷ [])) ≡ 0
shallow_more [] z h = refl
shallow_more (d ∷ ds) z h = omega (arith, h, shallow_more ds z (omega (arith, h)))
