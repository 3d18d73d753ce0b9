-- Texts number by number, and by the list of the numbers that have one.
use Rattle.std.proofs.Common.{◌≡◌, ◌∙◌, ℕ, zero, suc, ◌+◌, ◌<◌, ◌≤◌, true, false, cond, ◌||◌, List, [], ◌∷◌, ◌++◌, map, Option, Some, None, nat_eq, ⊎_elim, refl, ap, subst, arith}
use Rattle.std.specs.Prelude.{slice_index}
use Rattle.std.specs.List.{list_any}
use Rattle.std.specs.List.Sorted.{IsStrictlyIncreasing}
use Rattle.std.proofs.Math.Nat.{eq-or-lt_of_le}
use Rattle.std.proofs.lemmas.Bool.{eq-eqb, eqb-true, false≢true, or_cases, or_left, or_right, cases_Bool}

abbrev pub one : Option (List ℕ) → List (List ℕ)
one None = []
one (Some t) = t ∷ []

-- the texts of k numbers, from n on
abbrev pub walk : (ℕ → Option (List ℕ)) → (n k : ℕ) → List (List ℕ)
walk g n zero = []
walk g n (suc k) = one (g n) ++ walk g (suc n) k

-- numbers that rise, from n on and below e
abbrev pub Rise : (n e : ℕ) → List ℕ → Type 0
Rise n e [] = Unit {0}
Rise n e (x ∷ xs) = (n ≤ x) × (x < e) × Rise (suc x) e xs

differ : (m x : ℕ) → m < x → nat_eq m x ≡ false
differ m x h = ⊎_elim (λ t. absurd (omega (arith, h, eqb-true m x t))) (λ f. f) (cases_Bool (nat_eq m x))

not_one : (m x : ℕ) → x < m → nat_eq m x ≡ false
not_one m x h = ⊎_elim (λ t. absurd (omega (arith, h, eqb-true m x t))) (λ f. f) (cases_Bool (nat_eq m x))

not_before : (m n e : ℕ) (xs : List ℕ) → m < n → Rise n e xs → list_any (nat_eq m) xs ≡ false
not_before m n e [] h r = refl
not_before m n e (x ∷ xs) h r =
    ap (λ b. b || list_any (nat_eq m) xs) (differ m x (omega (arith, h, r.0))) ∙ not_before m (suc x) e xs (omega (arith, h, r.0)) r.2

from_later : (n m e : ℕ) (xs : List ℕ) → n ≤ m → Rise m e xs → Rise n e xs
from_later n m e [] h r = tt
from_later n m e (x ∷ xs) h r = (omega (arith, h, r.0), r.1, r.2)

-- the walk has the texts of the numbers that have one
pub walk_list : (g : ℕ → Option (List ℕ)) (t : ℕ → List ℕ) (n k : ℕ) (ns : List ℕ) → Rise n (n + k) ns
    → ((m : ℕ) → n ≤ m → g m ≡ cond (list_any (nat_eq m) ns) (Some (t m)) None) → walk g n k ≡ map t ns
walk_list g t n zero [] r h = refl
walk_list g t n zero (x ∷ xs) r h = absurd (omega (arith, r.0, r.1))
walk_list g t n (suc k) [] r h =
    ap (λ o. one o ++ walk g (suc n) k) (h n (omega arith)) ∙ walk_list g t (suc n) k [] tt (λ m l. h m (omega (arith, l)))
walk_list g t n (suc k) (x ∷ xs) r h =
    let up : n + suc k ≡ suc n + k = omega arith in
    ⊎_elim
    (λ e.
    ap (λ o. one o ++ walk g (suc n) k) (h n (omega arith) ∙ ap (λ b. cond (b || list_any (nat_eq n) xs) (Some (t n)) None) (eq-eqb n x e))
    ∙ ap (λ l. t n ∷ l) (walk_list g t (suc n) k xs (from_later (suc n) (suc x) (suc n + k) xs (omega (arith, e)) (subst (λ f. Rise (suc x) f xs) up r.2)) (λ m l.
    h m (omega (arith, l)) ∙ ap (λ b. cond (b || list_any (nat_eq m) xs) (Some (t m)) None) (not_one m x (omega (arith, l, e)))))
    ∙ ap (λ y. t y ∷ map t xs) e)
    (λ l.
    let q : Rise (suc n) (suc n + k) (x ∷ xs) = (omega (arith, l), subst (λ f. x < f) up r.1, subst (λ f. Rise (suc x) f xs) up r.2) in
    ap (λ o. one o ++ walk g (suc n) k) (h n (omega arith) ∙ ap (λ b. cond b (Some (t n)) None) (not_before n (suc n) (suc n + k) (x ∷ xs) (omega arith) q))
    ∙ walk_list g t (suc n) k (x ∷ xs) q (λ m p. h m (omega (arith, p))))
    (eq-or-lt_of_le r.0)

-- ---- lists that rise strictly

tail_rises : (x : ℕ) (xs : List ℕ) → IsStrictlyIncreasing (x ∷ xs) → IsStrictlyIncreasing xs
tail_rises x xs inc k h =
    let e : suc k + 1 ≡ suc (k + 1) = omega arith in subst (λ n. slice_index (x ∷ xs) (suc k) < slice_index (x ∷ xs) n) e (inc (suc k) (omega (arith, h)))

later_is_greater : (x : ℕ) (xs : List ℕ) → IsStrictlyIncreasing (x ∷ xs) → (m : ℕ) → list_any (nat_eq m) xs ≡ true → x < m
later_is_greater x [] inc m h = absurd (false≢true h)
later_is_greater x (y ∷ ys) inc m h =
    let first : x < y = inc 0 (omega arith) in
    ⊎_elim
    (λ s. omega (arith, first, eqb-true m y s))
    (λ r. omega (arith, first, later_is_greater y ys (tail_rises x (y ∷ ys) inc) m r))
    (or_cases (nat_eq m y) (list_any (nat_eq m) ys) h)

pub rise_within : (n e : ℕ) (xs : List ℕ) → IsStrictlyIncreasing xs → ((m : ℕ) → list_any (nat_eq m) xs ≡ true → (n ≤ m) × (m < e)) → Rise n e xs
rise_within n e [] inc within = tt
rise_within n e (x ∷ xs) inc within =
    let here = within x (or_left (nat_eq x x) (list_any (nat_eq x) xs) (eq-eqb x x refl)) in (
      here.0,
      here.1,
      rise_within (suc x) e xs (tail_rises x xs inc) (λ m h. (later_is_greater x xs inc m h, (within m (or_right (nat_eq m x) (list_any (nat_eq m) xs) h)).1)),
    )
