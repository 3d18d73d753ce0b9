-- Slots as entries.
use Rattle.std.proofs.Common.{◌≡◌, ℕ, zero, suc, ◌+◌, ◌<◌, false, ◌==◌, cond, List, [], ◌∷◌, get_or, Option, Some, None, refl, ap, ◌∙◌, arith, eq-eqb}
use Rattle.std.proofs.lemmas.Bool.Decides.{nat_tests}
use Rattle.setl_rep_forms.specs.Form.{Form, slots_from}
use Rattle.setl_rep_tables.specs.Tables.{content_in, IsKeyed, SlotsAreKeyed}

apart : (n k : ℕ) → n < k → (n == k) ≡ false
apart n k h = grind (arith, nat_tests)

-- no slot before the first
before : (cs : List (Option Form)) (k n : ℕ) → n < k → content_in (slots_from k cs) n ≡ None
before [] k n h = refl
before (None ∷ cs) k n h = before cs (k + 1) n (omega (arith, h))
before (Some c ∷ cs) k n h = ap (λ t. cond t (Some c) (content_in (slots_from (k + 1) cs) n)) (apart n k h) ∙ before cs (k + 1) n (omega (arith, h))

keyed_from : (cs : List (Option Form)) (k : ℕ) → IsKeyed (slots_from k cs)
keyed_from [] k = tt
keyed_from (None ∷ cs) k = keyed_from cs (k + 1)
keyed_from (Some c ∷ cs) k = (before cs (k + 1) k (omega arith), keyed_from cs (k + 1))

content_from : (cs : List (Option Form)) (k i : ℕ) → content_in (slots_from k cs) (k + i) ≡ get_or cs i None
content_from [] k i = refl
content_from (None ∷ cs) k zero = before cs (k + 1) (k + zero) (omega arith)
content_from (None ∷ cs) k (suc i) = let e : k + suc i ≡ k + 1 + i = omega arith in ap (content_in (slots_from (k + 1) cs)) e ∙ content_from cs (k + 1) i
content_from (Some c ∷ cs) k zero = let e : k + zero ≡ k = omega arith in ap (λ t. cond t (Some c) (content_in (slots_from (k + 1) cs) (k + zero))) (eq-eqb (k + zero) k e)
content_from (Some c ∷ cs) k (suc i) =
    let e : k + suc i ≡ k + 1 + i = omega arith in
    ap (λ t. cond t (Some c) (content_in (slots_from (k + 1) cs) (k + suc i))) (other k i) ∙ ap (content_in (slots_from (k + 1) cs)) e ∙ content_from cs (k + 1) i
  where
    other : (k i : ℕ) → (k + suc i == k) ≡ false
    other k i = grind (arith, nat_tests)

pub slots_are_keyed : SlotsAreKeyed
slots_are_keyed cs = (keyed_from cs 0, λ n. let e : n ≡ 0 + n = omega arith in ap (content_in (slots_from 0 cs)) e ∙ content_from cs 0 n)
