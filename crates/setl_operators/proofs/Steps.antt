-- One step of a fold.
use Rattle.std.proofs.Common.{◌≡◌, ◌∙◌, ap, sym, subst, refl, ℕ, suc, ◌+◌, ◌-◌, List, ◌∷◌, drop, slice_get, Option, Some, add-one, arith}
use Rattle.std.specs.Prelude.{Err}
use Rattle.std.proofs.Math.Seq.{drop-cons}
use Rattle.std.proofs.lemmas.Option.{slice_get_within, get_or_from_slice_get}
use Rattle.setl_value.specs.Datum.{Datum}
use Rattle.setl_operators_table.specs.declared.OpFault.{OpFault}
use Rattle.setl_operators_table.specs.declared.OpFault.TheVariants.{Kind, Om, Wide, Zero, Range, Deep, Spent, NoMemory}
use Rattle.setl_operators_table.specs.Outcome.{Outcome, Gives, Fails, Overspends, adding, then_with}
use Rattle.setl_operators_table.specs.code.Answers.{Tells}
use Rattle.setl_operators_table.specs.Folds.{combined, fold_on}

pub adding_none : (o : Outcome) → adding 0 o ≡ o
adding_none (Gives v n) = ap (Gives v) {x = 0 + n} {y = n} (omega arith)
adding_none (Fails f) = refl
adding_none Overspends = refl

adding_twice : (m n : ℕ) (o : Outcome) → adding m (adding n o) ≡ adding (m + n) o
adding_twice m n (Gives v k) = ap (Gives v) {x = m + (n + k)} {y = m + n + k} (omega arith)
adding_twice m n (Fails f) = refl
adding_twice m n Overspends = refl

drop_at : (cs : List (Option Datum)) (i : ℕ) (w : Option Datum) → slice_get cs i ≡ Some w → drop i cs ≡ w ∷ drop (i + 1) cs
drop_at cs i w h =
    drop-cons cs i w (slice_get_within cs i w h) ∙ ap (λ x. x ∷ drop (suc i) cs) (get_or_from_slice_get cs i w w h) ∙ ap (λ k. w ∷ drop k cs) (sym (add-one i))

-- what gives a value goes on with what is left
gives_on : (next : Option Datum → ℕ → Outcome) (o : Outcome) (m n turns : ℕ) (new : Option Datum) → adding m o ≡ Gives new n
    → adding m (then_with o (turns - m) next) ≡ adding n (next new (turns - n))
gives_on next (Gives v k) m n turns new h =
    let same : v ≡ new = cc in
    let sum : m + k ≡ n = cc in
    adding_twice m k (next v (turns - m - k)) ∙ ap (λ j. adding j (next v (turns - m - k))) sum
    ∙ ap (λ u. adding n (next u (turns - m - k))) same ∙ ap (λ j. adding n (next new j)) {x = turns - m - k} {y = turns - n} (omega arith)
gives_on next (Fails f) m n turns new h = absurd (cc)
gives_on next Overspends m n turns new h = absurd (cc)

-- what fails ends the whole
fails_whole : (next : Option Datum → ℕ → Outcome) (o : Outcome) (m left : ℕ) (e : OpFault) → Tells (Err e) (adding m o) → Tells (Err e) (adding m (then_with o left next))
fails_whole next (Fails f) m left e h = h
fails_whole next Overspends m left e h = h
fails_whole next (Gives v k) m left Kind h = absurd (cc)
fails_whole next (Gives v k) m left Om h = absurd (cc)
fails_whole next (Gives v k) m left Wide h = absurd (cc)
fails_whole next (Gives v k) m left Zero h = absurd (cc)
fails_whole next (Gives v k) m left Range h = absurd (cc)
fails_whole next (Gives v k) m left Deep h = absurd (cc)
fails_whole next (Gives v k) m left Spent h = absurd (cc)
fails_whole next (Gives v k) m left NoMemory h = tt

module _ (f : ℕ → Datum → Datum → Outcome) (cs : List (Option Datum)) (i : ℕ) (v w : Option Datum) where
  -- from the i-th component to the one behind it
  pub steps : (m n turns : ℕ) (new : Option Datum) → slice_get cs i ≡ Some w → adding m (combined f v w (turns - m)) ≡ Gives new n
      → adding n (fold_on f new (drop (i + 1) cs) (turns - n)) ≡ adding m (fold_on f v (drop i cs) (turns - m))
  steps m n turns new at h =
      sym (ap (λ l. adding m (fold_on f v l (turns - m))) (drop_at cs i w at) ∙ gives_on (λ u later. fold_on f u (drop (i + 1) cs) later) (combined f v w (turns - m)) m n turns new h)

  pub stops : (m turns : ℕ) (e : OpFault) (whole : Outcome) → slice_get cs i ≡ Some w → adding m (fold_on f v (drop i cs) (turns - m)) ≡ whole → Tells (Err e) (adding m (combined f v w (turns - m))) → Tells (Err e) whole
  stops m turns e whole at so_far h =
      subst (Tells (Err e)) (sym (ap (λ l. adding m (fold_on f v l (turns - m))) (drop_at cs i w at)) ∙ so_far)
      (fails_whole (λ u later. fold_on f u (drop (i + 1) cs) later) (combined f v w (turns - m)) m (turns - m) e h)

module _ (f : ℕ → Datum → Datum → Outcome) (v w : Option Datum) (rest : List (Option Datum)) where
  -- from one member to those behind it
  pub goes_on : (m n turns : ℕ) (new : Option Datum) → adding m (combined f v w (turns - m)) ≡ Gives new n → adding n (fold_on f new rest (turns - n)) ≡ adding m (fold_on f v (w ∷ rest) (turns - m))
  goes_on m n turns new h = sym (gives_on (λ u later. fold_on f u rest later) (combined f v w (turns - m)) m n turns new h)

  pub ends : (m turns : ℕ) (e : OpFault) (whole : Outcome) → adding m (fold_on f v (w ∷ rest) (turns - m)) ≡ whole → Tells (Err e) (adding m (combined f v w (turns - m))) → Tells (Err e) whole
  ends m turns e whole so_far h = subst (Tells (Err e)) so_far (fails_whole (λ u later. fold_on f u rest later) (combined f v w (turns - m)) m (turns - m) e h)
