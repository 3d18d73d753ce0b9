use Rattle.std.proofs.Common.{◌≡◌, ◌∙◌, ℕ, zero, suc, ◌+◌, ◌<◌, ◌⊎◌, List, [], ◌∷◌, ◌++◌, drop, length, map, Option, Some, None, ⊎_elim, ap, append_assoc, arith, sym}
use Rattle.std.specs.Borrow.{Bor}
use Rattle.std.specs.Option.{MatchOption}
use Rattle.std.specs.Prelude.{slice_get}
use Rattle.setl_value.specs.Datum.{Datum}
use Rattle.setl_value.specs.code.DatumOf.{datum, lent}
use Rattle.setl_value.specs.declared.Value.{Value}
use Rattle.setl_modes_dump.specs.Dump.{component}
use Rattle.setl_rep_layout.specs.Members.{values_of}
use Rattle.setl_rep_layout.specs.Texts.{after_blanks}
use Rattle.setl_rep_layout.proofs.Words.{next_part}
use Rattle.setl_rep_layout.proofs.values.push_each_component.Goals as goal

from_part : (ps : List (Option Datum)) (i : ℕ) (p : Option Datum) → slice_get ps i ≡ Some p → drop i ps ≡ p ∷ drop (suc i) ps
from_part [] i p h = absurd (cc)
from_part (q ∷ ps) zero p h = let e : q ≡ p = cc in ap (λ x. x ∷ ps) e
from_part (q ∷ ps) (suc i) p h = from_part ps i p h

inside : (ps : List (Option Datum)) (i : ℕ) → i < length ps → slice_get ps i ≡ None → ⊥
inside [] i l h = omega (arith, l)
inside (q ∷ ps) zero l h = cc
inside (q ∷ ps) (suc i) l h = inside ps i (omega (arith, l)) h

lent_part : (ps : List (Option Datum)) (i : ℕ) (r : Option (Bor Value)) → i < length ps
    → MatchOption r ((slice_get ps i ≡ Some None) ⊎ (slice_get ps i ≡ None)) (λ v. slice_get ps i ≡ Some (Some (datum v.now))) → drop i ps ≡ lent r ∷ drop (i + 1) ps
lent_part ps i None l h = let e : suc i ≡ i + 1 = omega arith in ⊎_elim (λ s. from_part ps i None s) (λ n. absurd (inside ps i l n)) h ∙ ap (λ k. None ∷ drop k ps) e
lent_part ps i (Some v) l h = let e : suc i ≡ i + 1 = omega arith in from_part ps i (Some (datum v.now)) h ∙ ap (λ k. Some (datum v.now) ∷ drop k ps) e

pub loop-i-preserved : goal.loop-i-preserved
loop-i-preserved c =
    let text = component (values_of c.args.base.now) in
    let t = c.args.t.now in
    let into = c.loop-i.into.items in
    let i = c.loop-i.i in
    let within : i < length t = omega (arith, c.loop-i-test.true, c.len-i-end.ensures) in
    let next : drop i t ≡ lent c.at.result ∷ drop (i + 1) t = lent_part t i c.at.result within c.at.ensures in
    next_part into _ (32 ∷ text (lent c.at.result)) (after_blanks (map text (drop (i + 1) t))) _
    (c.in_ok-push_component.ensures ∙ ap (λ l. l ++ text (lent c.at.result)) c.in_ok-push.ensures.items ∙ append_assoc into (32 ∷ []) (text (lent c.at.result)))
    (ap (λ l. into ++ after_blanks (map text l)) (sym next) ∙ c.loop-i.invariant)
