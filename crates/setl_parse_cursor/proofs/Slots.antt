-- What the tokens behind an opening bracket show, slot by slot.
use Rattle.std.proofs.Common.{◌≡◌, ℕ, ◌+◌, ◌<◌, ◌≤◌, Bool, true, false, cond, [], ◌∷◌, length, drop, refl, ap, ◌∙◌, arith, length-drop}
use Rattle.std.proofs.lemmas.List.{drop-drop}
use Rattle.setl_tree.specs.Tokens.{Tokens}
use Rattle.setl_tree.specs.declared.kind.Kind.{Kind}
use Rattle.setl_tree.specs.declared.kind.Kind.TheVariants as k
use Rattle.setl_parse_reading.specs.declared.ahead.Ahead.{Ahead}
use Rattle.setl_parse_reading.specs.declared.ahead.Ahead.TheVariants.{Expression, Pattern}
use Rattle.setl_parse_reading.specs.code.Reading.{next_kind, same_kind, rest_of}
use Rattle.setl_parse_reading.specs.code.Scan.{slots_ahead, after_name, ends_slot}

pub rest_is_drop : (toks : Tokens) → rest_of toks ≡ drop 1 toks
rest_is_drop [] = refl
rest_is_drop (t ∷ toks) = refl

abbrev pub kind_at : Tokens → ℕ → Kind
kind_at toks n = next_kind (drop n toks)

abbrev pub cond_ahead : Bool → Ahead
cond_ahead b = cond b Pattern Expression

-- a skipped component
skip_here : (toks : Tokens) → 1 < length toks → same_kind (next_kind toks) k.Minus ≡ true → slots_ahead toks ≡ cond_ahead (ends_slot (kind_at toks 1))
unfolding slots_ahead
skip_here [] some e = absurd (omega (arith, some))
skip_here (t ∷ []) some e = absurd (omega (arith, some))
skip_here (t ∷ u ∷ toks) some e = rw e refl

other_here : (toks : Tokens) → 1 < length toks → same_kind (next_kind toks) k.Minus ≡ false → same_kind (next_kind toks) k.Name ≡ false → slots_ahead toks ≡ Expression
unfolding slots_ahead
other_here [] some e f = absurd (omega (arith, some))
other_here (t ∷ []) some e f = absurd (omega (arith, some))
other_here (t ∷ u ∷ toks) some e f = rw (e, f) refl

name_here : (toks : Tokens) → 1 < length toks → same_kind (next_kind toks) k.Minus ≡ false → same_kind (next_kind toks) k.Name ≡ true
    → slots_ahead toks ≡ after_name (kind_at toks 1) (slots_ahead (drop 2 toks)) (kind_at toks 2)
unfolding slots_ahead
name_here [] some e f = absurd (omega (arith, some))
name_here (t ∷ []) some e f = absurd (omega (arith, some))
name_here (t ∷ u ∷ toks) some e f = rw (e, f) refl

few_here : (toks : Tokens) → length toks ≤ 1 → slots_ahead toks ≡ Expression
unfolding slots_ahead
few_here [] few = refl
few_here (t ∷ []) few = refl
few_here (t ∷ u ∷ toks) few = absurd (omega (arith, few))

further : (at n : ℕ) (toks : Tokens) → kind_at (drop at toks) n ≡ kind_at toks (at + n)
further at n toks = ap next_kind (drop-drop n at toks)

more_left : (at : ℕ) (toks : Tokens) → at + 1 < length toks → 1 < length (drop at toks)
more_left at toks below = omega (arith, length-drop at toks)

pub skip_at : (at : ℕ) (toks : Tokens) → at + 1 < length toks → same_kind (kind_at toks at) k.Minus ≡ true → slots_ahead (drop at toks) ≡ cond_ahead (ends_slot (kind_at toks (at + 1)))
skip_at at toks below e = skip_here (drop at toks) (more_left at toks below) e ∙ ap (λ (kind : Kind). cond_ahead (ends_slot kind)) (further at 1 toks)

pub other_at : (at : ℕ) (toks : Tokens) → at + 1 < length toks → same_kind (kind_at toks at) k.Minus ≡ false → same_kind (kind_at toks at) k.Name ≡ false → slots_ahead (drop at toks) ≡ Expression
other_at at toks below e f = other_here (drop at toks) (more_left at toks below) e f

pub name_at : (at : ℕ) (toks : Tokens) → at + 1 < length toks → same_kind (kind_at toks at) k.Minus ≡ false → same_kind (kind_at toks at) k.Name ≡ true
    → slots_ahead (drop at toks) ≡ after_name (kind_at toks (at + 1)) (slots_ahead (drop (at + 2) toks)) (kind_at toks (at + 2))
name_at at toks below e f =
    name_here (drop at toks) (more_left at toks below) e f
    ∙ ap (λ (kind : Kind). after_name kind (slots_ahead (drop 2 (drop at toks))) (kind_at (drop at toks) 2)) (further at 1 toks)
    ∙ ap (λ (more : Ahead). after_name (kind_at toks (at + 1)) more (kind_at (drop at toks) 2)) (ap slots_ahead (drop-drop 2 at toks))
    ∙ ap (λ (next : Kind). after_name (kind_at toks (at + 1)) (slots_ahead (drop (at + 2) toks)) next) (further at 2 toks)

pub few_at : (at : ℕ) (toks : Tokens) → length toks ≤ at + 1 → slots_ahead (drop at toks) ≡ Expression
few_at at toks few = few_here (drop at toks) (omega (arith, length-drop at toks))
