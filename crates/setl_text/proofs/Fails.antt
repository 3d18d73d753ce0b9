-- A fault is computed as what it is.
use Rattle.std.proofs.Common.{◌≡◌, ℕ, suc, ◌+◌, ◌-◌, ◌<◌, Bool, true, false, cond, ◌||◌, eqb, List, [], ◌∷◌, ◌++◌, map, length, refl, sym, ap, ◌∙◌, arith, Option, inl, inr}
use Rattle.std.specs.Prelude.{codes}
use Rattle.std.specs.List.{AllByRecursion}
use Rattle.std.proofs.lemmas.Bool.{ne_eqb, eqb-true, true≢false, cases_Bool}
use Rattle.setl_value.specs.Datum.{Datum}
use Rattle.setl_value.specs.WellFormed.{IsWide}
use Rattle.setl_text.specs.Bytes.{IsLow, is_digit, is_letter, is_start, lower, front, number_from, signed, Bracket, Brace, Square, opening, closing}
use Rattle.setl_text.specs.Denoted.{spelling, Fault, Form, SingleFails, wide_natural, wide_negative, minus_at_end, minus_alone, other_word, open_string, ItemFails, no_single, too_deep, inside, ItemsFail, after_gap, after_member, in_member, om_in_set, not_closed, no_start, ReadFails, after_blank, in_item, no_item}
use Rattle.setl_text.specs.Reading.{NotForm, TooWide, failing, Between, AfterMinus, InNumber, Open, opened, Step, Goes, Fails, gap_at, begin, first_letter, close_bracket, after_minus, within, proceed, resume, read_denotation}
use Rattle.setl_text.proofs.Classes.{begin_digit, begin_letter}
use Rattle.setl_text.proofs.Tokens.{after, wide_runs, not_within, digit_within, spelled, word_fails, string_fails}
use Rattle.setl_text.proofs.Runs.{by_step, begin_minus, begin_quote, begin_bracket, begin_deep, item_runs, put_is}

or_none : (x y : Bool) → (x || y) ≡ false → (x ≡ false) × (y ≡ false)
or_none true y e = absurd (true≢false e)
or_none false y e = (refl, e)

natural_fails : (b : ℕ) (bs : List ℕ) (os : List Open) → is_digit b ≡ true → (IsWide (signed false (number_from 0 (front is_digit (b ∷ bs)))) → ⊥) → resume (b ∷ bs) Between os ≡ TooWide
natural_fails b bs os e wide =
    by_step b bs _ _ _ (begin_digit os b e) (wide_runs false (b - 48) bs os (digit_within false b e) (ap (within false) (sym (spelled b bs e)) ∙ not_within false _ wide))

negative_fails : (b : ℕ) (bs : List ℕ) (os : List Open) → is_digit b ≡ true → (IsWide (signed true (number_from 0 (front is_digit (b ∷ bs)))) → ⊥) → resume (b ∷ bs) AfterMinus os ≡ TooWide
negative_fails b bs os e wide =
    let goes : after_minus os b ≡ Goes (InNumber true (b - 48)) os = rw e refl in
    by_step b bs _ _ _ goes (wide_runs true (b - 48) bs os (digit_within true b e) (ap (within true) (sym (spelled b bs e)) ∙ not_within true _ wide))

pub low_rue : AllByRecursion IsLow (codes "rue")
low_rue = ((omega arith, omega arith), ((omega arith, omega arith), ((omega arith, omega arith), tt)))

pub low_alse : AllByRecursion IsLow (codes "alse")
low_alse = ((omega arith, omega arith), ((omega arith, omega arith), ((omega arith, omega arith), ((omega arith, omega arith), tt))))

letters_fail : (b : ℕ) (bs : List ℕ) (os : List Open) → ((v : Bool) → lower b ∷ map lower (front is_letter bs) ≡ spelling v → ⊥) → proceed (first_letter b os) b bs (resume bs) ≡ NotForm
letters_fail b bs os never =
    elim (cases_Bool (eqb (lower b) 116)) [
      | inl t ↦ rw t (word_fails true (codes "rue") bs os low_rue (λ is. never true (ap (λ c. c ∷ map lower (front is_letter bs)) (eqb-true (lower b) 116 t) ∙ ap (λ l. 116 ∷ l) is)))
      | inr other ↦ elim (cases_Bool (eqb (lower b) 102)) [
        | inl f ↦ rw (other, f) (word_fails false (codes "alse") bs os low_alse (λ is. never false (ap (λ c. c ∷ map lower (front is_letter bs)) (eqb-true (lower b) 102 f) ∙ ap (λ l. 102 ∷ l) is)))
        | inr none ↦ rw (other, none) refl
      ]
    ]

pub single_fails : {bs : List ℕ} {f : Fault} → SingleFails bs f → (os : List Open) → resume bs Between os ≡ failing f
single_fails (wide_natural b bs e wide) os = natural_fails b bs os e wide
single_fails (wide_negative b bs e wide) os = by_step 45 (b ∷ bs) _ _ _ (begin_minus os) (negative_fails b bs os e wide)
single_fails minus_at_end os = by_step 45 [] _ _ _ (begin_minus os) refl
single_fails (minus_alone b bs e) os = by_step 45 (b ∷ bs) _ _ _ (begin_minus os) (rw e refl)
single_fails (other_word b bs e never) os = by_step b bs _ _ _ (begin_letter os b e) (letters_fail b bs os (λ v is. never v (rw e is)))
single_fails (open_string t rest lines end) os = by_step 39 _ _ _ _ (begin_quote os) (string_fails t rest os lines end)

-- a closing bracket of the other kind
other_closing : (k : Bracket) (got : List (Option Datum)) (os : List Open) (b : ℕ) → (b ≡ closing k → ⊥)
    → cond (eqb b 125) (close_bracket Brace (opened k got ∷ os)) (cond (eqb b 93) (close_bracket Square (opened k got ∷ os)) (Fails Form)) ≡ Fails Form
other_closing Brace got os b never = rw (ne_eqb b 125 never) (cond_same (eqb b 93))
  where
    cond_same : (t : Bool) → cond t (Fails Form) (Fails Form) ≡ Fails Form
    cond_same true = refl
    cond_same false = refl
other_closing Square got os b never = rw (ne_eqb b 93 never) (cond_same (eqb b 125))
  where
    cond_same : (t : Bool) → cond t (Fails Form) (Fails Form) ≡ Fails Form
    cond_same true = refl
    cond_same false = refl

no_closing : (b : ℕ) → cond (eqb b 125) (close_bracket Brace []) (cond (eqb b 93) (close_bracket Square []) (Fails Form)) ≡ Fails Form
no_closing b = two (eqb b 125) (eqb b 93)
  where
    two : (s t : Bool) → cond s (Fails Form) (cond t (Fails Form) (Fails Form)) ≡ Fails Form
    two true t = refl
    two false true = refl
    two false false = refl

-- a byte that begins nothing is a fault, or a closing bracket
abbrev closes : List Open → ℕ → Step
closes os b = cond (eqb b 125) (close_bracket Brace os) (cond (eqb b 93) (close_bracket Square os) (Fails Form))

pub begin_none : (os : List Open) (b : ℕ) → is_start b ≡ false → gap_at os b ≡ false → begin os b ≡ closes os b
begin_none os b none gap =
    let square = or_none _ (eqb b 91) none in
    let brace = or_none _ (eqb b 123) square.0 in
    let star = or_none _ (eqb b 42) brace.0 in
    let quote = or_none _ (eqb b 39) star.0 in
    let minus = or_none _ (eqb b 45) quote.0 in
    let first = or_none (is_digit b) (is_letter b) minus.0 in
    rw (gap, first.0, first.1, brace.1, square.1, star.1, quote.1, minus.1) refl

mutual
  pub item_fails : {room : ℕ} {bs : List ℕ} {f : Fault} → ItemFails room bs f → (os : List Open) → length os + room ≡ 500 → resume bs Between os ≡ failing f
  item_fails (no_single s) os h = single_fails s os
  item_fails (too_deep k bs) os h = by_step (opening k) bs _ _ _ (begin_deep k os (omega arith)) refl
  item_fails (inside {bs = bs} k inner) os h =
      let few : length os < 500 = omega arith in
      by_step (opening k) bs _ _ _ (begin_bracket k os few) (items_fail inner [] os (omega arith))

  pub items_fail : {k : Bracket} {room : ℕ} {bs : List ℕ} {f : Fault} → ItemsFail k room bs f → (got : List (Option Datum)) (os : List Open) → suc (length os) + room ≡ 500 → resume bs Between (opened k got ∷ os) ≡ failing f
  items_fail (after_gap b e more) got os h = rw e (items_fail more got os h)
  items_fail {k} (after_member {mid = mid} {v = v} one admits more) got os h =
      item_runs one (opened k got ∷ os) h ∙ ap (λ p. after p mid) (put_is k v got os admits) ∙ items_fail more (got ++ v ∷ []) os h
  items_fail {k} (in_member one) got os h = item_fails one (opened k got ∷ os) h
  items_fail (om_in_set bs) got os h = refl
  items_fail not_closed got os h = refl
  items_fail {k} (no_start b bs none gap never) got os h =
      by_step b bs _ _ _ (begin_none (opened k got ∷ os) b none gap ∙ other_closing k got os b never) refl

pub read_fails : {bs : List ℕ} {f : Fault} → ReadFails bs f → read_denotation bs ≡ failing f
read_fails (after_blank b e more) = rw e (read_fails more)
read_fails (in_item one) = item_fails one [] refl
read_fails (no_item b bs none blank) = by_step b bs _ _ _ (begin_none [] b none blank ∙ no_closing b) refl
