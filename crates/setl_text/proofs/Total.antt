-- Each input is a denotation, or blanks alone, or has a fault.
use Rattle.std.proofs.Common.{◌≡◌, ℕ, suc, zero, ◌<◌, ◌≤◌, Bool, true, false, cond, eqb, List, [], ◌∷◌, ◌++◌, map, length, refl, sym, subst, ◌∙◌, ◌⊎◌, arith, Some, None, Option, inl, inr, length-append}
use Rattle.std.specs.Prelude.{bytes_eq}
use Rattle.std.specs.List.{AllByRecursion}
use Rattle.std.proofs.lemmas.Bool.{ne_eqb, eqb-true, false≢true, cases_Bool, cases_eq, or_cases}
use Rattle.std.proofs.lemmas.Slice.Eq.{bytes_eq-Decides}
use Rattle.setl_value.specs.Datum.{Datum}
use Rattle.setl_value.specs.WellFormed.{IsWide}
use Rattle.setl_text.specs.Bytes.{is_gap, is_digit, is_letter, is_start, lower, front, behind, number_from, signed, Bracket, Brace, Square, opening, closing}
use Rattle.setl_text.specs.Texts.{doubled}
use Rattle.setl_text.specs.Denoted.{spelling, Admits, NoQuote, NotNewline, EndsLine, Fault, Form, Wide, Deep, natural, negative, word, string, om, Item, single, bracketed, Items, nothing, gap, member, wide_natural, wide_negative, minus_at_end, minus_alone, other_word, open_string, ItemFails, no_single, too_deep, inside, ItemsFail, after_gap, after_member, in_member, om_in_set, not_closed, no_start}
use Rattle.setl_text.specs.Reading.{within}
use Rattle.setl_text.proofs.Tokens.{is_wide, is_within}

-- ---- strings

-- what a string is whose first apostrophe these bytes follow
pub data Quoted : List ℕ → Type 0 where
  closed : (t rest : List ℕ) → AllByRecursion NotNewline t → NoQuote rest → Quoted (doubled t ++ 39 ∷ rest)
  unclosed : (t rest : List ℕ) → AllByRecursion NotNewline t → EndsLine rest → Quoted (doubled t ++ rest)

undoubled : (b : ℕ) (t : List ℕ) → (b ≡ 39 → ⊥) → doubled (b ∷ t) ≡ b ∷ doubled t
undoubled b t other = rw (ne_eqb b 39 other) refl

quoted_more : (b : ℕ) (bs : List ℕ) → (b ≡ 39 → ⊥) → NotNewline b → Quoted bs → Quoted (b ∷ bs)
quoted_more b _ other line (closed t rest lines end) = subst (λ l. Quoted (l ++ 39 ∷ rest)) (undoubled b t other) (closed (b ∷ t) rest (line, lines) end)
quoted_more b _ other line (unclosed t rest lines end) = subst (λ l. Quoted (l ++ rest)) (undoubled b t other) (unclosed (b ∷ t) rest (line, lines) end)

quoted_quote : (bs : List ℕ) → Quoted bs → Quoted (39 ∷ 39 ∷ bs)
quoted_quote _ (closed t rest lines end) = closed (39 ∷ t) rest ((λ e. absurd (omega arith)), lines) end
quoted_quote _ (unclosed t rest lines end) = unclosed (39 ∷ t) rest ((λ e. absurd (omega arith)), lines) end

after_first : (n : ℕ) (bs : List ℕ) → length bs ≤ n → ((cs : List ℕ) → length cs ≤ n → Quoted cs) → Quoted (39 ∷ bs)
after_first n [] h more = closed [] [] tt tt
after_first n (c ∷ cs) h more =
    elim (cases_eq c 39) [
      | inl e ↦ subst (λ x. Quoted (39 ∷ x ∷ cs)) (sym e) (quoted_quote cs (more cs (omega arith)))
      | inr other ↦ closed [] (c ∷ cs) tt other
    ]

pub quoted : (n : ℕ) (bs : List ℕ) → length bs ≤ n → Quoted bs
quoted n [] h = unclosed [] [] tt tt
quoted zero (b ∷ bs) h = absurd (omega arith)
quoted (suc n) (b ∷ bs) h =
    elim (cases_eq b 39) [
      | inl e ↦ subst (λ x. Quoted (x ∷ bs)) (sym e) (after_first n bs (omega arith) (quoted n))
      | inr other ↦ elim (cases_eq b 10) [
        | inl line ↦ unclosed [] (b ∷ bs) tt line
        | inr line ↦ quoted_more b bs other line (quoted n bs (omega arith))
      ]
    ]

-- ---- one token

-- what begins here: something with fewer bytes behind it, or a fault
pub data Begins : ℕ → List ℕ → Type 0 where
  reads : {room : ℕ} {bs : List ℕ} (v : Option Datum) (rest : List ℕ) → Item room bs v rest → length rest < length bs → Begins room bs
  breaks : {room : ℕ} {bs : List ℕ} (f : Fault) → ItemFails room bs f → Begins room bs

shorter_by : (t : Bool) (b : ℕ) (bs rest : List ℕ) → length rest ≤ length bs → length (cond t rest (b ∷ bs)) ≤ suc (length bs)
shorter_by true b bs rest h = omega arith
shorter_by false b bs rest h = omega arith

shorter : (test : ℕ → Bool) (bs : List ℕ) → length (behind test bs) ≤ length bs
shorter test [] = omega arith
shorter test (b ∷ bs) = shorter_by (test b) b bs (behind test bs) (shorter test bs)

doubled_end : (t rest : List ℕ) → length rest < length (39 ∷ doubled t ++ 39 ∷ rest)
doubled_end t rest = omega (arith, length-append (doubled t) (39 ∷ rest))

begins_string : (room : ℕ) (bs : List ℕ) → Quoted bs → Begins room (39 ∷ bs)
begins_string room _ (closed t rest lines end) = reads _ rest (single (string t rest lines end)) (doubled_end t rest)
begins_string room _ (unclosed t rest lines end) = breaks Form (no_single (open_string t rest lines end))

wide_cases : (below : Bool) (n : ℕ) → IsWide (signed below n) ⊎ (IsWide (signed below n) → ⊥)
wide_cases below n = elim (cases_Bool (within below n)) [ inl e ↦ inl (is_wide below n e) | inr e ↦ inr (λ w. false≢true (sym e ∙ is_within below n w)) ]

begins_digit : (room b : ℕ) (bs : List ℕ) → is_digit b ≡ true → Begins room (b ∷ bs)
begins_digit room b bs e =
    elim (wide_cases false (number_from 0 (front is_digit (b ∷ bs)))) [
      | inl wide ↦ reads _ _ (single (natural b bs e wide)) (omega (arith, shorter is_digit bs))
      | inr wide ↦ breaks Wide (no_single (wide_natural b bs e wide))
    ]

begins_minus : (room : ℕ) (bs : List ℕ) → Begins room (45 ∷ bs)
begins_minus room [] = breaks Form (no_single minus_at_end)
begins_minus room (b ∷ bs) =
    elim (cases_Bool (is_digit b)) [
      | inl e ↦ elim (wide_cases true (number_from 0 (front is_digit (b ∷ bs)))) [
        | inl wide ↦ reads _ _ (single (negative b bs e wide)) (omega (arith, shorter is_digit bs))
        | inr wide ↦ breaks Wide (no_single (wide_negative b bs e wide))
      ]
      | inr e ↦ breaks Form (no_single (minus_alone b bs e))
    ]

abbrev letters : ℕ → List ℕ → List ℕ
letters b bs = map lower (front is_letter (b ∷ bs))

neither : (l : List ℕ) → bytes_eq l (spelling true) ≡ false → bytes_eq l (spelling false) ≡ false → (v : Bool) → l ≡ spelling v → ⊥
neither l t f true e = false≢true (sym t ∙ (bytes_eq-Decides l (spelling true)).1 e)
neither l t f false e = false≢true (sym f ∙ (bytes_eq-Decides l (spelling false)).1 e)

begins_letter : (room b : ℕ) (bs : List ℕ) → is_letter b ≡ true → Begins room (b ∷ bs)
begins_letter room b bs e =
    elim (cases_Bool (bytes_eq (letters b bs) (spelling true))) [
      | inl t ↦ reads _ _ (single (word true b bs e ((bytes_eq-Decides (letters b bs) (spelling true)).0 t))) (omega (arith, shorter is_letter bs))
      | inr t ↦ elim (cases_Bool (bytes_eq (letters b bs) (spelling false))) [
        | inl f ↦ reads _ _ (single (word false b bs e ((bytes_eq-Decides (letters b bs) (spelling false)).0 f))) (omega (arith, shorter is_letter bs))
        | inr f ↦ breaks Form (no_single (other_word b bs e (neither (letters b bs) t f)))
      ]
    ]

-- ---- sets and tuples

-- what stands up to the closing bracket, with fewer bytes behind it, or a fault
data Closes : Bracket → ℕ → List ℕ → Type 0 where
  closes : {k : Bracket} {room : ℕ} {bs : List ℕ} (vs : List (Option Datum)) (rest : List ℕ) → Items k room bs vs (closing k ∷ rest) → length rest < length bs → Closes k room bs
  comes_to : {k : Bracket} {room : ℕ} {bs : List ℕ} (f : Fault) → ItemsFail k room bs f → Closes k room bs

closes_gap : (k : Bracket) (room b : ℕ) (bs : List ℕ) → is_gap b ≡ true → Closes k room bs → Closes k room (b ∷ bs)
closes_gap k room b bs e (closes vs rest inner h) = closes vs rest (gap b e inner) (omega arith)
closes_gap k room b bs e (comes_to f inner) = comes_to f (after_gap b e inner)

om_item : {room : ℕ} {bs rest : List ℕ} → Item room bs None rest → bs ≡ 42 ∷ rest
om_item (single (om rest)) = refl

admits_cases : (k : Bracket) (v : Option Datum) → Admits k v ⊎ ((k ≡ Brace) × (v ≡ None))
admits_cases Brace None = inr (refl, refl)
admits_cases Square None = inl tt
admits_cases Brace (Some d) = inl tt
admits_cases Square (Some d) = inl tt

closes_om : (k : Bracket) (room : ℕ) (bs : List ℕ) (v : Option Datum) (rest : List ℕ) → Item room bs v rest → k ≡ Brace → v ≡ None → Closes k room bs
closes_om k room bs v rest one brace none =
    let is : bs ≡ 42 ∷ rest = om_item (subst (λ w. Item room bs w rest) none one) in
    subst (λ l. Closes k room l) (sym is) (subst (λ j. Closes j room (42 ∷ rest)) (sym brace) (comes_to Form (om_in_set rest)))

behind_member : (k : Bracket) (room : ℕ) (bs mid : List ℕ) (v : Option Datum) → Item room bs v mid → length mid < length bs → Admits k v → Closes k room mid → Closes k room bs
behind_member k room bs mid v one h admits (closes vs rest inner g) = closes (v ∷ vs) rest (member one admits inner) (omega arith)
behind_member k room bs mid v one h admits (comes_to f inner) = comes_to f (after_member one admits inner)

closes_member : (k : Bracket) (room : ℕ) (bs : List ℕ) → Begins room bs → ((mid : List ℕ) → length mid < length bs → Closes k room mid) → Closes k room bs
closes_member k room bs (breaks f one) more = comes_to f (in_member one)
closes_member k room bs (reads v mid one h) more =
    elim (admits_cases k v) [
      | inr both ↦ closes_om k room bs v mid one both.0 both.1
      | inl admits ↦ behind_member k room bs mid v one h admits (more mid h)
    ]

closes_other : (k : Bracket) (room b : ℕ) (bs : List ℕ) → is_start b ≡ false → is_gap b ≡ false → Closes k room (b ∷ bs)
closes_other k room b bs none e =
    elim (cases_eq b (closing k)) [
      | inl is ↦ subst (λ x. Closes k room (x ∷ bs)) (sym is) (closes [] bs nothing (omega arith))
      | inr other ↦ comes_to Form (no_start b bs none e other)
    ]

begins_bracket : (k : Bracket) (room : ℕ) (bs : List ℕ) → ((room : ℕ) → Closes k room bs) → Begins room (opening k ∷ bs)
begins_bracket k zero bs more = breaks Deep (too_deep k bs)
begins_bracket k (suc room) bs more = by (more room)
  where
    by : Closes k room bs → Begins (suc room) (opening k ∷ bs)
    by (closes vs rest inner h) = reads _ rest (bracketed k inner) (omega arith)
    by (comes_to f inner) = breaks f (inside k inner)

begins_sign : (room b : ℕ) (bs : List ℕ) → is_start b ≡ true → ((k : Bracket) (room : ℕ) → Closes k room bs) → Begins room (b ∷ bs)
begins_sign room b bs e more =
    elim (or_cases _ (eqb b 91) e) [
      | inr square ↦ subst (λ x. Begins room (x ∷ bs)) (sym (eqb-true b 91 square)) (begins_bracket Square room bs (more Square))
      | inl e ↦ elim (or_cases _ (eqb b 123) e) [
        | inr brace ↦ subst (λ x. Begins room (x ∷ bs)) (sym (eqb-true b 123 brace)) (begins_bracket Brace room bs (more Brace))
        | inl e ↦ elim (or_cases _ (eqb b 42) e) [
          | inr star ↦ subst (λ x. Begins room (x ∷ bs)) (sym (eqb-true b 42 star)) (reads None bs (single (om bs)) (omega arith))
          | inl e ↦ elim (or_cases _ (eqb b 39) e) [
            | inr quote ↦ subst (λ x. Begins room (x ∷ bs)) (sym (eqb-true b 39 quote)) (begins_string room bs (quoted (length bs) bs (omega arith)))
            | inl e ↦ elim (or_cases _ (eqb b 45) e) [
              | inr minus ↦ subst (λ x. Begins room (x ∷ bs)) (sym (eqb-true b 45 minus)) (begins_minus room bs)
              | inl e ↦ elim (or_cases (is_digit b) (is_letter b) e) [
                | inl digit ↦ begins_digit room b bs digit
                | inr letter ↦ begins_letter room b bs letter
              ]
            ]
          ]
        ]
      ]
    ]

items_total : (n : ℕ) (k : Bracket) (room : ℕ) (bs : List ℕ) → length bs ≤ n → Closes k room bs
items_total n k room [] h = comes_to Form not_closed
items_total zero k room (b ∷ bs) h = absurd (omega arith)
items_total (suc n) k room (b ∷ bs) h =
    elim (cases_Bool (is_gap b)) [
      | inl e ↦ closes_gap k room b bs e (items_total n k room bs (omega arith))
      | inr e ↦ elim (cases_Bool (is_start b)) [
        | inl start ↦ closes_member k room (b ∷ bs) (begins_sign room b bs start (λ j r. items_total n j r bs (omega arith))) (λ mid g. items_total n k room mid (omega arith))
        | inr none ↦ closes_other k room b bs none e
      ]
    ]

pub item_total : (room b : ℕ) (bs : List ℕ) → is_start b ≡ true → Begins room (b ∷ bs)
item_total room b bs e = begins_sign room b bs e (λ k r. items_total (length bs) k r bs (omega arith))
