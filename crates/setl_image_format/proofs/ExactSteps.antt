-- The codec of steps is exact.
use Rattle.std.proofs.Common.{◌≡◌, ℕ, zero, suc, ◌+◌, ◌-◌, ◌*◌, ◌/◌, ◌%◌, pos, List, [], ◌∷◌, ◌++◌, map, slice_get, Option, Some, None, refl, sym, ap, ◌∙◌, subst, inl, inr, arith}
use Rattle.std.specs.Bool.{⊤}
use Rattle.std.specs.Prelude.{nat_lt}
use Rattle.std.proofs.lemmas.Option.{slice_get-map, same_Some, none-some, cond_some}
use Rattle.std.proofs.lemmas.Bool.{cases_lt, cases_eq, lt-ltb, le-ltb, ltb-true, eq-eqb, ne_eqb}
use Rattle.setl_operators_table.specs.declared.Operator.{Operator}
use Rattle.setl_program.specs.Updating.{is_updating}
use Rattle.setl_code.specs.MayRun.{HasSlot}
use Rattle.setl_code.specs.declared.code.Slot.{Slot}
use Rattle.setl_code.specs.declared.code.Slot.TheVariants as slot
use Rattle.setl_code.specs.declared.code.Bracket.{Bracket}
use Rattle.setl_code.specs.declared.code.Bracket.TheVariants as bracket
use Rattle.setl_code.specs.declared.code.Alteration.TheVariants as alteration
use Rattle.setl_code.specs.declared.code.Instr.{Instr}
use Rattle.setl_code.specs.declared.code.Instr.TheVariants as i
use Rattle.setl_code.specs.declared.code.Step.{Step}
use Rattle.setl_image_codec.specs.Codec.{IsExact, IsForm, pair}
use Rattle.setl_image_codec.specs.Numbers.{number, integer, listed}
use Rattle.setl_image_codec.specs.Texts.{text}
use Rattle.setl_image_format.proofs.Combined.{as_some, always_exact, never_exact, followed_exact, through_exact, checked_exact, tagged_exact}
use Rattle.setl_image_format.proofs.Exact.{the_number, numbers_are_exact, texts_are_exact, listed_exact}
use Rattle.setl_image_format.specs.declared.rows.Row.{Row}
use Rattle.setl_image_format.specs.declared.rows.Row.TheVariants as r
use Rattle.setl_image_format.specs.Table.{Form, form, Alone, Counted, OnSlot, Whole, Written, Updating, Combining, operators, operator_tag, rows, row_at, tag, number_in, slot_in, brackets_in, integer_in, text_in, operator_in}
use Rattle.setl_image_format.specs.Steps.{placed, bracket_place, a_bracket, an_operator, slot_number, slot_of, a_slot, a_place, operands, behind, instr, step}

-- ---- one byte

-- each stands at its place, from this one on
abbrev pub Places : {A : Type 0} → (A → ℕ) → ℕ → List A → Type 0
Places place n [] = ⊤
Places place n (x ∷ xs) = (n ≡ place x) × Places place (suc n) xs

place_found : {A : Type 0} (place : A → ℕ) (n : ℕ) (xs : List A) (k : ℕ) (x : A) → Places place n xs → slice_get xs k ≡ Some x → n + k ≡ place x
place_found place n [] k x are is = absurd (none-some x is)
place_found place n (y ∷ ys) zero x are is = let first : n + 0 ≡ n = omega arith in first ∙ are.0 ∙ ap place (same_Some y x is)
place_found place n (y ∷ ys) (suc k) x are is = let next : n + suc k ≡ suc n + k = omega arith in next ∙ place_found place (suc n) ys k x are.1 is

placed_only : {A : Type 0} (place : A → ℕ) (all : List A) → Places place 0 all → (bytes : List ℕ) (a : A) (rest : List ℕ) → (placed place all).read bytes ≡ Some (a, rest) → (placed place all).Fits a × (bytes ≡ (placed place all).write a ++ rest)
placed_only place all are [] a rest is = absurd (none-some (a, rest) is)
placed_only place all are (b ∷ bytes) a rest is =
    let found = as_some (slice_get all b) bytes (a, rest) is in
    let same : b ≡ place a = (omega arith) ∙ place_found place 0 all b a are found.0 in
    (subst (λ t. slice_get all t ≡ Some a) same found.0, ap (λ t. t ∷ bytes) same ∙ ap (λ t. place a ∷ t) found.1)

pub placed_exact : {A : Type 0} (place : A → ℕ) (all : List A) → Places place 0 all → IsExact (placed place all)
placed_exact place all are = record {
  there = λ a rest fits. rw fits refl;
  only = placed_only place all are;
}

the_bracket : IsExact a_bracket
the_bracket = placed_exact bracket_place (bracket.Round ∷ bracket.Brace ∷ []) (refl, (refl, tt))

the_operators : IsExact (placed operator_tag operators)
the_operators = placed_exact operator_tag operators ((refl, (refl, (refl, (refl, (refl, (refl, (refl, (refl, (refl, (refl, (refl, (refl, (refl, (refl, (refl, (refl, (refl, (refl, (refl, (refl, (refl, (refl, (refl, (refl, (refl, (refl, (refl, (refl, (refl, (refl, (refl, (refl, (refl, (refl, (refl, (refl, (refl, (refl, (refl, (refl, (refl, (refl, (refl, (refl, (refl, (refl, (refl, (refl, (refl, (refl, tt)))))))))))))))))))))))))))))))))))))))))))))))))))

-- ---- slots

slot_form : (globals own : ℕ) → IsForm slot_number (HasSlot globals own) (slot_of globals own) number
slot_form globals own = record { back = back; made = λ n a fits is. made n a is }
  where
    back : (a : Slot) → HasSlot globals own a → slot_of globals own (slot_number a) ≡ Some a
    back (slot.Global k) less =
        let half : 2 * k / 2 ≡ k = omega arith in
        rw (eq-eqb (2 * k % 2) 0 (omega arith)) (rw half (rw (lt-ltb k globals less) refl))
    back (slot.Own k) less =
        let half : (2 * k + 1) / 2 ≡ k = omega arith in
        rw (ne_eqb ((2 * k + 1) % 2) 0 (λ e. omega (arith, e))) (rw half (rw (lt-ltb k own less) refl))

    made : (n : ℕ) (a : Slot) → slot_of globals own n ≡ Some a → HasSlot globals own a × (n ≡ slot_number a)
    made n a is = elim (cases_eq (n % 2) 0) [
      | inl even ↦
          let it = cond_some (nat_lt (n / 2) globals) (slot.Global (n / 2)) a (rw (eq-eqb (n % 2) 0 even) at is) in
          subst (λ t. HasSlot globals own t × (n ≡ slot_number t)) it.1 (ltb-true (n / 2) globals it.0, omega (arith, even))
      | inr odd ↦
          let it = cond_some (nat_lt (n / 2) own) (slot.Own (n / 2)) a (rw (ne_eqb (n % 2) 0 odd) at is) in
          subst (λ t. HasSlot globals own t × (n ≡ slot_number t)) it.1 (ltb-true (n / 2) own it.0, omega (arith, odd))
    ]

the_slot : (globals own : ℕ) → IsExact (a_slot globals own)
the_slot globals own = through_exact slot_number (HasSlot globals own) (slot_of globals own) number (slot_form globals own) the_number

the_place : (globals own : ℕ) → IsExact (a_place globals own)
the_place globals own = followed_exact (a_slot globals own) (λ x. listed a_bracket) (the_slot globals own) (λ x. listed_exact a_bracket the_bracket)

-- ---- the table

-- a row stands at its byte, and what it makes has the operands that it was made of
abbrev IsRow : ℕ → Form → Type 0
IsRow b (Alone what) = b ≡ tag what
IsRow b (Counted make) = (n : ℕ) → (b ≡ tag (make n)) × (number_in (make n) ≡ n)
IsRow b (OnSlot make) = (x : Slot) → (b ≡ tag (make x)) × (slot_in (make x) ≡ x)
IsRow b Whole = b ≡ 64
IsRow b Written = b ≡ 65
IsRow b (Updating a) = (x : Slot) (ks : List Bracket) → b ≡ tag (i.Alter a x ks)
IsRow b Combining = b ≡ 81

abbrev Placed : ℕ → List Row → Type 0
Placed n [] = ⊤
Placed n (x ∷ xs) = IsRow n (form x) × Placed (suc n) xs

row_found : (n : ℕ) (rs : List Row) (k : ℕ) (x : Row) → Placed n rs → slice_get rs k ≡ Some x → IsRow (n + k) (form x)
row_found n [] k x are is = absurd (none-some x is)
row_found n (y ∷ ys) zero x are is = let first : n ≡ n + 0 = omega arith in subst (λ t. IsRow t (form x)) first (subst (λ t. IsRow n (form t)) (same_Some y x is) are.0)
row_found n (y ∷ ys) (suc k) x are is = let next : suc n + k ≡ n + suc k = omega arith in subst (λ t. IsRow t (form x)) next (row_found (suc n) ys k x are.1 is)

operators_placed : Placed 0 (map r.Operate operators)
operators_placed = (refl, (refl, (refl, (refl, (refl, (refl, (refl, (refl, (refl, (refl, (refl, (refl, (refl, (refl, (refl, (refl, (refl, (refl, (refl, (refl, (refl, (refl, (refl, (refl, (refl, (refl, (refl, (refl, (refl, (refl, (refl, (refl, (refl, (refl, (refl, (refl, (refl, (refl, (refl, (refl, (refl, (refl, (refl, (refl, (refl, (refl, (refl, (refl, (refl, (refl, tt))))))))))))))))))))))))))))))))))))))))))))))))))

rows_placed : Placed 64 rows
rows_placed = (refl, (refl, (refl, (refl, (refl, (refl, (refl, ((λ x. (refl, refl)), ((λ x. (refl, refl)), ((λ x. (refl, refl)), ((λ n. (refl, refl)), ((λ n. (refl, refl)), (refl, (refl, (refl, (refl, ((λ x ks. refl), (refl, ((λ x ks. refl), ((λ x ks. refl), ((λ x ks. refl), ((λ n. (refl, refl)), ((λ n. (refl, refl)), ((λ n. (refl, refl)), (refl, ((λ n. (refl, refl)), ((λ n. (refl, refl)), (refl, (refl, ((λ n. (refl, refl)), (refl, (refl, (refl, (refl, (refl, ((λ n. (refl, refl)), (refl, (refl, ((λ n. (refl, refl)), ((λ n. (refl, refl)), (refl, ((λ n. (refl, refl)), (refl, (refl, (refl, ((λ n. (refl, refl)), (refl, (refl, (refl, tt)))))))))))))))))))))))))))))))))))))))))))))))))

row_is : (b : ℕ) (x : Row) → row_at b ≡ Some x → IsRow b (form x)
row_is b x is = elim (cases_lt b 50) [
  | inl first ↦
      let start : 0 + b ≡ b = omega arith in
      subst (λ t. IsRow t (form x)) start (row_found 0 (map r.Operate operators) b x operators_placed (slice_get-map r.Operate operators b ∙ rw (lt-ltb b 50 first) at is))
  | inr later ↦
      let rest = rw (le-ltb b 50 later) at is in
      elim (cases_lt b 64) [
        | inl gap ↦ absurd (none-some x (rw (lt-ltb b 64 gap) at rest))
        | inr last ↦
            let place : 64 + (b - 64) ≡ b = omega (arith, last) in
            subst (λ t. IsRow t (form x)) place (row_found 64 rows (b - 64) x rows_placed (rw (le-ltb b 64 last) at rest))
      ]
]

-- ---- instructions

operands_exact : (globals own b : ℕ) (r : Form) → IsRow b r → IsExact (operands globals own r)
operands_exact globals own b (Alone what) row = always_exact what
operands_exact globals own b (Counted make) row = through_exact number_in (λ a. a ≡ make (number_in a)) (λ n. Some (make n)) number (record {
  back = λ a ok. ap Some (sym ok);
  made = λ n a fits is.
      let same = same_Some (make n) a is in
      (subst (λ t. t ≡ make (number_in t)) same (ap make (sym (row n).1)), sym (row n).1 ∙ ap number_in same);
}) the_number
operands_exact globals own b (OnSlot make) row = through_exact slot_in (λ a. a ≡ make (slot_in a)) (λ x. Some (make x)) (a_slot globals own) (record {
  back = λ a ok. ap Some (sym ok);
  made = λ x a fits is.
      let same = same_Some (make x) a is in
      (subst (λ t. t ≡ make (slot_in t)) same (ap make (sym (row x).1)), sym (row x).1 ∙ ap slot_in same);
}) (the_slot globals own)
operands_exact globals own b Whole row = through_exact integer_in (λ a. a ≡ i.Integer (pos (integer_in a))) (λ n. Some (i.Integer (pos n))) integer (record {
  back = λ a ok. ap Some (sym ok);
  made = λ n a fits is.
      let same = same_Some (i.Integer (pos n)) a is in
      (subst (λ t. t ≡ i.Integer (pos (integer_in t))) same refl, ap integer_in same);
}) numbers_are_exact.1
operands_exact globals own b Written row = through_exact text_in (λ a. a ≡ i.Text (text_in a)) (λ t. Some (i.Text t)) text (record {
  back = λ a ok. ap Some (sym ok);
  made = λ n a fits is.
      let same = same_Some (i.Text n) a is in
      (subst (λ t. t ≡ i.Text (text_in t)) same refl, ap text_in same);
}) texts_are_exact.0
operands_exact globals own b (Updating a) row = through_exact {B = Slot × List Bracket} (λ it. (slot_in it, brackets_in it)) (λ it. it ≡ i.Alter a (slot_in it) (brackets_in it)) (λ x. Some (i.Alter a x.0 x.1)) (a_place globals own) (record {
  back = λ it ok. ap Some (sym ok);
  made = λ x it fits is.
      let same = same_Some (i.Alter a x.0 x.1) it is in
      (subst (λ t. t ≡ i.Alter a (slot_in t) (brackets_in t)) same refl, ap {B = Slot × List Bracket} (λ t. (slot_in t, brackets_in t)) same);
}) (the_place globals own)
operands_exact globals own b Combining row = through_exact {B = Operator × (Slot × List Bracket)}
    (λ it. (operator_in it, (slot_in it, brackets_in it)))
    (λ it. it ≡ i.Alter (alteration.Combine (operator_in it)) (slot_in it) (brackets_in it))
    (λ x. Some (i.Alter (alteration.Combine x.0) x.1.0 x.1.1))
    (pair an_operator (a_place globals own)) (record {
      back = λ it ok. ap Some (sym ok);
      made = λ x it fits is.
          let same = same_Some (i.Alter (alteration.Combine x.0) x.1.0 x.1.1) it is in
          (subst (λ t. t ≡ i.Alter (alteration.Combine (operator_in t)) (slot_in t) (brackets_in t)) same refl, ap {B = Operator × (Slot × List Bracket)} (λ t. (operator_in t, (slot_in t, brackets_in t))) same);
    }) (followed_exact an_operator (λ x. a_place globals own) (checked_exact is_updating (placed operator_tag operators) the_operators) (λ x. the_place globals own))

operands_tag : (globals own b : ℕ) (r : Form) (a : Instr) → IsRow b r → (operands globals own r).Fits a → b ≡ tag a
operands_tag globals own b (Alone what) a row fits = row ∙ ap tag (sym fits)
operands_tag globals own b (Counted make) a row fits = (row (number_in a)).0 ∙ ap tag (sym fits.0)
operands_tag globals own b (OnSlot make) a row fits = (row (slot_in a)).0 ∙ ap tag (sym fits.0)
operands_tag globals own b Whole a row fits = row ∙ ap tag (sym fits.0)
operands_tag globals own b Written a row fits = row ∙ ap tag (sym fits.0)
operands_tag globals own b (Updating c) a row fits = row (slot_in a) (brackets_in a) ∙ ap tag (sym fits.0)
operands_tag globals own b Combining a row fits = row ∙ ap tag (sym fits.0)

behind_exact : (globals own b : ℕ) (o : Option Row) → row_at b ≡ o → IsExact (behind globals own o)
behind_exact globals own b None is = never_exact
behind_exact globals own b (Some x) is = operands_exact globals own b (form x) (row_is b x is)

behind_tag : (globals own b : ℕ) (o : Option Row) (a : Instr) → row_at b ≡ o → (behind globals own o).Fits a → b ≡ tag a
behind_tag globals own b None a is fits = absurd fits
behind_tag globals own b (Some x) a is fits = operands_tag globals own b (form x) a (row_is b x is) fits

pub instr_exact : (globals own : ℕ) → IsExact (instr globals own)
instr_exact globals own = tagged_exact tag (λ b. behind globals own (row_at b))
    (λ b a fits. behind_tag globals own b (row_at b) a refl fits)
    (λ b. behind_exact globals own b (row_at b) refl)

pub step_exact : (globals own : ℕ) → IsExact (step globals own)
step_exact globals own = through_exact {B = ℕ × Instr} (λ (s : Step). (s.line, s.what)) (λ s. ⊤) (λ x. Some (record { line = x.0; what = x.1 })) (pair number (instr globals own)) (record {
  back = λ a ok. refl;
  made = λ b a fits is. let same = same_Some (record { line = b.0; what = b.1 }) a is in (tt, ap {B = ℕ × Instr} (λ (s : Step). (s.line, s.what)) same);
}) (followed_exact number (λ n. instr globals own) the_number (λ n. instr_exact globals own))
