-- How instructions and steps are spelled.
use Rattle.std.specs.Prelude.{◌≡◌, ⊤, ℕ, ◌+◌, ◌*◌, ◌/◌, ◌%◌, ◌<◌, pos, List, [], ◌∷◌, Option, Some, None, slice_get, nat_lt, nat_eq, if◌then◌else◌}
use Rattle.setl_image_codec.specs.Codec.{Codec, always, checked, never, pair, read_as, tagged, through}
use Rattle.setl_image_codec.specs.Numbers.{integer, listed, number}
use Rattle.setl_image_codec.specs.Texts.{text}
use Rattle.setl_operators_table.specs.declared.Operator.{Operator}
use Rattle.setl_program.specs.Updating.{is_updating}
use Rattle.setl_code.specs.MayRun.{HasSlot}
use Rattle.setl_code.specs.declared.code.Slot.{Slot}
use Rattle.setl_code.specs.declared.code.Slot.TheVariants as slot
use Rattle.setl_code.specs.declared.code.Bracket.{Bracket}
use Rattle.setl_code.specs.declared.code.Bracket.TheVariants as bracket
use Rattle.setl_code.specs.declared.code.Alteration.TheVariants as alteration
use Rattle.setl_code.specs.declared.code.Instr.{Instr}
use Rattle.setl_code.specs.declared.code.Instr.TheVariants as i
use Rattle.setl_code.specs.declared.code.Step.{Step}
use Rattle.setl_image_format.specs.declared.rows.Row.{Row}
use Rattle.setl_image_format.specs.Table.{Form, form, Alone, Counted, OnSlot, Whole, Written, Updating, Combining, operators, operator_tag, row_at, tag, number_in, slot_in, brackets_in, integer_in, text_in, operator_in}

-- ---- one byte

abbrev pub read_place : {A : Type 0} → List A → List ℕ → Option (A × List ℕ)
read_place all [] = None
read_place all (b ∷ bytes) = read_as (slice_get all b) bytes

-- one of these, by its place
abbrev pub placed : {A : Type 0} → (A → ℕ) → List A → Codec A
placed place all = record {
  write = λ a. place a ∷ [];
  Fits = λ a. slice_get all (place a) ≡ Some a;
  read = read_place all;
}

-- 0 for `()` and 1 for `{}`
abbrev pub bracket_place : Bracket → ℕ
bracket_place bracket.Round = 0
bracket_place bracket.Brace = 1

abbrev pub a_bracket : Codec Bracket
a_bracket = placed bracket_place (bracket.Round ∷ bracket.Brace ∷ [])

-- an operator that an update may have
abbrev pub an_operator : Codec Operator
an_operator = checked is_updating (placed operator_tag operators)

-- ---- slots

abbrev pub slot_number : Slot → ℕ
slot_number (slot.Global k) = 2 * k
slot_number (slot.Own k) = 2 * k + 1

abbrev pub slot_of : (globals own n : ℕ) → Option Slot
slot_of globals own n =
    if nat_eq (n % 2) 0 then (if nat_lt (n / 2) globals then Some (slot.Global (n / 2)) else None)
    else (if nat_lt (n / 2) own then Some (slot.Own (n / 2)) else None)

-- 2i for `Global(i)` and 2i + 1 for `Own(i)`, where there is that slot
abbrev pub a_slot : (globals own : ℕ) → Codec Slot
a_slot globals own = through slot_number (HasSlot globals own) (slot_of globals own) number

abbrev pub a_place : (globals own : ℕ) → Codec (Slot × List Bracket)
a_place globals own = pair (a_slot globals own) (listed a_bracket)

-- ---- instructions

-- what stands behind the byte of a row
abbrev pub operands : (globals own : ℕ) → Form → Codec Instr
operands globals own (Alone what) = always what
operands globals own (Counted make) = through number_in (λ a. a ≡ make (number_in a)) (λ n. Some (make n)) number
operands globals own (OnSlot make) = through slot_in (λ a. a ≡ make (slot_in a)) (λ x. Some (make x)) (a_slot globals own)
operands globals own Whole = through integer_in (λ a. a ≡ i.Integer (pos (integer_in a))) (λ n. Some (i.Integer (pos n))) integer
operands globals own Written = through text_in (λ a. a ≡ i.Text (text_in a)) (λ t. Some (i.Text t)) text
operands globals own (Updating a) =
    through {B = Slot × List Bracket} (λ it. (slot_in it, brackets_in it)) (λ it. it ≡ i.Alter a (slot_in it) (brackets_in it)) (λ x. Some (i.Alter a x.0 x.1)) (a_place globals own)
operands globals own Combining =
    through {B = Operator × (Slot × List Bracket)}
    (λ it. (operator_in it, (slot_in it, brackets_in it)))
    (λ it. it ≡ i.Alter (alteration.Combine (operator_in it)) (slot_in it) (brackets_in it))
    (λ x. Some (i.Alter (alteration.Combine x.0) x.1.0 x.1.1))
    (pair an_operator (a_place globals own))

abbrev pub behind : (globals own : ℕ) → Option Row → Codec Instr
behind globals own None = never
behind globals own (Some row) = operands globals own (form row)

abbrev pub instr : (globals own : ℕ) → Codec Instr
instr globals own = tagged tag (λ b. behind globals own (row_at b))

-- a line and an instruction
abbrev pub step : (globals own : ℕ) → Codec Step
step globals own = through {B = ℕ × Instr} (λ s. (s.line, s.what)) (λ s. ⊤) (λ x. Some (record { line = x.0; what = x.1 })) (pair number (instr globals own))
