-- What `read` takes from the input: denotations of values and of `om`. The notation is this project's profile of the
-- 1986 book's `read`.
use Rattle.std.specs.Prelude.{◌≡◌, ◌⊎◌, ℕ, suc, ◌++◌, Bool, true, false, List, [], ◌∷◌, map, codes, Option, Some, None, if◌then◌else◌}
use Rattle.std.specs.List.{AllByRecursion}
use Rattle.setl_value.specs.Datum.{Datum, bool, int, text, set_of, tuple_of}
use Rattle.setl_value.specs.WellFormed.{IsWide, trim}
use Rattle.setl_set.specs.Sets.{set_from}
use Rattle.setl_text.specs.Bytes.{is_blank, is_gap, is_digit, is_letter, is_start, lower, Bracket, Brace, Square, opening, closing, front, behind, number_from, signed}
use Rattle.setl_text.specs.Texts.{doubled}

-- Why no denotation is read: it has no form, an integer is outside of 128 bits, or the depth is above 500.
pub data Fault : Type 0 where
  Form Wide Deep : Fault

-- the letters of a boolean
abbrev pub spelling : Bool → List ℕ
spelling v = if v then codes "true" else codes "false"

-- the bytes don't begin with an apostrophe
abbrev pub NoQuote : List ℕ → Type 0
NoQuote [] = Unit {0}
NoQuote (b ∷ bs) = b ≡ 39 → ⊥

-- a byte that may stand in a string
abbrev pub NotNewline : ℕ → Type 0
NotNewline b = b ≡ 10 → ⊥

-- the end of the input or of a line
abbrev pub EndsLine : List ℕ → Type 0
EndsLine [] = Unit {0}
EndsLine (b ∷ bs) = b ≡ 10

-- the members that stand among what a set or tuple collected
abbrev pub present : List (Option Datum) → List Datum
present [] = []
present (None ∷ vs) = present vs
present (Some d ∷ vs) = d ∷ present vs

-- the set or the tuple of what stands between the brackets: a set drops repeats, a tuple the `om` at its end
abbrev pub collected : Bracket → List (Option Datum) → Datum
collected Brace vs = set_of (set_from (present vs))
collected Square vs = tuple_of (trim vs)

-- `om` is no member of a set
abbrev pub Admits : Bracket → Option Datum → Type 0
Admits Brace None = ⊥
Admits k v = Unit {0}

-- An integer with its longest run of digits, the longest run of letters, a string, or `*`, and the bytes behind it.
pub data Single : List ℕ → Option Datum → List ℕ → Type 0 where
  natural : (b : ℕ) (bs : List ℕ) → is_digit b ≡ true → IsWide (signed false (number_from 0 (front is_digit (b ∷ bs)))) → Single (b ∷ bs) (Some (int (signed false (number_from 0 (front is_digit (b ∷ bs)))))) (behind is_digit bs)
  negative : (b : ℕ) (bs : List ℕ) → is_digit b ≡ true → IsWide (signed true (number_from 0 (front is_digit (b ∷ bs)))) → Single (45 ∷ b ∷ bs) (Some (int (signed true (number_from 0 (front is_digit (b ∷ bs)))))) (behind is_digit bs)
  word : (v : Bool) (b : ℕ) (bs : List ℕ) → is_letter b ≡ true → map lower (front is_letter (b ∷ bs)) ≡ spelling v → Single (b ∷ bs) (Some (bool v)) (behind is_letter bs)
  string : (t rest : List ℕ) → AllByRecursion NotNewline t → NoQuote rest → Single (39 ∷ doubled t ++ 39 ∷ rest) (Some (text t)) rest
  om : (rest : List ℕ) → Single (42 ∷ rest) None rest

mutual
  -- a denotation that begins with the first byte and opens at most `room` brackets in one another
  pub data Item : ℕ → List ℕ → Option Datum → List ℕ → Type 0 where
    single : {room : ℕ} {bs : List ℕ} {v : Option Datum} {rest : List ℕ} → Single bs v rest → Item room bs v rest
    bracketed : {room : ℕ} (k : Bracket) {bs : List ℕ} {vs : List (Option Datum)} {rest : List ℕ} → Items k room bs vs (closing k ∷ rest) → Item (suc room) (opening k ∷ bs) (Some (collected k vs)) rest

  -- some denotations in a set or tuple, with any gaps before and between them
  pub data Items : Bracket → ℕ → List ℕ → List (Option Datum) → List ℕ → Type 0 where
    nothing : {k : Bracket} {room : ℕ} {rest : List ℕ} → Items k room rest [] rest
    gap : {k : Bracket} {room : ℕ} {bs : List ℕ} {vs : List (Option Datum)} {rest : List ℕ} (b : ℕ) → is_gap b ≡ true → Items k room bs vs rest → Items k room (b ∷ bs) vs rest
    member : {k : Bracket} {room : ℕ} {bs mid : List ℕ} {v : Option Datum} {vs : List (Option Datum)} {rest : List ℕ} → Item room bs v mid → Admits k v → Items k room mid vs rest → Items k room bs (v ∷ vs) rest

-- A denotation, after any blanks, and the bytes behind it.
pub data Denoted : List ℕ → Option Datum → List ℕ → Type 0 where
  blank : {bs : List ℕ} {v : Option Datum} {rest : List ℕ} (b : ℕ) → is_blank b ≡ true → Denoted bs v rest → Denoted (b ∷ bs) v rest
  item : {bs : List ℕ} {v : Option Datum} {rest : List ℕ} → Item 500 bs v rest → Denoted bs v rest

-- An integer, word or string that is none.
pub data SingleFails : List ℕ → Fault → Type 0 where
  wide_natural : (b : ℕ) (bs : List ℕ) → is_digit b ≡ true → (IsWide (signed false (number_from 0 (front is_digit (b ∷ bs)))) → ⊥) → SingleFails (b ∷ bs) Wide
  wide_negative : (b : ℕ) (bs : List ℕ) → is_digit b ≡ true → (IsWide (signed true (number_from 0 (front is_digit (b ∷ bs)))) → ⊥) → SingleFails (45 ∷ b ∷ bs) Wide
  minus_at_end : SingleFails (45 ∷ []) Form
  minus_alone : (b : ℕ) (bs : List ℕ) → is_digit b ≡ false → SingleFails (45 ∷ b ∷ bs) Form
  other_word : (b : ℕ) (bs : List ℕ) → is_letter b ≡ true → ((v : Bool) → map lower (front is_letter (b ∷ bs)) ≡ spelling v → ⊥) → SingleFails (b ∷ bs) Form
  open_string : (t rest : List ℕ) → AllByRecursion NotNewline t → EndsLine rest → SingleFails (39 ∷ doubled t ++ rest) Form

mutual
  -- what begins with the first byte comes to a fault
  pub data ItemFails : ℕ → List ℕ → Fault → Type 0 where
    no_single : {room : ℕ} {bs : List ℕ} {f : Fault} → SingleFails bs f → ItemFails room bs f
    too_deep : (k : Bracket) (bs : List ℕ) → ItemFails 0 (opening k ∷ bs) Deep
    inside : {room : ℕ} {bs : List ℕ} {f : Fault} (k : Bracket) → ItemsFail k room bs f → ItemFails (suc room) (opening k ∷ bs) f

  -- a set or tuple comes to a fault before its closing bracket
  pub data ItemsFail : Bracket → ℕ → List ℕ → Fault → Type 0 where
    after_gap : {k : Bracket} {room : ℕ} {bs : List ℕ} {f : Fault} (b : ℕ) → is_gap b ≡ true → ItemsFail k room bs f → ItemsFail k room (b ∷ bs) f
    after_member : {k : Bracket} {room : ℕ} {bs mid : List ℕ} {v : Option Datum} {f : Fault} → Item room bs v mid → Admits k v → ItemsFail k room mid f → ItemsFail k room bs f
    in_member : {k : Bracket} {room : ℕ} {bs : List ℕ} {f : Fault} → ItemFails room bs f → ItemsFail k room bs f
    om_in_set : {room : ℕ} (bs : List ℕ) → ItemsFail Brace room (42 ∷ bs) Form
    not_closed : {k : Bracket} {room : ℕ} → ItemsFail k room [] Form
    no_start : {k : Bracket} {room : ℕ} (b : ℕ) (bs : List ℕ) → is_start b ≡ false → is_gap b ≡ false → (b ≡ closing k → ⊥) → ItemsFail k room (b ∷ bs) Form

-- The first fault by its place in the input, where no denotation is read. `Form` stands at the first byte with which
-- the bytes so far begin no denotation, or at the end of the input inside one; `Wide` at the first byte of an integer;
-- `Deep` at the bracket that opens the 501st depth.
pub data ReadFails : List ℕ → Fault → Type 0 where
  after_blank : {bs : List ℕ} {f : Fault} (b : ℕ) → is_blank b ≡ true → ReadFails bs f → ReadFails (b ∷ bs) f
  in_item : {bs : List ℕ} {f : Fault} → ItemFails 500 bs f → ReadFails bs f
  no_item : (b : ℕ) (bs : List ℕ) → is_start b ≡ false → is_blank b ≡ false → ReadFails (b ∷ bs) Form

-- Only blanks are left.
abbrev pub OnlyBlanks : List ℕ → Type 0
OnlyBlanks bs = AllByRecursion (λ b. is_blank b ≡ true) bs

-- Whatever follows these bytes, they denote the same value or `om`, or they come to the same fault.
abbrev pub IsDecided : List ℕ → Type 0
IsDecided bs =
    ((v : Option Datum) × (rest : List ℕ) × ((more : List ℕ) → Denoted (bs ++ more) v (rest ++ more)))
    ⊎ ((f : Fault) × ((more : List ℕ) → ReadFails (bs ++ more) f))
