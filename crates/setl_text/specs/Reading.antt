-- The same by computation, byte by byte. `Laws` says that it is what `Denoted` and `ReadFails` say.
use Rattle.std.specs.Prelude.{ℕ, ◌+◌, ◌-◌, ◌*◌, ◌^◌, ◌==◌, Bool, true, false, List, [], ◌∷◌, ◌++◌, length, nat_lt, codes, Option, Some, None, if◌then◌else◌}
use Rattle.setl_value.specs.Datum.{Datum, bool, int, text}
use Rattle.setl_text.specs.Bytes.{is_blank, is_gap, is_digit, is_letter, lower, signed, Bracket, Brace, Square}
use Rattle.setl_text.specs.Denoted.{collected, Fault, Form, Wide, Deep}

-- What stands at the front of the input: a value or `om` with the bytes behind it, only blanks, or the first fault.
pub data Reading : Type 0 where
  Denotes : (value : Option Datum) (rest : List ℕ) → Reading
  AtEnd : Reading
  NotForm TooWide TooDeep : Reading

abbrev pub failing : Fault → Reading
failing Form = NotForm
failing Wide = TooWide
failing Deep = TooDeep

-- How much of an integer, word or string was taken: the letters still wanted of a word, the bytes of a string so far.
pub data Token : Type 0 where
  Between : Token
  AfterMinus : Token
  InNumber : (negative : Bool) (size : ℕ) → Token
  InWord : (value : Bool) (wanted : List ℕ) → Token
  InString AfterQuote : (bytes : List ℕ) → Token

-- A set or tuple that isn't closed yet, with what stands in it so far.
pub data Open : Type 0 where
  opened : Bracket → List (Option Datum) → Open

-- What a byte does: it is taken, or the denotation ends behind it or before it, or it is a fault. The open sets and
-- tuples stand with the innermost first.
pub data Step : Type 0 where
  Goes : Token → List Open → Step
  Ends EndsBefore : (value : Option Datum) → Step
  Fails : Fault → Step

-- What a value or `om` becomes: the whole denotation, a part of the innermost set or tuple, or nothing.
pub data Placed : Type 0 where
  Whole : Option Datum → Placed
  Inside : List Open → Placed
  Unfit : Placed

abbrev pub put_value : Option Datum → List Open → Placed
put_value v [] = Whole v
put_value None (opened Brace got ∷ os) = Unfit
put_value None (opened Square got ∷ os) = Inside (opened Square (got ++ None ∷ []) ∷ os)
put_value (Some d) (opened k got ∷ os) = Inside (opened k (got ++ Some d ∷ []) ∷ os)

-- a value whose last byte this is
abbrev pub taken : Placed → Step
taken (Whole v) = Ends v
taken (Inside os) = Goes Between os
taken Unfit = Fails Form

-- ---- a byte between integers, words and strings

abbrev pub gap_at : List Open → ℕ → Bool
gap_at [] b = is_blank b
gap_at (o ∷ os) b = is_gap b

abbrev pub open_bracket : Bracket → List Open → Step
open_bracket k os = if nat_lt (length os) 500 then Goes Between (opened k [] ∷ os) else Fails Deep

abbrev pub close_bracket : Bracket → List Open → Step
close_bracket Brace (opened Brace got ∷ os) = taken (put_value (Some (collected Brace got)) os)
close_bracket Square (opened Square got ∷ os) = taken (put_value (Some (collected Square got)) os)
close_bracket k os = Fails Form

-- a letter that begins a word
abbrev pub first_letter : ℕ → List Open → Step
first_letter b os =
    if lower b == 116 then Goes (InWord true (codes "rue")) os
    else (if lower b == 102 then Goes (InWord false (codes "alse")) os else Fails Form)

abbrev pub begin : List Open → ℕ → Step
begin os b =
    if gap_at os b then Goes Between os
    else (if is_digit b then Goes (InNumber false (b - 48)) os
    else (if is_letter b then first_letter b os
    else (if b == 123 then open_bracket Brace os
    else (if b == 91 then open_bracket Square os
    else (if b == 125 then close_bracket Brace os
    else (if b == 93 then close_bracket Square os
    else (if b == 42 then taken (put_value None os)
    else (if b == 39 then Goes (InString []) os
    else (if b == 45 then Goes AfterMinus os else Fails Form)))))))))

-- ---- a byte inside or behind an integer, word or string

-- a value that ends before this byte
abbrev pub before : Placed → ℕ → Step
before (Whole v) b = EndsBefore v
before (Inside os) b = begin os b
before Unfit b = Fails Form

-- an integer of this size lies within 128 bits
abbrev pub within : (negative : Bool) → ℕ → Bool
within true n = nat_lt n (2 ^ 127 + 1)
within false n = nat_lt n (2 ^ 127)

abbrev pub sized : Bool → ℕ → List Open → Step
sized negative n os = if within negative n then Goes (InNumber negative n) os else Fails Wide

abbrev pub after_minus : List Open → ℕ → Step
after_minus os b = if is_digit b then Goes (InNumber true (b - 48)) os else Fails Form

abbrev pub in_number : Bool → ℕ → List Open → ℕ → Step
in_number negative n os b = if is_digit b then sized negative (n * 10 + (b - 48)) os else before (put_value (Some (int (signed negative n))) os) b

abbrev pub in_word : Bool → List ℕ → List Open → ℕ → Step
in_word v [] os b = if is_letter b then Fails Form else before (put_value (Some (bool v)) os) b
in_word v (w ∷ ws) os b = if lower b == w then Goes (InWord v ws) os else Fails Form

abbrev pub in_string : List ℕ → List Open → ℕ → Step
in_string t os b = if b == 39 then Goes (AfterQuote t) os else (if b == 10 then Fails Form else Goes (InString (t ++ b ∷ [])) os)

abbrev pub after_quote : List ℕ → List Open → ℕ → Step
after_quote t os b = if b == 39 then Goes (InString (t ++ 39 ∷ [])) os else before (put_value (Some (text t)) os) b

abbrev pub step : Token → List Open → ℕ → Step
step Between os b = begin os b
step AfterMinus os b = after_minus os b
step (InNumber negative n) os b = in_number negative n os b
step (InWord v wanted) os b = in_word v wanted os b
step (InString t) os b = in_string t os b
step (AfterQuote t) os b = after_quote t os b

-- ---- the end of the input, and all bytes

abbrev pub placed_at_end : Placed → Reading
placed_at_end (Whole v) = Denotes v []
placed_at_end (Inside os) = NotForm
placed_at_end Unfit = NotForm

abbrev pub finish : Token → List Open → Reading
finish Between [] = AtEnd
finish (InNumber negative n) os = placed_at_end (put_value (Some (int (signed negative n))) os)
finish (InWord v []) os = placed_at_end (put_value (Some (bool v)) os)
finish (AfterQuote t) os = placed_at_end (put_value (Some (text t)) os)
finish token os = NotForm

abbrev pub proceed : Step → ℕ → List ℕ → (Token → List Open → Reading) → Reading
proceed (Goes token os) b bs next = next token os
proceed (Ends v) b bs next = Denotes v bs
proceed (EndsBefore v) b bs next = Denotes v (b ∷ bs)
proceed (Fails f) b bs next = failing f

-- what these bytes make of what was taken before
abbrev pub resume : List ℕ → Token → List Open → Reading
resume [] token os = finish token os
resume (b ∷ bs) token os = proceed (step token os b) b bs (resume bs)

-- the denotation at the front of the input
abbrev pub read_denotation : List ℕ → Reading
read_denotation bs = resume bs Between []
