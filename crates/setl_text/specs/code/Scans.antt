-- What the state of the reader stands for, and what each of its steps does.
use Rattle.std.specs.Prelude.{◌≡◌, ℕ, ◌+◌, ◌≤◌, true, List, [], ◌∷◌, ◌++◌, length, map, reverse, drop, Result, Ok, Err, Option, Some, None, ⊤, ◌==◌, if◌then◌else◌}
use Rattle.std.specs.List.{All, AllByRecursion}
use Rattle.setl_value.specs.Datum.{Datum, parts_depth, parts_of}
use Rattle.setl_value.specs.code.DatumOf.{datum, part}
use Rattle.setl_text.specs.Bytes.{IsLow, Brace, Square}
use Rattle.setl_text.specs.Denoted.{Form, Wide, Deep}
use Rattle.setl_text.specs.Reading.{Reading, Denotes, AtEnd, NotForm, TooWide, TooDeep, Token, Between, AfterMinus, InNumber, InWord, InString, AfterQuote, Open, opened, Step, Goes, Ends, EndsBefore, Fails, Placed, Whole, Inside, Unfit, within, put_value, taken, open_bracket, close_bracket, resume}
use Rattle.setl_text.specs.declared.scan.Piece.{Piece}
use Rattle.setl_text.specs.declared.scan.Piece.TheVariants.{Idle, Minus, Digits, Letters, Quoted, Apostrophe}
use Rattle.setl_text.specs.declared.place.Collection.{Collection}
use Rattle.setl_text.specs.declared.place.Collection.TheVariants.{InSet, InTuple}
use Rattle.setl_text.specs.declared.place.Put.{Put}
use Rattle.setl_text.specs.declared.place.Put.TheVariants.{Alone, Inner}
use Rattle.setl_text.specs.declared.scan.Fed.{Fed}
use Rattle.setl_text.specs.declared.scan.Fed.TheVariants.{More, Through, Before}
use Rattle.setl_text.specs.declared.read.Scanned.{Scanned}
use Rattle.setl_text.specs.declared.read.Scanned.TheVariants.{Onward, Found}
use Rattle.setl_text.specs.declared.Got.{Got}
use Rattle.setl_text.specs.declared.Got.TheVariants.{Value, Om, End}
use Rattle.setl_text.specs.declared.ReadFault.{ReadFault}
use Rattle.setl_text.specs.declared.ReadFault.TheVariants as fault

-- what was taken of an integer, word or string
abbrev pub token_of : Piece → Token
token_of Idle = Between
token_of Minus = AfterMinus
token_of (Digits negative n) = InNumber negative n
token_of (Letters v wanted) = InWord v wanted.now
token_of (Quoted bytes) = InString bytes.items
token_of (Apostrophe bytes) = AfterQuote bytes.items

-- a set or tuple that isn't closed yet
abbrev pub open_of : Collection → Open
open_of (InSet vs) = opened Brace (map (λ v. Some (datum v)) vs.items)
open_of (InTuple ps) = opened Square (map part ps.items)

-- the open ones, of which the list has the innermost last
abbrev pub opens : List Collection → List Open
opens cs = reverse (map open_of cs)

-- ---- what holds of every state

-- sizes are within 128 bits, the letters wanted are in lower case, and strings have no byte 10
abbrev pub TokenFits : Token → Type 0
TokenFits Between = ⊤
TokenFits AfterMinus = ⊤
TokenFits (InNumber negative n) = within negative n ≡ true
TokenFits (InWord v wanted) = AllByRecursion IsLow wanted
TokenFits (InString t) = All (λ b. (b ≡ 10) → ⊥) t
TokenFits (AfterQuote t) = All (λ b. (b ≡ 10) → ⊥) t

-- the depth of what this becomes
abbrev pub open_depth : Open → ℕ
open_depth (opened k got) = 1 + parts_depth (parts_of got)

-- what each becomes is at most 500 deep inside those around it
abbrev pub IsShallow : List Open → Type 0
IsShallow [] = ⊤
IsShallow (o ∷ os) = (open_depth o + length os ≤ 500) × IsShallow os

-- ---- what the steps do

-- the innermost set or tuple with one more value or `om`, whatever is around it
abbrev pub Grows : Option Datum → Open → Result Collection ReadFault → Type 0
Grows v o (Ok c) = (os : List Open) → put_value v (o ∷ os) ≡ Inside (open_of c ∷ os)
Grows v o (Err fault.Form) = (os : List Open) → put_value v (o ∷ os) ≡ Unfit
Grows v o (Err fault.Wide) = ⊥
Grows v o (Err fault.Deep) = ⊥
Grows v o (Err fault.Source) = ⊥
Grows v o (Err fault.NoMemory) = ⊤

-- a value or `om` was placed
abbrev pub Places : Placed → List Open → Result Put ReadFault → Type 0
Places p os (Ok (Alone v)) = (p ≡ Whole (part v)) × IsShallow os
Places p os (Ok Inner) = (p ≡ Inside os) × IsShallow os
Places p os (Err fault.Form) = p ≡ Unfit
Places p os (Err fault.Wide) = ⊥
Places p os (Err fault.Deep) = ⊥
Places p os (Err fault.Source) = ⊥
Places p os (Err fault.NoMemory) = ⊤

-- a byte was taken, or ended the denotation, or was a fault
abbrev pub Feeds : Step → List Open → Result Fed ReadFault → Type 0
Feeds s os (Ok (More p)) = (s ≡ Goes (token_of p) os) × (TokenFits (token_of p) × IsShallow os)
Feeds s os (Ok (Through v)) = s ≡ Ends (part v)
Feeds s os (Ok (Before v)) = s ≡ EndsBefore (part v)
Feeds s os (Err fault.Form) = s ≡ Fails Form
Feeds s os (Err fault.Wide) = s ≡ Fails Wide
Feeds s os (Err fault.Deep) = s ≡ Fails Deep
Feeds s os (Err fault.Source) = ⊥
Feeds s os (Err fault.NoMemory) = ⊤

-- what an answer says that stands before these bytes
abbrev pub reading_of : Got → List ℕ → Reading
reading_of (Value v) rest = Denotes (Some (datum v)) rest
reading_of Om rest = Denotes None rest
reading_of End rest = AtEnd

-- the end of the input was met
abbrev pub Finishes : Reading → Result Got ReadFault → Type 0
Finishes r (Ok got) = r ≡ reading_of got []
Finishes r (Err fault.Form) = r ≡ NotForm
Finishes r (Err fault.Wide) = ⊥
Finishes r (Err fault.Deep) = ⊥
Finishes r (Err fault.Source) = ⊥
Finishes r (Err fault.NoMemory) = ⊤

-- whatever comes behind some bytes, they lead from one state to another, or to an answer before the last of them, or
-- to a fault
abbrev pub Scans : List ℕ → Token → List Open → List Open → Result Scanned ReadFault → Type 0
Scans bytes t os new (Ok (Onward p)) = ((more : List ℕ) → resume (bytes ++ more) t os ≡ resume more (token_of p) new) × (TokenFits (token_of p) × IsShallow new)
Scans bytes t os new (Ok (Found v n)) = ((more : List ℕ) → resume (bytes ++ more) t os ≡ Denotes (part v) (drop n bytes ++ more)) × (n ≤ length bytes)
Scans bytes t os new (Err fault.Form) = (more : List ℕ) → resume (bytes ++ more) t os ≡ NotForm
Scans bytes t os new (Err fault.Wide) = (more : List ℕ) → resume (bytes ++ more) t os ≡ TooWide
Scans bytes t os new (Err fault.Deep) = (more : List ℕ) → resume (bytes ++ more) t os ≡ TooDeep
Scans bytes t os new (Err fault.Source) = ⊥
Scans bytes t os new (Err fault.NoMemory) = ⊤

-- what a byte begins that isn't a blank, a digit or a letter
abbrev pub begin_mark : List Open → ℕ → Step
begin_mark os b =
    if b == 123 then open_bracket Brace os
    else (if b == 91 then open_bracket Square os
    else (if b == 125 then close_bracket Brace os
    else (if b == 93 then close_bracket Square os
    else (if b == 42 then taken (put_value None os)
    else (if b == 39 then Goes (InString []) os
    else (if b == 45 then Goes AfterMinus os else Fails Form))))))
