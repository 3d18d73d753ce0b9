-- What a call of the reader answers.
use Rattle.std.specs.Prelude.{◌≡◌, ◌⊎◌, ℕ, List, [], ◌++◌, Bool, true, false, Result, Ok, Err, Option, Some, None, ⊤}
use Rattle.std.specs.Io.KnownBytes.{Consumes, Keeps, IsAtEnd}
use Rattle.setl_io.specs.Faults.{Rose}
use Rattle.setl_io.specs.Source.{AreBytes, TellsBytes}
use Rattle.setl_value.specs.code.DatumOf.{datum, part}
use Rattle.setl_text.specs.Reading.{Reading, Denotes, AtEnd, NotForm, TooWide, TooDeep, Token, Open, resume, read_denotation}
use Rattle.setl_text.specs.code.Scans.{token_of, TokenFits, IsShallow}
use Rattle.setl_text.specs.declared.read.Scanned.{Scanned}
use Rattle.setl_text.specs.declared.read.Scanned.TheVariants.{Onward, Found}
use Rattle.setl_text.specs.declared.Got.{Got}
use Rattle.setl_text.specs.declared.Got.TheVariants.{Value, Om, End}
use Rattle.setl_text.specs.declared.ReadFault.{ReadFault}
use Rattle.setl_text.specs.declared.ReadFault.TheVariants.{Form, Wide, Deep, Source, NoMemory}

-- the bytes that a reader took from its input and that no denotation took, whether the input told its end, and the fault
-- that the reader answers
pub record ReaderState : Type 0 where
  pub kept : List ℕ
  pub ended : Bool
  pub fault : Option ReadFault

-- The bytes that a reader has still to come from an input, where they are told: none behind an end that the input told,
-- since it isn't asked again.
abbrev pub ahead : (ended : Bool) → Option (List ℕ) → Option (List ℕ)
ahead true left = Some []
ahead false left = left

-- an end was told only where no byte was left, if that was so before; of an input that doesn't tell its bytes nothing is
-- said
abbrev pub StaysHonest : (ended : Bool) → Option (List ℕ) → (ended' : Bool) → Option (List ℕ) → Type 0
StaysHonest ended None ended' left' = ⊤
StaysHonest ended (Some left) ended' left' = (ended ≡ true → left ≡ []) → ended' ≡ true → IsAtEnd left'

-- some bytes were taken off the front of an input
abbrev pub TakesOff : Option (List ℕ) → Option (List ℕ) → Type 0
TakesOff left left' = (bytes : List ℕ) × Consumes left left' bytes

-- the answer to bytes that are read as this, where these are left behind it
abbrev pub Answered : Result Got ReadFault → List ℕ → Reading → Type 0
Answered (Ok (Value v)) rest r = r ≡ Denotes (Some (datum v)) rest
Answered (Ok Om) rest r = r ≡ Denotes None rest
Answered (Ok End) rest r = (r ≡ AtEnd) × (rest ≡ [])
Answered (Err Form) rest r = r ≡ NotForm
Answered (Err Wide) rest r = r ≡ TooWide
Answered (Err Deep) rest r = r ≡ TooDeep
Answered (Err Source) rest r = ⊤
Answered (Err NoMemory) rest r = ⊤

-- where the bytes left of the input are told, the answer is that to the bytes kept followed by those left
abbrev pub AnswersTold : List ℕ → Option (List ℕ) → List ℕ → Option (List ℕ) → Result Got ReadFault → Type 0
AnswersTold kept None kept' left' result = ⊤
AnswersTold kept (Some left) kept' None result = ⊥
AnswersTold kept (Some left) kept' (Some left') result = Answered result (kept' ++ left') (read_denotation (kept ++ left))

-- Of any input: it gave some bytes, and the answer is that to the bytes kept followed by these, whatever comes behind. What
-- it tells after that are bytes, if that was so before.
pub record Gave (kept : List ℕ) (left : Option (List ℕ)) (kept' : List ℕ) (left' : Option (List ℕ)) (result : Result Got ReadFault) : Type 0 where
  pub gave : List ℕ
  pub bytes : AreBytes gave
  pub taken : Consumes left left' gave
  pub tells : TellsBytes left → TellsBytes left'
  pub answered : (more : List ℕ) → Answered result (kept' ++ more) (read_denotation (kept ++ (gave ++ more)))

-- where the bytes left are told, these were all of them
abbrev pub IsAll : Option (List ℕ) → List ℕ → Type 0
IsAll None gave = ⊤
IsAll (Some left) gave = left ≡ gave

-- Or it gave some bytes and then told its end, and the answer is that to the bytes kept followed by these alone.
pub record GaveAll (kept : List ℕ) (left : Option (List ℕ)) (kept' : List ℕ) (left' : Option (List ℕ)) (result : Result Got ReadFault) : Type 0 where
  pub gave : List ℕ
  pub bytes : AreBytes gave
  pub all : IsAll left gave
  pub none : left' ≡ Some []
  pub empty : kept' ≡ []
  pub answered : Answered result [] (read_denotation (kept ++ gave))

abbrev pub Answers : List ℕ → Option (List ℕ) → List ℕ → Option (List ℕ) → Result Got ReadFault → Type 0
Answers kept left kept' left' result = Gave kept left kept' left' result ⊎ GaveAll kept left kept' left' result

-- a fault is kept
abbrev pub KeepsFault : Result Got ReadFault → Option ReadFault → Type 0
KeepsFault (Ok got) fault = fault ≡ None
KeepsFault (Err f) fault = fault ≡ Some f

-- `Source` comes only where the count of faults rose, and otherwise the count stays
abbrev pub SourceCounts : {A : Type 0} → ℕ → ℕ → Result A ReadFault → Type 0
SourceCounts before now (Ok got) = now ≡ before
SourceCounts before now (Err Source) = Rose before now
SourceCounts before now (Err Form) = now ≡ before
SourceCounts before now (Err Wide) = now ≡ before
SourceCounts before now (Err Deep) = now ≡ before
SourceCounts before now (Err NoMemory) = now ≡ before

-- the bytes kept were taken, or those before the end of the denotation
abbrev pub ScansKept : List ℕ → List ℕ → Token → List Open → List Open → Result Scanned ReadFault → Type 0
ScansKept kept kept' t os new (Ok (Onward p)) = ((more : List ℕ) → resume (kept ++ more) t os ≡ resume more (token_of p) new) × ((kept' ≡ []) × (TokenFits (token_of p) × IsShallow new))
ScansKept kept kept' t os new (Ok (Found v n)) = (more : List ℕ) → resume (kept ++ more) t os ≡ Denotes (part v) (kept' ++ more)
ScansKept kept kept' t os new (Err Form) = (more : List ℕ) → resume (kept ++ more) t os ≡ NotForm
ScansKept kept kept' t os new (Err Wide) = (more : List ℕ) → resume (kept ++ more) t os ≡ TooWide
ScansKept kept kept' t os new (Err Deep) = (more : List ℕ) → resume (kept ++ more) t os ≡ TooDeep
ScansKept kept kept' t os new (Err Source) = ⊥
ScansKept kept kept' t os new (Err NoMemory) = ⊤

-- the input gave the bytes that are kept now, or told its end, or failed
abbrev pub Fills : Option (List ℕ) → Option (List ℕ) → List ℕ → Result Bool ReadFault → Type 0
Fills left left' kept' (Ok true) = Consumes left left' kept' × AreBytes kept' × TellsBytes left'
Fills left left' kept' (Ok false) = IsAtEnd left × ((left' ≡ Some []) × (kept' ≡ []))
Fills left left' kept' (Err Source) = Keeps left left' × TellsBytes left'
Fills left left' kept' (Err Form) = ⊥
Fills left left' kept' (Err Wide) = ⊥
Fills left left' kept' (Err Deep) = ⊥
Fills left left' kept' (Err NoMemory) = ⊥
