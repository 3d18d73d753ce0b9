-- The computed reading is what the relations say.
use Rattle.std.specs.Prelude.{◌≡◌, ◌↔◌, List, [], ◌∷◌, ◌++◌, ℕ, Option}
use Rattle.setl_value.specs.Datum.{Datum}
use Rattle.setl_text.specs.Denoted.{Denoted, ReadFails, Form, Wide, Deep, OnlyBlanks}
use Rattle.setl_text.specs.Reading.{Reading, Denotes, AtEnd, NotForm, TooWide, TooDeep, read_denotation}

-- what an input is read as, by the relations
abbrev pub ReadsAs : List ℕ → Reading → Type 0
ReadsAs bs (Denotes v rest) = Denoted bs v rest
ReadsAs bs AtEnd = OnlyBlanks bs
ReadsAs bs NotForm = ReadFails bs Form
ReadsAs bs TooWide = ReadFails bs Wide
ReadsAs bs TooDeep = ReadFails bs Deep

-- each input is read as exactly one thing, and `read_denotation` computes it
abbrev pub ReadsExactly : Type 0
ReadsExactly = (bs : List ℕ) (r : Reading) → ReadsAs bs r ↔ (read_denotation bs ≡ r)

-- some bytes behind these make a denotation of them
abbrev pub CanContinue : List ℕ → Type 0
CanContinue bs = (more : List ℕ) × (v : Option Datum) × (rest : List ℕ) × Denoted (bs ++ more) v rest

-- with the first of the other bytes, whatever follows, there is no denotation any more; or there is no other byte
abbrev pub StopsThere : List ℕ → List ℕ → Type 0
StopsThere bs [] = Unit {0}
StopsThere bs (b ∷ rest) = (more : List ℕ) (v : Option Datum) (left : List ℕ) → Denoted (bs ++ b ∷ more) v left → ⊥

-- `Form` stands at the first byte with which the bytes so far begin no denotation, or at the end inside of one
abbrev pub FormStandsFirst : Type 0
FormStandsFirst = (bs : List ℕ) → ReadFails bs Form → (up_to : List ℕ) × (from : List ℕ) × (bs ≡ up_to ++ from) × CanContinue up_to × StopsThere up_to from
