-- Which kinds of tokens can stand at a place.
use Rattle.std.specs.Prelude.{◌≡◌, ℕ, ◌+◌, List, ◌∷◌, ◌++◌, take}
use Rattle.setl_tree.specs.declared.kind.Kind.{Kind}
use Rattle.setl_token.specs.Lex.{Spelled}
use Rattle.setl_token.specs.Text.{Lexed}
use Rattle.setl_token.specs.declared.Token.{Token}
use Rattle.setl_parse.specs.Places.{IsFaultOf}
use Rattle.setl_parse.specs.declared.fault.ParseFault.{ParseFault}
use Rattle.setl_parse.specs.declared.fault.ParseFault.TheVariants as fault
use Rattle.setl_explain_words.specs.Kinds.{sample}
use Rattle.setl_explain_next.specs.Candidates.{candidates}
use Rattle.setl_explain_next.specs.Firsts.{AreFirst}

-- the source up to a place, and behind it a line feed and a token of a kind
abbrev pub continued : List ℕ → ℕ → Kind → List ℕ
continued source at kind = take at source ++ 10 ∷ sample kind

-- the fault stands at this place
abbrev pub StandsAt : ℕ → ParseFault → Type 0
StandsAt place (fault.Syntax at) = at ≡ place
StandsAt place (fault.Nesting at) = at ≡ place
StandsAt place fault.NoMemory = ⊥

-- the tokens have no fault at this place
abbrev pub HasNoFaultAt : Lexed → ℕ → Type 0
HasNoFaultAt l place = (stop : ParseFault) → IsFaultOf l stop → StandsAt place stop → ⊥

-- a text is spelled of tokens that have no fault at a place
pub record GoesOnAt (text : List ℕ) (place : ℕ) : Type 0 where
  pub tokens : List Token
  pub spelled : Spelled text tokens
  pub goes_on : HasNoFaultAt (record { source = text; tokens = tokens }) place

-- The source up to a place can go on with a token of this kind: with one behind it, the tokens have no fault there.
abbrev pub GoesOn : List ℕ → ℕ → Kind → Type 0
GoesOn source at kind = GoesOnAt (continued source at kind) (at + 1)

-- these are the first ten kinds with which it can go on
abbrev pub IsNext : List ℕ → ℕ → List Kind → Type 0
IsNext source at kinds = AreFirst (GoesOn source at) 10 candidates kinds

-- a place has one such list
abbrev pub OneList : Type 0
OneList = (source : List ℕ) (at : ℕ) (one two : List Kind) → IsNext source at one → IsNext source at two → one ≡ two
