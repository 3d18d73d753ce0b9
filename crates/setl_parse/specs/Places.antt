-- The places of faults.
use Rattle.std.specs.Prelude.{◌≡◌, ◌⊎◌, ℕ, ◌-◌, length, slice_get, Option, Some, None}
use Rattle.setl_tree.specs.declared.tree.Tree.{Tree}
use Rattle.setl_tree.specs.Programs as grammar
use Rattle.setl_token.specs.declared.Token.{Token as Lexeme}
use Rattle.setl_token.specs.Text.{Lexed}
use Rattle.setl_parse_reading.specs.declared.fault.Fault.{Fault}
use Rattle.setl_parse_reading.specs.declared.fault.Fault.TheVariants as left
use Rattle.setl_parse_reading.specs.Fronts.{FaultOf}
use Rattle.setl_parse_cursor.specs.Plain.{plain_tokens}
use Rattle.setl_parse.specs.declared.fault.ParseFault.{ParseFault}
use Rattle.setl_parse.specs.declared.fault.ParseFault.TheVariants as at

-- the first byte of a token, or the length of the source where there is none
abbrev pub first_byte : Option Lexeme → ℕ → ℕ
first_byte (Some t) end = t.from
first_byte None end = end

-- the place at which so many tokens are left
abbrev pub place_of : Lexed → ℕ → ℕ
place_of l count = first_byte (slice_get l.tokens (length l.tokens - count)) (length l.source)

abbrev pub fault_of : Lexed → Fault → ParseFault
fault_of l left.Memory = at.NoMemory
fault_of l (left.Syntax count) = at.Syntax (place_of l count)
fault_of l (left.Nesting count) = at.Nesting (place_of l count)

-- This is the fault of the tokens of a source, with its place: of syntax where they go wrong, or of nesting at the first
-- one that opens the 201st.
abbrev pub IsFaultOf : Lexed → ParseFault → Type 0
IsFaultOf l fault = (e : Fault) × FaultOf 200 (plain_tokens l) e × (fault ≡ fault_of l e)

-- the tokens of a source have one fault at most
abbrev pub FaultIsUnique : Type 0
FaultIsUnique = (l : Lexed) (one two : ParseFault) → IsFaultOf l one → IsFaultOf l two → one ≡ two

-- tokens that derive a tree within 200 nestings have none
abbrev pub ProgramsHaveNoFault : Type 0
ProgramsHaveNoFault = (l : Lexed) (tree : Tree) (fault : ParseFault) → grammar.program 200 (plain_tokens l) tree → IsFaultOf l fault → ⊥

-- all others have one
abbrev pub OthersHaveAFault : Type 0
OthersHaveAFault = (l : Lexed) → ((tree : Tree) × grammar.program 200 (plain_tokens l) tree) ⊎ ((fault : ParseFault) × IsFaultOf l fault)
