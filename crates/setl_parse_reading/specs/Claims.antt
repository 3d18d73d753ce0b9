-- What is claimed of reading and of the grammar.
use Rattle.std.specs.Prelude.{◌≡◌, ◌⊎◌, ℕ, ◌≤◌, [], ◌∷◌, length, Ok, Err}
use Rattle.setl_tree.specs.declared.tree.Tree.{Tree}
use Rattle.setl_tree.specs.Tokens.{Token, Tokens}
use Rattle.setl_tree.specs.Programs as grammar
use Rattle.setl_tree.specs.Programs.{Derives}
use Rattle.setl_tree.specs.Canonical.{canonical}
use Rattle.setl_parse_reading.specs.declared.fault.Fault.{Fault}
use Rattle.setl_parse_reading.specs.declared.fault.Fault.TheVariants.{Syntax, Nesting}
use Rattle.setl_parse_reading.specs.code.Reading.{Outcome}
use Rattle.setl_parse_reading.specs.Fronts.{FaultOf}
use Rattle.setl_parse_reading.specs.code.ReadPrograms as reading

-- a tree that is read to the end of the tokens is one that they derive with so many nestings
abbrev pub ReadingIsSound : Type 0
ReadingIsSound = (room : ℕ) (toks : Tokens) (tree : Tree) → reading.program room toks ≡ Ok (tree, []) → grammar.program room toks tree

-- a tree that tokens derive with so many nestings is read from them
abbrev pub ReadingIsComplete : Type 0
ReadingIsComplete = (room : ℕ) (toks : Tokens) (tree : Tree) → grammar.program room toks tree → reading.program room toks ≡ Ok (tree, [])

-- what tokens derive with some nestings they derive where more may open
abbrev pub NestingsMayBeMore : Type 0
NestingsMayBeMore = (room more : ℕ) (toks : Tokens) (tree : Tree) → room ≤ more → grammar.program room toks tree → grammar.program more toks tree

-- reading ended at a token that opens one nesting too many
abbrev pub IsTooDeep : {A : Type 0} → Outcome A → Type 0
IsTooDeep o = (left : ℕ) × (o ≡ Err (Nesting left))

-- where fewer nestings may open, a program is read with the same outcome, or reading ends at a nesting
abbrev pub NestingsMayBeFewer : Type 0
NestingsMayBeFewer = (room more : ℕ) (toks : Tokens) → room ≤ more → (reading.program room toks ≡ reading.program more toks) ⊎ IsTooDeep (reading.program room toks)

-- tokens derive at most one tree, however many nestings there are
abbrev pub TreeIsUnique : Type 0
TreeIsUnique = (toks : Tokens) (one two : Tree) → Derives toks one → Derives toks two → one ≡ two

-- the canonical tokens of a tree that some tokens derive, derive that tree
abbrev pub CanonicalTokensDerive : Type 0
CanonicalTokensDerive = (toks : Tokens) (tree : Tree) → Derives toks tree → Derives (canonical tree) tree

-- where reading faults, the tokens have this fault
abbrev pub FaultIsExact : Type 0
FaultIsExact = (room : ℕ) (toks : Tokens) (fault : Fault) → reading.program room toks ≡ Err fault → FaultOf room toks fault

-- where a program is read and tokens are left, the tokens have a fault of syntax at the first of them
abbrev pub LeftoverIsExact : Type 0
LeftoverIsExact = (room : ℕ) (toks : Tokens) (tree : Tree) (t : Token) (rest : Tokens) → reading.program room toks ≡ Ok (tree, t ∷ rest) → FaultOf room toks (Syntax (length (t ∷ rest)))

-- tokens have one fault at most
abbrev pub FaultIsUnique : Type 0
FaultIsUnique = (room : ℕ) (toks : Tokens) (one two : Fault) → FaultOf room toks one → FaultOf room toks two → one ≡ two

-- tokens that derive a tree within so many nestings have none
abbrev pub ProgramsHaveNoFault : Type 0
ProgramsHaveNoFault = (room : ℕ) (toks : Tokens) (tree : Tree) (fault : Fault) → grammar.program room toks tree → FaultOf room toks fault → ⊥
