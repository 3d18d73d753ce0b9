-- What is claimed of canonical texts.
use Rattle.std.specs.Prelude.{◌≡◌, ◌⊎◌, ℕ, List, Result, Ok, Err}
use Rattle.setl_tree.specs.declared.tree.Tree.{Tree}
use Rattle.setl_tree.specs.Tokens.{Tokens}
use Rattle.setl_tree.specs.Programs as grammar
use Rattle.setl_tree.specs.Programs.{Derives}
use Rattle.setl_tree.specs.Canonical.{canonical}
use Rattle.setl_parse_reading.specs.declared.fault.Fault.TheVariants.{Nesting}
use Rattle.setl_parse_reading.specs.Fronts.{FaultOf}
use Rattle.setl_token.specs.Lex.{Spelled}
use Rattle.setl_token.specs.Text.{Lexed}
use Rattle.setl_show.specs.Text.{text_of}
use Rattle.setl_parse_cursor.specs.Plain.{plain_tokens}
use Rattle.setl_parse.specs.declared.fault.ParseFault.{ParseFault}
use Rattle.setl_parse.specs.declared.fault.ParseFault.TheVariants as fault
use Rattle.setl_show_laws.specs.Lines.{SameTree, SameTokens}
use Rattle.setl_show_laws.specs.Reading.{IsSpelledAs, AreLegal}

-- the text of tokens that bytes can spell is spelled as these tokens
abbrev pub TextIsSpelled : Type 0
TextIsSpelled = (toks : Tokens) → AreLegal toks → IsSpelledAs (text_of toks) toks

-- a source is spelled as one list of tokens, up to lines
abbrev pub SpellingIsDetermined : Type 0
SpellingIsDetermined = (source : List ℕ) (toks other : Tokens) → IsSpelledAs source toks → IsSpelledAs source other → SameTokens toks other

-- where the tokens of some source derive a tree, its canonical text is spelled as its canonical tokens
abbrev pub CanonicalTextIsSpelled : Type 0
CanonicalTextIsSpelled = (source : List ℕ) (toks : Tokens) (tree : Tree) → IsSpelledAs source toks → Derives toks tree → IsSpelledAs (text_of (canonical tree)) (canonical tree)

-- tokens derive this tree, up to lines
pub record DerivesSame (toks : Tokens) (tree : Tree) : Type 0 where
  pub it : Tree
  pub derived : Derives toks it
  pub same : SameTree tree it

-- tokens that differ in their lines alone derive the same tree, up to lines
abbrev pub LinesDoNotMatter : Type 0
LinesDoNotMatter = (toks other : Tokens) (tree : Tree) → SameTokens toks other → Derives toks tree → DerivesSame other tree

-- where the tokens of some source derive a tree, the tokens of its canonical text derive it, up to lines
abbrev pub CanonicalTextDerives : Type 0
CanonicalTextDerives = (source : List ℕ) (toks : Tokens) (tree : Tree) → IsSpelledAs source toks → Derives toks tree
    → (shown : Tokens) → IsSpelledAs (text_of (canonical tree)) shown → DerivesSame shown tree

-- the tokens of a source as plain data are what its bytes read as
abbrev pub SourceIsSpelled : Type 0
SourceIsSpelled = (l : Lexed) → Spelled l.source l.tokens → IsSpelledAs l.source (plain_tokens l)

-- a source with its tokens, which derive a tree
pub record HasTree (l : Lexed) (tree : Tree) : Type 0 where
  pub spelled : Spelled l.source l.tokens
  pub derived : Derives (plain_tokens l) tree

-- the canonical text of a tree, with its tokens
pub record IsTextOf (l : Lexed) (tree : Tree) : Type 0 where
  pub text : l.source ≡ text_of (canonical tree)
  pub spelled : Spelled l.source l.tokens

-- where the tokens of some source derive a tree, its canonical text has tokens
abbrev pub ShownTextHasTokens : Type 0
ShownTextHasTokens = (l : Lexed) (tree : Tree) → HasTree l tree → (shown : Lexed) × IsTextOf shown tree

-- and these derive the tree, up to lines
abbrev pub ShownTextDerives : Type 0
ShownTextDerives = (l shown : Lexed) (tree : Tree) → HasTree l tree → IsTextOf shown tree → DerivesSame (plain_tokens shown) tree

-- and no other tree
abbrev pub ShownTextDerivesNoOther : Type 0
ShownTextDerivesNoOther = (l shown : Lexed) (tree other : Tree) → HasTree l tree → IsTextOf shown tree → Derives (plain_tokens shown) other → SameTree tree other

-- tokens derive the tree within so many nestings, up to lines, or their fault is one of nesting
abbrev pub DerivesOrNests : ℕ → Tokens → Tree → Type 0
DerivesOrNests room toks tree = ((it : Tree) × grammar.program room toks it × SameTree tree it) ⊎ ((left : ℕ) × FaultOf room toks (Nesting left))

-- however few nestings may open, they derive the tree, up to lines, or their fault is one of nesting
abbrev pub ShownTextIsRead : Type 0
ShownTextIsRead = (l shown : Lexed) (tree : Tree) (room : ℕ) → HasTree l tree → IsTextOf shown tree → DerivesOrNests room (plain_tokens shown) tree

-- trees that are the same up to lines have the same canonical text
abbrev pub SameTreesAreShownAlike : Type 0
SameTreesAreShownAlike = (tree other : Tree) → SameTree tree other → text_of (canonical tree) ≡ text_of (canonical other)

-- each tree that the tokens of the canonical text derive is shown as this text again
abbrev pub ShownTextStays : Type 0
ShownTextStays = (l shown : Lexed) (tree other : Tree) → HasTree l tree → IsTextOf shown tree → Derives (plain_tokens shown) other → text_of (canonical other) ≡ shown.source

-- a parser gives the tree, up to lines, or stops at a nesting or for want of memory, and never for its syntax
abbrev pub IsParsedAs : Result Tree ParseFault → Tree → Type 0
IsParsedAs (Ok it) tree = SameTree tree it
IsParsedAs (Err (fault.Syntax at)) tree = ⊥
IsParsedAs (Err (fault.Nesting at)) tree = Unit {0}
IsParsedAs (Err fault.NoMemory) tree = Unit {0}
