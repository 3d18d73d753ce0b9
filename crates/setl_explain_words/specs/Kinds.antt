-- Kinds of tokens: one of each, and how it is told.
use Rattle.std.specs.Prelude.{ℕ, List, [], ◌∷◌, ◌++◌, codes}
use Rattle.setl_tree.specs.declared.kind.Kind.{Kind}
use Rattle.setl_tree.specs.declared.kind.Kind.TheVariants as k
use Rattle.setl_token.specs.Spellings.{spelling}

-- a token of a kind: the word or sign itself, or some name, number or string
abbrev pub sample : Kind → List ℕ
sample k.Name = codes "a"
sample k.Number = codes "0"
sample k.StringLiteral = codes "''"
sample kind = spelling kind

-- the word or sign of a kind between grave accents
abbrev pub quoted : Kind → List ℕ
quoted kind = 96 ∷ spelling kind ++ 96 ∷ []

-- how a kind of tokens is told
abbrev pub kind_text : Kind → List ℕ
kind_text k.Name = codes "a name"
kind_text k.Number = codes "a number"
kind_text k.StringLiteral = codes "a string"
kind_text kind = quoted kind
