-- Reserved words and signs: the table of how each is spelled.
use Rattle.std.specs.Prelude.{ℕ, Bool, not, if◌then◌else◌, List, [], ◌∷◌, map, filter, slice_index, codes}
use Rattle.std.specs.Char.{is_ascii_alphabetic}
use Rattle.std.specs.List.{list_any}
use Rattle.std.specs.Str.{bytes_eq}
use denote.Enum.Bare.{sameb}
use Rattle.setl_tree.specs.declared.kind.Kind.{Kind}
use Rattle.setl_tree.specs.declared.kind.Kind.TheVariants as k
use Rattle.setl_tree.specs.contracts.kind.Kind.{the_type}

abbrev pub Spelling : Type 0
Spelling = List ℕ × Kind

-- the reserved words in lower case and the signs, the shortest first
unfoldable pub spellings : List Spelling
spellings =
    (codes ";", k.Semicolon) ∷
    (codes ":", k.Colon) ∷
    (codes ",", k.Comma) ∷
    (codes "(", k.LeftParen) ∷
    (codes ")", k.RightParen) ∷
    (codes "{", k.LeftBrace) ∷
    (codes "}", k.RightBrace) ∷
    (codes "[", k.LeftBracket) ∷
    (codes "]", k.RightBracket) ∷
    (codes "|", k.Bar) ∷
    (codes "=", k.Equal) ∷
    (codes "<", k.LessThan) ∷
    (codes ">", k.GreaterThan) ∷
    (codes "+", k.Plus) ∷
    (codes "-", k.Minus) ∷
    (codes "*", k.Star) ∷
    (codes "/", k.Slash) ∷
    (codes "#", k.Hash) ∷
    (codes "if", k.If) ∷
    (codes "in", k.In) ∷
    (codes "ok", k.Ok) ∷
    (codes "om", k.Om) ∷
    (codes "or", k.Or) ∷
    (codes "rd", k.Rd) ∷
    (codes "rw", k.Rw) ∷
    (codes "wr", k.Wr) ∷
    (codes ":=", k.Assign) ∷
    (codes "..", k.Dots) ∷
    (codes "/=", k.NotEqual) ∷
    (codes "<=", k.AtMost) ∷
    (codes ">=", k.AtLeast) ∷
    (codes "**", k.Power) ∷
    (codes "abs", k.Abs) ∷
    (codes "and", k.And) ∷
    (codes "arb", k.Arb) ∷
    (codes "div", k.Div) ∷
    (codes "end", k.End) ∷
    (codes "eof", k.Eof) ∷
    (codes "for", k.For) ∷
    (codes "int", k.Int) ∷
    (codes "max", k.Max) ∷
    (codes "min", k.Min) ∷
    (codes "mod", k.Mod) ∷
    (codes "not", k.Not) ∷
    (codes "odd", k.Odd) ∷
    (codes "pow", k.Pow) ∷
    (codes "set", k.Set) ∷
    (codes "str", k.Str) ∷
    (codes "var", k.Var) ∷
    (codes "atom", k.Atom) ∷
    (codes "base", k.Base) ∷
    (codes "elmt", k.Elmt) ∷
    (codes "else", k.Else) ∷
    (codes "even", k.Even) ∷
    (codes "fail", k.Fail) ∷
    (codes "from", k.From) ∷
    (codes "impl", k.Impl) ∷
    (codes "incs", k.Incs) ∷
    (codes "less", k.Less) ∷
    (codes "mmap", k.Mmap) ∷
    (codes "npow", k.Npow) ∷
    (codes "pass", k.Pass) ∷
    (codes "proc", k.Proc) ∷
    (codes "quit", k.Quit) ∷
    (codes "read", k.Read) ∷
    (codes "repr", k.Repr) ∷
    (codes "smap", k.Smap) ∷
    (codes "stop", k.Stop) ∷
    (codes "then", k.Then) ∷
    (codes "true", k.True) ∷
    (codes "with", k.With) ∷
    (codes "false", k.False) ∷
    (codes "fromb", k.Fromb) ∷
    (codes "frome", k.Frome) ∷
    (codes "lessf", k.Lessf) ∷
    (codes "local", k.Local) ∷
    (codes "newat", k.Newat) ∷
    (codes "notin", k.Notin) ∷
    (codes "print", k.Print) ∷
    (codes "range", k.Range) ∷
    (codes "tuple", k.Tuple) ∷
    (codes "while", k.While) ∷
    (codes "domain", k.Domain) ∷
    (codes "elseif", k.Elseif) ∷
    (codes "exists", k.Exists) ∷
    (codes "forall", k.Forall) ∷
    (codes "is_map", k.IsMap) ∷
    (codes "is_set", k.IsSet) ∷
    (codes "remote", k.Remote) ∷
    (codes "return", k.Return) ∷
    (codes "sparse", k.Sparse) ∷
    (codes "string", k.String) ∷
    (codes "subset", k.Subset) ∷
    (codes "boolean", k.Boolean) ∷
    (codes "general", k.General) ∷
    (codes "integer", k.Integer) ∷
    (codes "is_atom", k.IsAtom) ∷
    (codes "program", k.Program) ∷
    (codes "succeed", k.Succeed) ∷
    (codes "continue", k.Continue) ∷
    (codes "is_tuple", k.IsTuple) ∷
    (codes "is_string", k.IsString) ∷
    (codes "notexists", k.Notexists) ∷
    (codes "procedure", k.Procedure) ∷
    (codes "is_boolean", k.IsBoolean) ∷
    (codes "is_integer", k.IsInteger) ∷ []

-- the kind that a text is listed with
abbrev pub kind_in : List Spelling → List ℕ → Kind
kind_in [] text = k.SourceEnd
kind_in (s ∷ others) text = if bytes_eq text s.0 then s.1 else kind_in others text

-- the text that a kind is listed with
abbrev pub text_in : List Spelling → Kind → List ℕ
text_in [] kind = []
text_in (s ∷ others) kind = if sameb the_type s.1 kind then s.0 else text_in others kind

-- a reserved word in lower case, or a sign; nothing for the kinds that have no one spelling
unfoldable pub spelling : Kind → List ℕ
spelling kind = text_in spellings kind

-- a kind of tokens that are all spelled alike
abbrev pub IsSpelled : Kind → Type 0
IsSpelled k.SourceEnd = ⊥
IsSpelled k.Name = ⊥
IsSpelled k.Number = ⊥
IsSpelled k.StringLiteral = ⊥
IsSpelled _ = Unit {0}

-- the texts that are listed: the reserved words in lower case, and the signs
unfoldable pub listed : List (List ℕ)
listed = map (λ s. s.0) spellings

-- a sign doesn't begin with a letter
abbrev pub is_sign : List ℕ → Bool
is_sign text = not (is_ascii_alphabetic (slice_index text 0))

unfoldable pub signs : List (List ℕ)
signs = filter is_sign listed

-- whether a text in lower case that begins with a letter is a reserved word
abbrev pub is_reserved : List ℕ → Bool
is_reserved text = list_any (bytes_eq text) listed
